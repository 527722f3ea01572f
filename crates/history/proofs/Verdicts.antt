-- The verdict of a comparison whose steps were handed its schemas is right. Assumes nothing.
use Rattle.std.proofs.Common.{◌≡◌, ℕ, ◌-◌, true, List, [], ◌∷◌, Ok, sym, refl, subst, inl}
use Rattle.std.specs.List.{AllByRecursion}
use Rattle.std.proofs.lemmas.Bool.{both_ways, false≢true}
use Rattle.schema.specs.Automata.{Automaton}
use Rattle.compare.specs.declared.area.Area.{Area}
use Rattle.compare.specs.declared.claim.Apart as parted
use Rattle.compare.specs.declared.claim.Comparing.{Comparing}
use Rattle.compare.specs.declared.claim.Lease.{Lease}
use Rattle.compare.specs.declared.claim.Numbers.{Numbers}
use Rattle.compare.specs.declared.conclude.Concluded.{Concluded}
use Rattle.compare.specs.declared.conclude.Concluded.TheVariants.{Included, Apart}
use Rattle.compare.specs.declared.event.Event.TheVariants.{Conclude}
use Rattle.compare.specs.declared.phase.Kind.{Kind}
use Rattle.compare.specs.declared.phase.Phase.TheVariants as phase
use Rattle.compare.specs.declared.phase.Verdict.TheVariants as verdict
use Rattle.compare.specs.Breaking.{ToldApart}
use Rattle.compare.specs.Concluding.{Conclusion}
use Rattle.compare.specs.Invariant.{LastBroken, Stands, Invariant, InvariantBegins, InvariantSteps, InvariantConcludes, IncludedCarries, ApartTells}
use Rattle.compare.specs.NotHolder.{is_holder}
use Rattle.compare.specs.View.{View, view}
use Rattle.compare.proofs.Invariant.{invariant_begins, invariant_steps, invariant_concludes, included_carries, apart_tells}
use Rattle.history.specs.Calls.{Handed, first_automaton, second_automaton, Same, Call, Runs, same_numbers, StepsOver}
use Rattle.history.specs.Comparisons.{Comparison, StepsOverItsOwn, IsHolder, ConcludesNow}
use Rattle.history.specs.Law.{Inclusion, ReachesBroken, Right}
use Rattle.history.proofs.Effects.{Effect, Keeps, Steps, Parts, effect, started_so}
use Rattle.history.proofs.Holders.{Standing, stands_now, stands_on, started_held}
use Rattle.history.proofs.Permits.{claim_permitted, held_holder}
use Rattle.history.proofs.Transport.{same_first, same_second}

-- the area has come as far as a comparison of these schemas does
abbrev pub InvariantFor : Handed → Area → Type 0
InvariantFor g a = Invariant (first_automaton g) (second_automaton g) (view a)

-- so it has for the same schemas
pub invariant_moved : (g h : Handed) (a : Area) → Same g h → InvariantFor g a → InvariantFor h a
invariant_moved g h a same invariant =
    subst (λ (X : Automaton). Invariant X (second_automaton h) (view a)) (same_first g h same) (subst (λ (Y : Automaton). Invariant (first_automaton g) Y (view a)) (same_second g h same) invariant)

invariant_back : (g h : Handed) (a : Area) → Same g h → InvariantFor h a → InvariantFor g a
invariant_back g h a same invariant =
    subst (λ (X : Automaton). Invariant X (second_automaton g) (view a)) (sym (same_first g h same)) (subst (λ (Y : Automaton). Invariant (first_automaton h) Y (view a)) (sym (same_second g h same)) invariant)

module _ (g : Handed) (n : Numbers) where
  -- it holds the area, which has come as far as a comparison of its schemas does; or it has ended
  abbrev pub Known : Area → Type 0
  Known = Standing n (InvariantFor g)

  -- what each call keeps
  pub known_on : (d : Call) (a a' : Area) → StepsOver n g d → Effect d a a' → Known a → Known a'
  unfolding InvariantSteps InvariantConcludes
  known_on d a a' over e = stands_on n (InvariantFor g) (InvariantFor g) kept stepped parted e
    where
      kept : Keeps d a a' → InvariantFor g a → InvariantFor g a'
      kept k invariant = subst (InvariantFor g) (sym k.same) invariant

      stepped : (s : Steps d a a') → same_numbers n s.numbers ≡ true → InvariantFor g a → InvariantFor g a'
      stepped s its invariant =
          let h = s.handed in
          let same : Same g h = subst (StepsOver n g) s.is over its in
          invariant_back g h a' same (invariant_steps h.first h.second h.first_sets h.second_sets s.numbers s.asked s.slots a s.answer a' s.does (invariant_moved g h a same invariant))

      parted : Parts d a a' → InvariantFor g a → InvariantFor g a'
      parted p invariant = invariant_concludes (first_automaton g) (second_automaton g) a p.claim p.kind p.count p.apart a' p.does invariant

  run_known :
      (cs : List Call) (a now : Area) → Runs cs a now → AllByRecursion (StepsOver n g) cs → Known a →
      Known now
  run_known [] a now runs over known = subst Known (sym runs) known
  run_known (d ∷ cs) a now runs over known = run_known cs runs.0 now runs.2 over.1 (known_on d a runs.0 over.0 (effect d a runs.0 runs.1) known)

module _ {a : Area} (c : Comparison a) where
  -- what a beginning gives
  pub begun_known : Known c.schemas c.claim c.begun
  unfolding InvariantBegins
  begun_known =
      let s = started_so c in
      let g = c.schemas in
      inl (started_held c, invariant_begins s.event g.first g.second g.first_sets g.second_sets c.at s.claim c.begun s.does)

  -- and what there is now, as long as its claim is the holder
  pub now_invariant : StepsOverItsOwn c → is_holder (view c.now) c.claim ≡ true → InvariantFor c.schemas c.now
  now_invariant over holder = stands_now c.claim (InvariantFor c.schemas) c.now (run_known c.schemas c.claim c.since c.begun c.now c.goes_on over begun_known) holder

  -- one that is concluded now is the holder's
  pub concluder : (v : Concluded) → ConcludesNow c v → IsHolder c
  concluder v asked =
      let its = claim_permitted (view c.now) asked.claim.numbers Conclude asked.does.0 in
      subst (λ (m : Numbers). is_holder (view c.now) m ≡ true) asked.own (held_holder (view c.now) asked.claim.numbers its.0)

module _ (A B : Automaton) where
  included_right : Inclusion A B → (count : ℕ) → Right A B (Included count)
  included_right all count =
      record {
        included = (λ _. all, λ _. refl);
        apart = (λ no. absurd (false≢true no), λ told. absurd (both_ways _ told.2 (all told.0 told.1)));
        kind = tt;
      }

  apart_right :
      ToldApart A B 0 0 → (k : Kind) (count : ℕ) (claim : Lease parted.Apart) →
      ReachesBroken A B (Apart k count claim) → Right A B (Apart k count claim)
  apart_right told k count claim broken =
      record {
        included = (λ no. absurd (false≢true no), λ all. absurd (both_ways _ told.2 (all told.0 told.1)));
        apart = (λ _. told, λ _. refl);
        kind = broken;
      }

  -- the pair that was examined last is reached
  last_reached :
      (w : View) (k : Kind) (count : ℕ) (claim : Lease parted.Apart) → Invariant A B w →
      w.phase ≡ phase.Ready (verdict.Apart k) → ReachesBroken A B (Apart k count claim)
  last_reached w k count claim invariant is =
      let last : LastBroken A B w k = subst (Stands A B w) is invariant.stands in
      let r = invariant.reached (w.examined - 1) last.pair last.at in
      record { word = r.0; first = last.pair.first; second = last.pair.second; live = r.2; beside = r.3; broken = last.broken }

  conclusion_right :
      (a a' : Area) (claim : Lease Comparing) (v : Concluded) → Invariant A B (view a) →
      Conclusion a claim (Ok v) a' → Right A B v
  unfolding IncludedCarries ApartTells
  conclusion_right a a' claim (Included count) invariant does = included_right (included_carries A B (view a) invariant does.1.0) count
  conclusion_right a a' claim (Apart k count apart) invariant does = apart_right (apart_tells A B (view a) k invariant (inl does.1.0)) k count apart (last_reached (view a) k count apart invariant does.1.0)

pub concluded :
    (a : Area) (c : Comparison a) → StepsOverItsOwn c → (v : Concluded) → ConcludesNow c v →
    Right (first_automaton c.schemas) (second_automaton c.schemas) v
concluded a c over v asked =
    conclusion_right (first_automaton c.schemas) (second_automaton c.schemas) c.now asked.after asked.claim v (now_invariant c over (concluder c v asked)) asked.does
