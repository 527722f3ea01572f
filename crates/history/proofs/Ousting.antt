-- A comparison holds its area until it is given up, concluded included or ousted; and what is asked
-- with its claim or numbers after another has begun is turned away. Assumes nothing.
use Rattle.std.proofs.Common.{◌≡◌, ℕ, true, false, ◌&&◌, eqb, List, [], ◌∷◌, Ok, Err, is_ok, Result, sym, ap, ◌∙◌, subst, ⊎_elim}
use Rattle.std.specs.List.{list_any}
use Rattle.std.proofs.lemmas.Bool.{and_from, both_ways, cases_Bool, cond-true, eq-eqb, false≢true, or_parts}
use Rattle.refusal.specs.declared.fault.Fault.{Fault}
use Rattle.refusal.specs.declared.fault.Fault.TheVariants.{Foreign, Ousted}
use Rattle.refusal.specs.declared.fault.Refusal.{Refusal}
use Rattle.compare.specs.declared.area.Area.{Area}
use Rattle.compare.specs.declared.claim.Lease.{Lease}
use Rattle.compare.specs.declared.claim.Numbers.{Numbers}
use Rattle.compare.specs.Concluding.{GivingUp}
use Rattle.compare.specs.NotHolder.{is_holder, refusal_of_not_holder, StepByNotHolder, ConclusionByNotHolder, TrailByNotHolder, GivingUpByNotHolder}
use Rattle.compare.specs.View.{View, view, is_free}
use Rattle.compare.proofs.NotHolder.{step_by_not_holder, conclusion_by_not_holder, trail_by_not_holder, giving_up_by_not_holder}
use Rattle.document.specs.Writing.{DocumentByNotHolder}
use Rattle.document.proofs.Outcomes.{document_by_not_holder}
use Rattle.history.specs.Calls.{Call, take_up, oust, step, conclude, trail, document, give_up, Does, Runs, same_numbers, is_made_with, some_own, is_inclusion, is_giving_up, is_ousting}
use Rattle.history.specs.Comparisons.{Comparison, own_call, IsHolder, NeitherOustedNorGivenUp, AnotherBegan, OwnNow}
use Rattle.history.specs.Law.{TurnedAway}
use Rattle.history.proofs.Effects.{Effect, keeps, begins, steps, parts, ends, effect}
use Rattle.history.proofs.Holders.{Gone, are_these, gone_same, held_part, held_step, holders, not_holders, run_begun, started_held}
use Rattle.history.proofs.Permits.{Held, holder_held, held_holder}

module _ (n : Numbers) where
  -- neither ousted, given up nor concluded included, it holds the area on
  held_through :
      (cs : List Call) (a now : Area) → Runs cs a now → Held n (view a) →
      list_any is_ousting cs ≡ false → some_own n is_giving_up cs ≡ false →
      some_own n is_inclusion cs ≡ false → Held n (view now)
  held_through [] a now runs held safe kept apart = subst (λ (x : Area). Held n (view x)) (sym runs) held
  held_through (d ∷ cs) a now runs held safe kept apart =
      let unousted = or_parts (is_ousting d) (list_any is_ousting cs) safe in
      let ungiven = or_parts (is_made_with n d && is_giving_up d) (some_own n is_giving_up cs) kept in
      let unincluded = or_parts (is_made_with n d && is_inclusion d) (some_own n is_inclusion cs) apart in
      held_through cs runs.0 now runs.2 (by unousted.0 ungiven.0 unincluded.0 (effect d a runs.0 runs.1)) unousted.1 ungiven.1 unincluded.1
    where
      by :
          is_ousting d ≡ false → (is_made_with n d && is_giving_up d) ≡ false →
          (is_made_with n d && is_inclusion d) ≡ false → Effect d a runs.0 → Held n (view runs.0)
      by unousted ungiven unincluded (keeps k) = subst (λ (x : Area). Held n (view x)) (sym k.same) held
      by unousted ungiven unincluded (begins b) = absurd (⊎_elim (both_ways (is_ousting d) unousted) (both_ways (is_free a.phase) held.busy) b.how)
      by unousted ungiven unincluded (steps s) = held_step n s held
      by unousted ungiven unincluded (parts p) = held_part n p held
      by unousted ungiven unincluded (ends e) =
          let its : is_made_with n d ≡ true = e.made n ∙ holders n (view a) e.numbers held e.holder in
          absurd (⊎_elim (λ included. both_ways _ unincluded (and_from _ _ its included)) (λ gives. both_ways _ ungiven (and_from _ _ its gives)) e.which)

  -- no claim with its numbers is the holder, where it has ended
  not_held : (w : View) (m : Numbers) → Gone n w → same_numbers n m ≡ true → is_holder w m ≡ false
  not_held w m gone its = ⊎_elim (λ yes. absurd (not_holders n w m gone (holder_held w m yes) its)) (λ no. no) (cases_Bool (is_holder w m))

  -- what is accepted is not refused
  accepted : {X E : Type 0} (x : X) (e : E) → ◌≡◌ {A = Result X E} (Ok x) (Err e) → ⊥
  accepted x e is = false≢true (sym (ap is_ok is))

  -- the refusal of a claim of this area that is not the holder's is `ousted`
  says_ousted :
      (w : View) (m : Numbers) → w.number ≡ n.area → same_numbers n m ≡ true → (refusal_of_not_holder w m).fault ≡ Ousted
  says_ousted w m near its = cond-true (eqb m.area w.number) Ousted Foreign (eq-eqb m.area w.number ((are_these n m its).0 ∙ sym near))

  gives_none :
      (m : Numbers) (a a' : Area) (r : Result ℕ Refusal) → GivingUp a m r a' → Gone n (view a) →
      same_numbers n m ≡ true → r ≡ Ok 0
  unfolding GivingUpByNotHolder
  gives_none m a a' r does gone its =
      (giving_up_by_not_holder a m r a' does (not_held (view a) m gone its)).0
      ∙ cond-true (eqb m.area a.number) (Ok 0) _ (eq-eqb m.area a.number ((are_these n m its).0 ∙ sym gone.number))

  turned_away :
      (d : Call) (a a' : Area) → Does d a a' → Gone n (view a) → is_made_with n d ≡ true → TurnedAway d
  unfolding StepByNotHolder ConclusionByNotHolder TrailByNotHolder DocumentByNotHolder
  turned_away (take_up h r) a a' does gone its = tt
  turned_away (oust h r) a a' does gone its = tt
  turned_away (step m h k slots (Ok answer)) a a' does gone its =
      let s = step_by_not_holder h.first h.second h.first_sets h.second_sets m k slots a (Ok answer) a' does (not_held (view a) m gone its) in
      accepted answer s.0 s.1
  turned_away (step m h k slots (Err e)) a a' does gone its = tt
  turned_away (conclude c (Ok v)) a a' does gone its = accepted v _ (conclusion_by_not_holder a c (Ok v) a' does (not_held (view a) c.numbers gone its)).0
  turned_away (conclude c (Err e)) a a' does gone its =
      let same = (conclusion_by_not_holder a c (Err e) a' does (not_held (view a) c.numbers gone its)).0 in
      let first : e ≡ (refusal_of_not_holder (view a) c.numbers, c) = cc in
      ap {B = Fault} (λ (x : Refusal × Lease _). x.0.fault) first ∙ says_ousted (view a) c.numbers gone.number its
  turned_away (trail m o (Ok size) o') a a' does gone its = accepted size _ (trail_by_not_holder a m o (Ok size) o' does.0 (not_held (view a) m gone its)).0
  turned_away (trail m o (Err e) o') a a' does gone its =
      let t = trail_by_not_holder a m o (Err e) o' does.0 (not_held (view a) m gone its) in
      let first : e ≡ refusal_of_not_holder (view a) m = let same = t.0 in cc in
      (ap {B = Fault} (λ (x : Refusal). x.fault) first ∙ says_ousted (view a) m gone.number its, t.1)
  turned_away (document m h slots levels o (Ok size) o') a a' does gone its =
      let s = document_by_not_holder h.first h.second h.first_sets h.second_sets m slots levels a o (Ok size) o' does.0 (not_held (view a) m gone its) in
      accepted size s.0 s.1
  turned_away (document m h slots levels o (Err e) o') a a' does gone its =
      (document_by_not_holder h.first h.second h.first_sets h.second_sets m slots levels a o (Err e) o' does.0 (not_held (view a) m gone its)).3
  turned_away (give_up m (Ok k)) a a' does gone its = let same = gives_none m a a' (Ok k) does gone its in cc
  turned_away (give_up m (Err e)) a a' does gone its = accepted 0 e (sym (gives_none m a a' (Err e) does gone its))

pub holds :
    (a : Area) (c : Comparison a) → NeitherOustedNorGivenUp c → own_call c is_inclusion ≡ false →
    IsHolder c
holds a c on apart = held_holder (view c.now) c.claim (held_through c.claim c.since c.begun c.now c.goes_on (started_held c) on.unousted on.kept apart)

-- where another comparison has begun, it has ended
now_gone : {a : Area} (c : Comparison a) → AnotherBegan c → Gone c.claim (view c.now)
now_gone c so = run_begun c.claim c.since c.begun c.now c.goes_on (started_held c) so

pub ousted :
    (a : Area) (c : Comparison a) → AnotherBegan c → (d : Call) (a' : Area) → OwnNow c d a' →
    TurnedAway d
ousted a c so d a' asked = turned_away c.claim d c.now a' asked.does (now_gone c so) asked.own

pub unchanged :
    (a : Area) (c : Comparison a) → AnotherBegan c → (d : Call) (a' : Area) → OwnNow c d a' → a' ≡ c.now
unchanged a c so d a' asked = gone_same c.claim (effect d c.now a' asked.does) (now_gone c so) asked.own
