-- What an accepted call does is what the table of phases and events decides. Assumes nothing.
use Rattle.std.proofs.Common.{◌≡◌, ℕ, zero, suc, ◌-◌, Bool, true, false, cond, not, ◌&&◌, eqb, ltb, ◌⊎◌, List, [], ◌∷◌, length, Some, None, Option, sym, refl, ap, ◌∙◌, subst, inl, inr, ⊎_elim, arith}
use Rattle.std.proofs.lemmas.Bool.{both_ways, cases_Bool, eq-eqb, or_parts}
use Rattle.std.proofs.lemmas.Option.{none-some, same_Some}
use Rattle.refusal.specs.declared.fault.Fault.TheVariants.{Foreign, Ousted, Early, Room}
use Rattle.refusal.specs.declared.fault.Refusal.{Refusal}
use Rattle.refusal.specs.Order.{first_of}
use Rattle.schema.specs.Automata.{Automaton}
use Rattle.schema.specs.Faults.{either_fault}
use Rattle.schema.specs.Tables.{Tables, automaton}
use Rattle.schema.proofs.Sound.{first_none, some_not_none}
use Rattle.compare.specs.declared.claim.Numbers.{Numbers}
use Rattle.compare.specs.declared.conclude.Concluded.TheVariants.{Included, Apart}
use Rattle.compare.specs.declared.event.Decision.{Decision}
use Rattle.compare.specs.declared.event.Decision.TheVariants as decision
use Rattle.compare.specs.declared.event.Event.{Event}
use Rattle.compare.specs.declared.event.Event.TheVariants.{Take, Oust, Hold, Step, Conclude, Write, GiveUp}
use Rattle.compare.specs.declared.phase.Kind.{Kind}
use Rattle.compare.specs.declared.phase.Phase.{Phase}
use Rattle.compare.specs.declared.phase.Phase.TheVariants as phase
use Rattle.compare.specs.declared.phase.Verdict.TheVariants as verdict
use Rattle.compare.specs.Beginning.{begin_kept_from, begin_refusal}
use Rattle.compare.specs.Concluding.{claim_refusal}
use Rattle.compare.specs.Deciding.{BeginsAsDecided, StepsBy, StepsAsDecided, ConcludesBy, ConcludesAsDecided, TrailsAsDecided, GivesUpBy, GivesUpAsDecided, TrailNotEarly, ConclusionEarly}
use Rattle.compare.specs.Phases.{decided}
use Rattle.compare.specs.Refusals.{by_phase, of_another, other_serial, other_symbols, wrong_steps, phase_refuses, holder_refusal, held_kept_from}
use Rattle.compare.specs.Stepping.{Turns, StepsOn, step_kept_from, step_refusal, is_running}
use Rattle.compare.specs.Trailing.{no_room}
use Rattle.compare.specs.NotHolder.{is_holder}
use Rattle.compare.specs.View.{View, view, free, is_free}
use Rattle.compare.proofs.Allowing.{fails, held_allows}
use Rattle.compare.proofs.Outcomes.{view_determines}
use Rattle.compare.proofs.Tests.{holder_refused, holder_passes}

module _ (w : View) where
  -- where a beginning is not refused, the phase does not refuse it
  begins_by_phase : (T U : Tables) (e : Event) → begin_refusal w T U e ≡ None → phase_refuses w e ≡ None
  begins_by_phase T U e none =
      let kept = (first_none (begin_kept_from w T U e) [] (first_none (either_fault T U) _ none).1).0 in
      (first_none (phase_refuses w e) _ (first_none (other_symbols w T U) _ kept).1).0

  -- nor what a claim is not refused
  claimed_by_phase : (n : Numbers) (e : Event) → claim_refusal w n e ≡ None → phase_refuses w e ≡ None
  claimed_by_phase n e none = (first_none (phase_refuses w e) [] (first_none (holder_refusal w n) _ none).1).0

  -- a free area has no holder
  held_by_phase : (n : Numbers) → holder_refusal w n ≡ None → phase_refuses w Hold ≡ None
  held_by_phase n none =
      let near = first_none (of_another w n.area) _ none in
      (first_none (phase_refuses w Hold) [] (first_none (other_serial w n.serial) _ near.1).1).0

  taken : (p : Phase) → by_phase w (decided p Take) ≡ None → decided p Take ≡ decision.Begin
  taken phase.Free none = refl
  taken phase.Running none = absurd (some_not_none none)
  taken (phase.Ready v) none = absurd (some_not_none none)
  taken (phase.Apart k) none = absurd (some_not_none none)

  written : (p : Phase) → by_phase w (decided p Write) ≡ None → decided p Write ≡ decision.Stay
  written phase.Free none = absurd (some_not_none none)
  written phase.Running none = absurd (some_not_none none)
  written (phase.Ready v) none = absurd (some_not_none none)
  written (phase.Apart k) none = refl

pub takes_as_decided : BeginsAsDecided Take
unfolding BeginsAsDecided
takes_as_decided T U sets a claim a' is = taken (view a) a.phase (begins_by_phase (view a) T U Take is.0)

pub ousts_as_decided : BeginsAsDecided Oust
unfolding BeginsAsDecided
ousts_as_decided T U sets a claim a' is = by a.phase
  where
    by : (p : Phase) → decided p Oust ≡ decision.Begin
    by phase.Free = refl
    by phase.Running = refl
    by (phase.Ready v) = refl
    by (phase.Apart k) = refl

module _ (A B : Automaton) (w w' : View) where
  -- after a turn, the area ran before
  ran : (k : ℕ) (v : View) → Turns A B (suc k) w v → w.phase ≡ phase.Running
  ran zero v turns = ap (λ (x : View). x.phase) (sym turns.1) ∙ turns.2
  ran (suc k) v turns = ran k turns.0 turns.1

  -- an area that does not run takes no turn
  stood : (w.phase ≡ phase.Running → ⊥) → (k : ℕ) → Turns A B k w w' → w' ≡ w
  stood still zero turns = turns
  stood still (suc k) turns = absurd (still (ran k w' turns))

  -- one that runs takes one, if it is to take as many as were asked for, and some were
  some_turn : (n : ℕ) → (n ≡ 0 → ⊥) → w.phase ≡ phase.Running → (k : ℕ) → Turns A B k w w' → (w'.phase ≡ phase.Running → k ≡ n) → (j : ℕ) × Turns A B (suc j) w w'
  some_turn n asked runs zero turns all = absurd (asked (sym (all (ap (λ (x : View). x.phase) turns ∙ runs))))
  some_turn n asked runs (suc k) turns all = (k, turns)

-- the mark of an area that does not run is 1
mark_stands : (p : Phase) → (p ≡ phase.Running → ⊥) → cond {A = ℕ} (is_running p) 0 1 ≡ 1
mark_stands phase.Free still = refl
mark_stands phase.Running still = absurd (still refl)
mark_stands (phase.Ready v) still = refl
mark_stands (phase.Apart k) still = refl

-- a step that is not refused asks for some pairs
some_asked : (w : View) (T U : Tables) (claim : Numbers) (n slots : ℕ) → step_refusal w T U claim n slots ≡ None → (holder_refusal w claim ≡ None) × (wrong_steps w n ≡ None)
some_asked w T U claim n slots none =
    let kept = (first_none (step_kept_from w T U claim n slots) [] (first_none (either_fault T U) _ none).1).0 in
    let held = first_none (held_kept_from w T U claim) _ kept in
    ((held_allows w T U claim held.0).0, (first_none (wrong_steps w n) _ held.1).0)

pub steps_as_decided : StepsAsDecided
unfolding StepsAsDecided
steps_as_decided T U sets others claim n slots a answer a' is = by a.phase refl (held_by_phase (view a) claim asked.0)
  where
    A : Automaton
    A = automaton T sets

    B : Automaton
    B = automaton U others

    asked : (holder_refusal (view a) claim ≡ None) × (wrong_steps (view a) n ≡ None)
    asked = some_asked (view a) T U claim n slots is.0

    on : StepsOn A B n (view a) answer (view a')
    on = is.1

    stays : (a.phase ≡ phase.Running → ⊥) → (answer ≡ (0, 1)) × (a' ≡ a)
    stays still =
        let same : view a' ≡ view a = stood A B (view a) (view a') still on.stepped.taken on.stepped.turns in
        let count : answer.0 ≡ 0 = on.count ∙ ap (λ (x : View). x.examined - a.examined) same ∙ omega arith in
        let mark : answer.1 ≡ 1 = on.mark ∙ ap (λ (x : View). cond (is_running x.phase) 0 1) same ∙ mark_stands a.phase still in
        (λ i. (count i, mark i), view_determines a' a same)

    by : (p : Phase) → a.phase ≡ p → by_phase (view a) (decided p Hold) ≡ None → StepsBy A B (decided p Step) a answer a'
    by phase.Free at none = absurd (some_not_none none)
    by phase.Running at none = some_turn A B (view a) (view a') n (λ none_asked. both_ways (eqb n 0) (or_parts (eqb n 0) (ltb 4096 n) (fails _ _ asked.1)).0 (eq-eqb n 0 none_asked)) at on.stepped.taken on.stepped.turns on.stepped.until
    by (phase.Ready v) at none = stays (λ runs. let clash : phase.Ready v ≡ phase.Running = sym at ∙ runs in cc)
    by (phase.Apart k) at none = stays (λ runs. let clash : phase.Apart k ≡ phase.Running = sym at ∙ runs in cc)

pub concludes_as_decided : ConcludesAsDecided
unfolding ConcludesAsDecided
concludes_as_decided a claim (Included n) a' is = subst (λ (d : Decision). ConcludesBy d a (Included n) a') (sym (ap (λ (p : Phase). decided p Conclude) is.1.0)) is.1.2
concludes_as_decided a claim (Apart k n parted) a' is = subst (λ (d : Decision). ConcludesBy d a (Apart k n parted) a') (sym (ap (λ (p : Phase). decided p Conclude) is.1.0)) (refl, is.1.4)

pub trails_as_decided : TrailsAsDecided
unfolding TrailsAsDecided
trails_as_decided a claim output n output' (v, trail, is) = written (view a) a.phase (claimed_by_phase (view a) claim Write (first_none (claim_refusal (view a) claim Write) _ is.0).0)

pub gives_up_as_decided : GivesUpAsDecided
unfolding GivesUpAsDecided
gives_up_as_decided a claim n a' is = by a.phase is.1
  where
    by : (p : Phase) → cond (not (is_free p) && eqb claim.serial a.serial) ((n ≡ 1) × (view a' ≡ free a.number a.serial)) ((n ≡ 0) × (a' ≡ a)) → GivesUpBy (decided p GiveUp) a claim.serial n a'
    by phase.Free up = up
    by phase.Running up = up
    by (phase.Ready v) up = up
    by (phase.Apart k) up = up

-- `early` is found of the phase alone
by_phase_alone : (w : View) (n : Numbers) (e : Event) (r : Refusal) → claim_refusal w n e ≡ Some r → r.fault ≡ Early → phase_refuses w e ≡ Some r
by_phase_alone w n e r is early = ⊎_elim held other (cases_Bool (is_holder w n))
  where
    held : is_holder w n ≡ true → phase_refuses w e ≡ Some r
    held its = by (phase_refuses w e) (ap (λ (o : Option Refusal). first_of (o ∷ phase_refuses w e ∷ [])) (sym (holder_passes w n its)) ∙ is)
      where
        by : (o : Option Refusal) → first_of (None ∷ o ∷ []) ≡ Some r → o ≡ Some r
        by (Some x) is = is
        by None is = absurd (none-some _ is)

    other : is_holder w n ≡ false → phase_refuses w e ≡ Some r
    other isnt = absurd (never_early (eqb n.area w.number) (same_Some _ _ (ap (λ (o : Option Refusal). first_of (o ∷ phase_refuses w e ∷ [])) (sym (holder_refused w n isnt)) ∙ is)))
      where
        never_early : (s : Bool) → ◌≡◌ {A = Refusal} (record { fault = cond s Ousted Foreign; place = w.serial }) r → ⊥
        never_early true same = let clash : Ousted ≡ Early = ap (λ (x : Refusal). x.fault) same ∙ early in cc
        never_early false same = let clash : Foreign ≡ Early = ap (λ (x : Refusal). x.fault) same ∙ early in cc

-- and not of the room
before_room : (o : Option Refusal) (output w : List ℕ) (r : Refusal) → first_of (o ∷ no_room output w ∷ []) ≡ Some r → r.fault ≡ Early → o ≡ Some r
before_room o output w r is early = by o (ltb (length output) (length w)) is
  where
    by : (o : Option Refusal) (b : Bool) → first_of (o ∷ cond b (Some (record { fault = Room; place = length w })) None ∷ []) ≡ Some r → o ≡ Some r
    by (Some x) b is = is
    by None true is = absurd (let clash : Room ≡ Early = ap (λ (x : Refusal). x.fault) (same_Some _ _ is) ∙ early in cc)
    by None false is = absurd (none-some _ is)

pub trail_not_early : TrailNotEarly
unfolding TrailNotEarly
trail_not_early a claim output e output' (v, trail, is) early k apart =
    let found = by_phase_alone (view a) claim Write e (before_room (claim_refusal (view a) claim Write) output v e is.0 early) early in
    none-some _ (sym (ap (λ (p : Phase). by_phase (view a) (decided p Write)) apart) ∙ found)

pub conclusion_early : ConclusionEarly
unfolding ConclusionEarly
conclusion_early a claim e a' is early = by a.phase (by_phase_alone (view a) claim.numbers Conclude e.0 is.0 early)
  where
    by : (p : Phase) → by_phase (view a) (decided p Conclude) ≡ Some e.0 → (p ≡ phase.Running) ⊎ ((k : Kind) × (p ≡ phase.Apart k))
    by phase.Free is = absurd (let clash : Ousted ≡ Early = ap (λ (x : Refusal). x.fault) (same_Some _ _ is) ∙ early in cc)
    by phase.Running is = inl refl
    by (phase.Ready verdict.Included) is = absurd (none-some _ is)
    by (phase.Ready (verdict.Apart k)) is = absurd (none-some _ is)
    by (phase.Apart k) is = inr (k, refl)
