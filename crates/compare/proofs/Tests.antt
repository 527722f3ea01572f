-- The test of the holder: what is refused of numbers that are not the holder's, and what it says that nothing is. Assumes nothing.
use Rattle.std.proofs.Common.{◌≡◌, Bool, true, false, cond, not, ◌&&◌, eqb, [], ◌∷◌, Some, None, Option, refl, ap, ◌∙◌}
use Rattle.std.proofs.lemmas.Bool.{both_ways}
use Rattle.refusal.specs.declared.fault.Fault.TheVariants.{Foreign, Ousted}
use Rattle.refusal.specs.declared.fault.Refusal.{Refusal}
use Rattle.refusal.specs.Order.{first_of}
use Rattle.schema.specs.Tables.{Tables}
use Rattle.schema.proofs.Sound.{some_not_none}
use Rattle.compare.specs.declared.claim.Numbers.{Numbers}
use Rattle.compare.specs.declared.event.Event.TheVariants.{Hold}
use Rattle.compare.specs.declared.phase.Phase.{Phase}
use Rattle.compare.specs.declared.phase.Phase.TheVariants as phase
use Rattle.compare.specs.Phases.{decided}
use Rattle.compare.specs.Refusals.{where_found, by_phase, other_symbols, other_counts, holder_refusal, held_kept_from}
use Rattle.compare.specs.NotHolder.{is_holder, refusal_of_not_holder}
use Rattle.compare.specs.View.{View, is_free}

module _ (w : View) (n : Numbers) where
  -- the tests, by whether the area and the serial are the same, and the phase
  abbrev tests : Bool → Bool → Phase → Option Refusal
  tests s t p = first_of (where_found (not s) w Foreign ∷ where_found (not t) w Ousted ∷ by_phase w (decided p Hold) ∷ [])

  -- numbers that are not the holder's are refused
  pub holder_refused : is_holder w n ≡ false → holder_refusal w n ≡ Some (refusal_of_not_holder w n)
  holder_refused other = by (eqb n.area w.number) (eqb n.serial w.serial) w.phase other
    where
      by : (s t : Bool) (p : Phase) → (s && (not (is_free p) && t)) ≡ false → tests s t p ≡ Some (record { fault = cond s Ousted Foreign; place = w.serial })
      by false t p other = refl
      by true false p other = refl
      by true true phase.Free other = refl
      by true true phase.Running other = absurd (both_ways true other refl)
      by true true (phase.Ready v) other = absurd (both_ways true other refl)
      by true true (phase.Apart k) other = absurd (both_ways true other refl)

  -- and where nothing is refused they are the holder's
  pub holder_passed : holder_refusal w n ≡ None → is_holder w n ≡ true
  holder_passed none = by (eqb n.area w.number) (eqb n.serial w.serial) w.phase none
    where
      by : (s t : Bool) (p : Phase) → tests s t p ≡ None → (s && (not (is_free p) && t)) ≡ true
      by false t p none = absurd (some_not_none none)
      by true false p none = absurd (some_not_none none)
      by true true phase.Free none = absurd (some_not_none none)
      by true true phase.Running none = refl
      by true true (phase.Ready v) none = refl
      by true true (phase.Apart k) none = refl

  -- of which nothing is refused
  pub holder_passes : is_holder w n ≡ true → holder_refusal w n ≡ None
  holder_passes its = by (eqb n.area w.number) (eqb n.serial w.serial) w.phase its
    where
      by : (s t : Bool) (p : Phase) → (s && (not (is_free p) && t)) ≡ true → tests s t p ≡ None
      by false t p its = absurd (both_ways false refl its)
      by true false phase.Free its = absurd (both_ways false refl its)
      by true false phase.Running its = absurd (both_ways false refl its)
      by true false (phase.Ready v) its = absurd (both_ways false refl its)
      by true false (phase.Apart k) its = absurd (both_ways false refl its)
      by true true phase.Free its = absurd (both_ways false refl its)
      by true true phase.Running its = refl
      by true true (phase.Ready v) its = refl
      by true true (phase.Apart k) its = refl

  -- two schemas and numbers that are not the holder's
  pub held_refused : (T U : Tables) → is_holder w n ≡ false → held_kept_from w T U n ≡ first_of (other_symbols w T U ∷ Some (refusal_of_not_holder w n) ∷ [])
  held_refused T U other = ap (λ o. first_of (other_symbols w T U ∷ o ∷ other_counts w T U ∷ [])) (holder_refused other) ∙ by (other_symbols w T U)
    where
      by : (o : Option Refusal) → first_of (o ∷ Some (refusal_of_not_holder w n) ∷ other_counts w T U ∷ []) ≡ first_of (o ∷ Some (refusal_of_not_holder w n) ∷ [])
      by (Some e) = refl
      by None = refl
