-- Calls with numbers that are not the holder's change nothing. Assumes nothing.
use Rattle.std.proofs.Common.{◌≡◌, ℕ, Bool, true, false, cond, not, ◌&&◌, eqb, List, [], ◌∷◌, Some, None, Ok, Err, Option, Result, sym, refl, ap, ◌∙◌}
use Rattle.std.proofs.lemmas.Bool.{both_ways}
use Rattle.std.proofs.lemmas.Option.{none-some, same_Some}
use Rattle.refusal.specs.declared.fault.Fault.TheVariants.{Foreign, Ousted}
use Rattle.refusal.specs.declared.fault.Refusal.{Refusal}
use Rattle.refusal.specs.Order.{first_of}
use Rattle.schema.specs.Faults.{either_fault}
use Rattle.compare.specs.declared.claim.Comparing.{Comparing}
use Rattle.compare.specs.declared.claim.Lease.{Lease}
use Rattle.compare.specs.declared.claim.Numbers.{Numbers}
use Rattle.compare.specs.declared.conclude.Concluded.{Concluded}
use Rattle.compare.specs.declared.event.Event.{Event}
use Rattle.compare.specs.declared.event.Event.TheVariants.{Conclude, Write}
use Rattle.compare.specs.Concluding.{claim_refusal, Conclusion, GivingUp}
use Rattle.compare.specs.Refusals.{other_symbols, phase_refuses, where_found, held_kept_from}
use Rattle.compare.specs.Stepping.{step_kept_from, step_refusal, Stepping}
use Rattle.compare.specs.NotHolder.{is_holder, refusal_of_not_holder, refusal_with_schemas, StepByNotHolder, ConclusionByNotHolder, TrailByNotHolder, GivingUpByNotHolder}
use Rattle.compare.specs.Trailing.{no_room, trail_refusal, TrailAnswer}
use Rattle.compare.specs.View.{View, view, held_by}
use Rattle.compare.proofs.Tests.{holder_refused, held_refused}

-- what is asked with numbers that are not the holder's is refused
pub claim_refused : (w : View) (n : Numbers) (e : Event) → is_holder w n ≡ false → claim_refusal w n e ≡ Some (refusal_of_not_holder w n)
claim_refused w n e other = ap (λ (o : Option Refusal). first_of (o ∷ phase_refuses w e ∷ [])) (holder_refused w n other)

-- what is found among the first tests is found of more behind them
pub found_within : (p q : Option Refusal) (x : Refusal) (rest : List (Option Refusal)) → q ≡ first_of (p ∷ Some x ∷ []) → first_of (q ∷ rest) ≡ first_of (p ∷ Some x ∷ [])
found_within p q x rest is = ap (λ (r : Option Refusal). first_of (r ∷ rest)) is ∙ by p
  where
    by : (p : Option Refusal) → first_of (first_of (p ∷ Some x ∷ []) ∷ rest) ≡ first_of (p ∷ Some x ∷ [])
    by (Some e) = refl
    by None = refl

-- and behind a test more
pub found_third : (o p q : Option Refusal) (x : Refusal) → q ≡ first_of (p ∷ Some x ∷ []) → first_of (o ∷ q ∷ []) ≡ first_of (o ∷ p ∷ Some x ∷ [])
found_third o p q x is = ap (λ (r : Option Refusal). first_of (o ∷ r ∷ [])) is ∙ by o p
  where
    by : (o p : Option Refusal) → first_of (o ∷ first_of (p ∷ Some x ∷ []) ∷ []) ≡ first_of (o ∷ p ∷ Some x ∷ [])
    by (Some e) p = refl
    by None (Some e) = refl
    by None None = refl

-- something is found
pub some_found : (o p : Option Refusal) (x : Refusal) → first_of (o ∷ p ∷ Some x ∷ []) ≡ None → ⊥
some_found (Some e) p x none = none-some _ (sym none)
some_found None (Some e) x none = none-some _ (sym none)
some_found None None x none = none-some _ (sym none)

pub step_by_not_holder : StepByNotHolder
unfolding StepByNotHolder
step_by_not_holder T U sets others claim n slots a r a' is other = by r is
  where
    w : View
    w = view a

    same : step_refusal w T U claim n slots ≡ refusal_with_schemas w T U claim
    same = found_third (either_fault T U) (other_symbols w T U) (step_kept_from w T U claim n slots) (refusal_of_not_holder w claim) (found_within (other_symbols w T U) (held_kept_from w T U claim) (refusal_of_not_holder w claim) _ (held_refused w claim T U other))

    by : (r : Result (ℕ × ℕ) Refusal) → Stepping T U sets others claim n slots a r a' → (e : Refusal) × (r ≡ Err e) × (refusal_with_schemas w T U claim ≡ Some e) × (a' ≡ a)
    by (Ok answer) is = absurd (some_found (either_fault T U) (other_symbols w T U) (refusal_of_not_holder w claim) (sym same ∙ is.0))
    by (Err e) is = (e, refl, sym same ∙ is.0, is.1)

-- the refusal and the claim, which is handed back
refused : {X S : Type 0} (w : View) (n : Numbers) (claim : Lease S) (o : Option Refusal) (e : Refusal × Lease S) → o ≡ Some (refusal_of_not_holder w n) → o ≡ Some e.0 → e.1 ≡ claim → ◌≡◌ {A = Result X (Refusal × Lease S)} (Err e) (Err (refusal_of_not_holder w n, claim))
refused {X} {S} w n claim o e so is back = let first : e.0 ≡ refusal_of_not_holder w n = same_Some _ _ (sym is ∙ so) in λ i. Err (first i, back i)

pub conclusion_by_not_holder : ConclusionByNotHolder
unfolding ConclusionByNotHolder
conclusion_by_not_holder a claim r a' is other = by r is
  where
    w : View
    w = view a

    so : claim_refusal w claim.numbers Conclude ≡ Some (refusal_of_not_holder w claim.numbers)
    so = claim_refused w claim.numbers Conclude other

    by : (r : Result Concluded (Refusal × Lease Comparing)) → Conclusion a claim r a' → (r ≡ Err (refusal_of_not_holder w claim.numbers, claim)) × (a' ≡ a)
    by (Ok c) is = absurd (none-some _ (sym is.0 ∙ so))
    by (Err e) is = (refused w claim.numbers claim _ e so is.0 is.1, is.2)

pub trail_by_not_holder : TrailByNotHolder
unfolding TrailByNotHolder
trail_by_not_holder a claim output r output' (v, trail, is) other = by r is
  where
    w : View
    w = view a

    so : trail_refusal w claim output v ≡ Some (refusal_of_not_holder w claim)
    so = ap (λ (o : Option Refusal). first_of (o ∷ no_room output v ∷ [])) (claim_refused w claim Write other)

    by : (r : Result ℕ Refusal) → TrailAnswer w claim output v r output' → (r ≡ Err (refusal_of_not_holder w claim)) × (output' ≡ output)
    by (Ok n) is = absurd (none-some _ (sym is.0 ∙ so))
    by (Err e) is = (ap Err (same_Some _ _ (sym is.0 ∙ so)), is.1)

pub giving_up_by_not_holder : GivingUpByNotHolder
unfolding GivingUpByNotHolder
giving_up_by_not_holder a claim r a' is other = by r is
  where
    w : View
    w = view a

    no : Result ℕ Refusal
    no = Err (refusal_of_not_holder w claim)

    given : (s h : Bool) (n : ℕ) (freed : Type 0) → (s && h) ≡ false → where_found (not s) w Foreign ≡ None → cond h freed ((n ≡ 0) × (a' ≡ a)) → (Ok n ≡ cond s (Ok 0) no) × (a' ≡ a)
    given true true n freed other near is = absurd (both_ways true other refl)
    given true false n freed other near is = (ap Ok is.0, is.1)
    given false h n freed other near is = absurd (none-some _ (sym near))

    kept : (s : Bool) (e : Refusal) → where_found (not s) w Foreign ≡ Some e → ◌≡◌ {A = Result ℕ Refusal} (Err e) (cond s (Ok 0) (Err (record { fault = cond s Ousted Foreign; place = w.serial })))
    kept true e far = absurd (none-some _ far)
    kept false e far = ap Err (same_Some _ _ (sym far))

    by : (r : Result ℕ Refusal) → GivingUp a claim r a' → (r ≡ cond (eqb claim.area a.number) (Ok 0) no) × (a' ≡ a)
    by (Ok n) is = given (eqb claim.area a.number) (held_by w claim.serial) n _ other is.0 is.1
    by (Err e) is = (kept (eqb claim.area a.number) e is.0, is.1)
