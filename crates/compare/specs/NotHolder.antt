-- What calls with numbers that are not the holder's come to: they change nothing. Assumes nothing.
use Rattle.std.specs.Prelude.{◌≡◌, ℕ, Bool, false, cond, ◌&&◌, List, [], ◌∷◌, Some, Ok, Err, Option, Result, ◌==◌}
use Rattle.refusal.specs.declared.fault.Fault.TheVariants.{Foreign, Ousted}
use Rattle.refusal.specs.declared.fault.Refusal.{Refusal}
use Rattle.refusal.specs.Order.{first_of}
use Rattle.schema.specs.Faults.{either_fault}
use Rattle.schema.specs.Tables.{Tables}
use Rattle.compare.specs.declared.area.Area.{Area}
use Rattle.compare.specs.declared.claim.Comparing.{Comparing}
use Rattle.compare.specs.declared.claim.Lease.{Lease}
use Rattle.compare.specs.declared.claim.Numbers.{Numbers}
use Rattle.compare.specs.declared.conclude.Concluded.{Concluded}
use Rattle.compare.specs.Concluding.{Conclusion, GivingUp}
use Rattle.compare.specs.Refusals.{other_symbols}
use Rattle.compare.specs.Stepping.{Stepping}
use Rattle.compare.specs.Trailing.{Trailing}
use Rattle.compare.specs.View.{View, view, held_by}

-- the numbers are the holder's
abbrev pub is_holder : View → Numbers → Bool
is_holder w n = n.area == w.number && held_by w n.serial

-- the refusal of numbers that are not the holder's: `foreign` where they are of another area, and else
-- `ousted`
abbrev pub refusal_of_not_holder : View → Numbers → Refusal
refusal_of_not_holder w n = record { fault = cond (n.area == w.number) Ousted Foreign; place = w.serial }

-- with two schemas: a fault of theirs, `symbols`, or else what is refused of the numbers
abbrev pub refusal_with_schemas : View → Tables → Tables → Numbers → Option Refusal
refusal_with_schemas w T U n =
    first_of (either_fault T U ∷ other_symbols w T U ∷ Some (refusal_of_not_holder w n) ∷ [])

-- a step is refused; the area stays as it was
unfoldable pub StepByNotHolder : Type 0
StepByNotHolder =
    (T U : Tables) (sets others : List (ℕ → Bool)) (claim : Numbers) (n slots : ℕ)
    (a : Area) (r : Result (ℕ × ℕ) Refusal) (a' : Area)
    → Stepping T U sets others claim n slots a r a' → is_holder (view a) claim ≡ false
    → (e : Refusal) × (r ≡ Err e) × (refusal_with_schemas (view a) T U claim ≡ Some e) × (a' ≡ a)

-- a conclusion is refused, and hands back the claim; the area stays as it was
unfoldable pub ConclusionByNotHolder : Type 0
ConclusionByNotHolder =
    (a : Area) (claim : Lease Comparing) (r : Result Concluded (Refusal × Lease Comparing)) (a' : Area)
    → Conclusion a claim r a' → is_holder (view a) claim.numbers ≡ false
    → (r ≡ Err (refusal_of_not_holder (view a) claim.numbers, claim)) × (a' ≡ a)

-- a trail is refused; the output stays as it was
unfoldable pub TrailByNotHolder : Type 0
TrailByNotHolder =
    (a : Area) (claim : Numbers) (output : List ℕ) (r : Result ℕ Refusal) (output' : List ℕ)
    → Trailing a claim output r output' → is_holder (view a) claim ≡ false
    → (r ≡ Err (refusal_of_not_holder (view a) claim)) × (output' ≡ output)

-- giving up a claim of this area answers 0, and one of another area is refused; the area stays as
-- it was
unfoldable pub GivingUpByNotHolder : Type 0
GivingUpByNotHolder =
    (a : Area) (claim : Numbers) (r : Result ℕ Refusal) (a' : Area)
    → GivingUp a claim r a' → is_holder (view a) claim ≡ false
    → (r ≡ cond (claim.area == a.number) (Ok 0) (Err (refusal_of_not_holder (view a) claim))) × (a' ≡ a)
