-- Concluding a comparison, and giving one up. Assumes nothing.
use Rattle.std.specs.Prelude.{◌≡◌, ℕ, cond, [], ◌∷◌, Some, None, Ok, Err, Option, Result}
use Rattle.refusal.specs.declared.fault.Refusal.{Refusal}
use Rattle.refusal.specs.Order.{first_of}
use Rattle.compare.specs.declared.area.Area.{Area}
use Rattle.compare.specs.declared.claim.Comparing.{Comparing}
use Rattle.compare.specs.declared.claim.Lease.{Lease}
use Rattle.compare.specs.declared.claim.Numbers.{Numbers}
use Rattle.compare.specs.declared.conclude.Concluded.{Concluded}
use Rattle.compare.specs.declared.conclude.Concluded.TheVariants.{Included, Apart}
use Rattle.compare.specs.declared.event.Event.{Event}
use Rattle.compare.specs.declared.event.Event.TheVariants.{Conclude}
use Rattle.compare.specs.declared.phase.Phase.TheVariants as phase
use Rattle.compare.specs.declared.phase.Verdict.TheVariants as verdict
use Rattle.compare.specs.Refusals.{of_another, phase_refuses, holder_refusal}
use Rattle.compare.specs.View.{View, view, free, in_phase, held_by}

-- the refusal of what the claim with these numbers asks: they are not the holder's, or the phase
-- refuses it
abbrev pub claim_refusal : View → Numbers → Event → Option Refusal
claim_refusal w n e = first_of (holder_refusal w n ∷ phase_refuses w e ∷ [])

-- what a conclusion says of the ready area, and leaves: included frees it, and apart turns it
-- apart, with an apart claim; both tell how many pairs were examined
abbrev pub Concludes : View → Concluded → View → Type 0
Concludes w (Included n) w' =
    (w.phase ≡ phase.Ready verdict.Included) × (n ≡ w.examined) × (w' ≡ free w.number w.serial)
Concludes w (Apart k n claim) w' =
    (w.phase ≡ phase.Ready (verdict.Apart k)) × (n ≡ w.examined) × (claim.numbers.area ≡ w.number)
    × (claim.numbers.serial ≡ w.serial) × (w' ≡ in_phase w (phase.Apart k))

-- the one outcome: a conclusion, or the first refusal, which hands back the claim and leaves the
-- whole area as found
abbrev pub Conclusion : Area → Lease Comparing → Result Concluded (Refusal × Lease Comparing) → Area → Type 0
Conclusion a claim (Ok c) a' =
    (claim_refusal (view a) claim.numbers Conclude ≡ None) × Concludes (view a) c (view a')
Conclusion a claim (Err e) a' =
    (claim_refusal (view a) claim.numbers Conclude ≡ Some e.0) × (e.1 ≡ claim) × (a' ≡ a)

-- the area is free, and 1 is answered
abbrev pub Frees : Area → ℕ → Area → Type 0
Frees a n a' = (n ≡ 1) × (view a' ≡ free a.number a.serial)

-- giving up frees the area for the holder, and changes nothing for any other claim of the area
abbrev pub GivesUp : Area → ℕ → ℕ → Area → Type 0
GivesUp a serial n a' = cond (held_by (view a) serial) (Frees a n a') ((n ≡ 0) × (a' ≡ a))

-- the one outcome of giving up a claim with these numbers: 1 or 0, or `foreign`, which leaves the
-- whole area as found
abbrev pub GivingUp : Area → Numbers → Result ℕ Refusal → Area → Type 0
GivingUp a claim (Ok n) a' = (of_another (view a) claim.area ≡ None) × GivesUp a claim.serial n a'
GivingUp a claim (Err e) a' = (of_another (view a) claim.area ≡ Some e) × (a' ≡ a)
