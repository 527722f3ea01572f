-- Taking and ousting: how a comparison begins. Assumes nothing.
use Rattle.std.specs.Prelude.{◌≡◌, ℕ, ◌+◌, Bool, List, [], ◌∷◌, Some, None, Ok, Err, Decides, Option, Result}
use Rattle.refusal.specs.declared.fault.Refusal.{Refusal}
use Rattle.refusal.specs.Order.{first_of}
use Rattle.schema.specs.Faults.{either_fault}
use Rattle.schema.specs.Live.{Live}
use Rattle.schema.specs.Tables.{Tables, automaton}
use Rattle.compare.specs.declared.area.Area.{Area}
use Rattle.compare.specs.declared.claim.Comparing.{Comparing}
use Rattle.compare.specs.declared.claim.Lease.{Lease}
use Rattle.compare.specs.declared.event.Event.{Event}
use Rattle.compare.specs.Refusals.{other_symbols, phase_refuses, worn_out}
use Rattle.compare.specs.View.{View, view, begun}

-- what keeps sound schemas from being compared: they differ in symbols, the phase refuses it, or
-- the serial can't be raised
abbrev pub begin_kept_from : View → Tables → Tables → Event → Option Refusal
begin_kept_from w T U e = first_of (other_symbols w T U ∷ phase_refuses w e ∷ worn_out w ∷ [])

-- the refusal of a beginning, in the order of the tests
abbrev pub begin_refusal : View → Tables → Tables → Event → Option Refusal
begin_refusal w T U e = first_of (either_fault T U ∷ begin_kept_from w T U e ∷ [])

module _ (T U : Tables) (sets : List (ℕ → Bool)) (w : View) where
  -- a comparison has begun, and the claim carries the area's number and the new serial
  pub record Begins (claim : Lease Comparing) (w' : View) : Type 0 where
    pub live : Bool
    pub decides : Decides live (Live (automaton T sets) 0)
    pub after : w' ≡ begun w T U live
    pub number : claim.numbers.area ≡ w.number
    pub serial : claim.numbers.serial ≡ w.serial + 1

-- the one outcome: it begins, or the first refusal leaves the whole area as found
abbrev pub Beginning : Event → Tables → Tables → List (ℕ → Bool) → Area → Result (Lease Comparing) Refusal
    → Area → Type 0
Beginning e T U domains a (Ok claim) a' =
    (begin_refusal (view a) T U e ≡ None) × Begins T U domains (view a) claim (view a')
Beginning e T U domains a (Err r) a' = (begin_refusal (view a) T U e ≡ Some r) × (a' ≡ a)
