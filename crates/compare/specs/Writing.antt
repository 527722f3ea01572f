-- What writing a document asks of an area: its refusals in their order, and the broken pair that
-- the document is of. Assumes nothing.
use Rattle.std.specs.Prelude.{◌≡◌, ℕ, [], ◌∷◌, Some, None, Option}
use Rattle.refusal.specs.declared.fault.Refusal.{Refusal}
use Rattle.refusal.specs.Order.{first_of}
use Rattle.schema.specs.Tables.{Tables}
use Rattle.search.specs.Scratch.{short_scratch}
use Rattle.compare.specs.declared.area.Area.{Area}
use Rattle.compare.specs.declared.claim.Numbers.{Numbers}
use Rattle.compare.specs.declared.event.Event.TheVariants.{Write}
use Rattle.compare.specs.declared.phase.Kind.{Kind}
use Rattle.compare.specs.declared.phase.Phase.TheVariants.{Apart}
use Rattle.compare.specs.declared.writing.BrokenPair.{BrokenPair}
use Rattle.compare.specs.Refusals.{held_kept_from, phase_refuses}
use Rattle.compare.specs.Trailing.{broken_index}
use Rattle.compare.specs.View.{View, view}

-- what keeps sound schemas from a document of the claim with these numbers, which lends so many row
-- pairs
abbrev pub write_kept_from : View → Tables → Tables → Numbers → ℕ → Option Refusal
write_kept_from w T U claim slots =
    first_of (held_kept_from w T U claim ∷ phase_refuses w Write ∷ short_scratch slots ∷ [])

-- the broken pair of an area that is apart, with the list that it stands in
abbrev pub BrokenOf : Area → Option BrokenPair → Type 0
BrokenOf a (Some b) = (a.phase ≡ Apart b.kind) × (b.pairs.now ≡ a.pairs) × (b.index ≡ broken_index (view a))
BrokenOf a None = (k : Kind) → a.phase ≡ Apart k → ⊥
