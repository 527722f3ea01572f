-- What is known of a tested schema's states. Assumes nothing.
use Rattle.std.proofs.Common.{ℕ, ◌≤◌, Bool}
use Rattle.schema.specs.declared.tested.Tested.{Tested}
use Rattle.schema.specs.Meaning.{meaning, states_of, tables_of}
use Rattle.schema.specs.Tables.{sets}
use Rattle.schema.proofs.Sizes.{sized}
use Rattle.schema.proofs.Sound.{sound}
use Rattle.samples.proofs.Growing.{Inside}

-- its symbols lead to its states
pub next_inside : {D : Type 0} (holds : D → ℕ → Bool) (t : Tested D) → Inside (meaning holds t) (states_of t)
next_inside holds t = (sound (tables_of t) (sets holds t.measured.schema) t.sound).next_in

-- of which there are at most 64
pub few_states : {D : Type 0} (t : Tested D) → states_of t ≤ 64
few_states t = (sized (tables_of t) t.measured.sized).states.to
