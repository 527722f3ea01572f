-- The first bytes are written, and while any are left the groups of the rest are those. Assumes nothing.
use Rattle.std.proofs.Common.{◌<◌, length}
use Rattle.codec.specs.Numbers.{number_bytes}
use Rattle.codec.proofs.Spelling.{Left}
use Rattle.codec.proofs.Writing.{Upto}
use Rattle.codec.proofs.number.spell.Given as goal

abbrev pub invariant-loop-slot : goal.invariant-loop-slot
invariant-loop-slot l = Upto l.initial.slots 0 (number_bytes l.value) l.slot-index l.slots × (l.slot-index < length (number_bytes l.value) → Left l.value l.slot-index l.rest)
