-- The outcome of what is left is the verdict on the whole; each item takes bytes or a level. Assumes nothing.
use Rattle.std.proofs.Common.{◌+◌, ◌*◌, length}
use Rattle.codec.specs.Piles.{slots}
use Rattle.schema.specs.Meaning.{meaning, symbols_of}
use Rattle.checking.proofs.Midst.{Midst}
use Rattle.checking.proofs.walk.walk.Given as goal

abbrev pub invariant-loop-item : goal.invariant-loop-item
invariant-loop-item g l =
    Midst (meaning g.D.Domain.holds l.schema) (symbols_of l.schema) l.tree (slots l.initial.reader.levels) l.reader l.answer

abbrev pub decreases-loop-item : goal.decreases-loop-item
decreases-loop-item g l = 2 * length l.reader.left + length l.reader.levels.entries
