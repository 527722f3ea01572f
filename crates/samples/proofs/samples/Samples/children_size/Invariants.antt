-- The bytes of the children so far.
use Rattle.std.proofs.Common.{◌≡◌, min, take}
use Rattle.schema.specs.Meaning.{meaning}
use Rattle.samples.specs.declared.size.TheConstants.{TOO_LONG}
use Rattle.samples.specs.Kept.{bytes_below}
use Rattle.samples.proofs.samples.Samples.children_size.Given as goal

abbrev pub invariant-loop-symbol : goal.invariant-loop-symbol
invariant-loop-symbol g l = l.size ≡ min (bytes_below (meaning g.D.Domain.holds l.tested) l.self.sizes l.state (take l.symbol-index l.word)) TOO_LONG
