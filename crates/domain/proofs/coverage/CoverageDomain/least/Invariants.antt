-- The smallest value of the ranges so far. Assumes nothing.
use Rattle.std.proofs.Common.{take}
use Rattle.domain.specs.Kinds.{some, in_range}
use Rattle.domain.specs.Sets.{Smallest}
use Rattle.domain.proofs.coverage.CoverageDomain.least.Given as goal

abbrev pub invariant-loop-range : goal.invariant-loop-range
invariant-loop-range l = Smallest (some in_range (take l.range-index l.range-items)) l.best
