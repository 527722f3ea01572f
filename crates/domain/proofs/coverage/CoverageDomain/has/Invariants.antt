-- No range so far has the value. Assumes nothing.
use Rattle.std.proofs.Common.{◌≡◌, false, take}
use Rattle.domain.specs.Kinds.{some, in_range}
use Rattle.domain.proofs.coverage.CoverageDomain.has.Given as goal

abbrev pub invariant-loop-range : goal.invariant-loop-range
invariant-loop-range l = some in_range (take l.range-index l.range-items) l.value ≡ false
