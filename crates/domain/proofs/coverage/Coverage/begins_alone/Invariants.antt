-- The smallest candidate of the ranges so far. Assumes nothing.
use Rattle.std.proofs.Common.{take}
use Rattle.domain.specs.Kinds.{some, begins, has_letter}
use Rattle.domain.specs.Sets.{Smallest, alone, both}
use Rattle.domain.proofs.coverage.Coverage.begins_alone.Given as goal

abbrev pub invariant-loop-range : goal.invariant-loop-range
invariant-loop-range l = Smallest (both (alone (has_letter l.self) (has_letter l.other)) (some begins (take l.range-index l.range-items))) l.best
