-- The ranges so far follow the rule. Assumes nothing.
use Rattle.domain.proofs.Making.{Sofar}
use Rattle.domain.proofs.coverage.making.first_broken.Given as goal

abbrev pub invariant-loop-place : goal.invariant-loop-place
invariant-loop-place l = Sofar l.ranges l.place l.free
