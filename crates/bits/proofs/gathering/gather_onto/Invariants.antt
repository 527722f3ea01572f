-- What the numbers so far lead to. Assumes nothing.
use Rattle.bits.specs.Gathering.{LedOnto}
use Rattle.bits.proofs.gathering.gather_onto.Given as goal

abbrev pub invariant-loop-number : goal.invariant-loop-number
invariant-loop-number g l = LedOnto (goal.F-post g l.lead) l.number l.before l.reached
