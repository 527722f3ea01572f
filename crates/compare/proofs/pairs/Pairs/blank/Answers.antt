-- Nothing is listed, and every slot and bit says so. Assumes nothing.
use Rattle.std.proofs.Common.{arith}
use Rattle.compare.proofs.Steps.{kept_none}
use Rattle.compare.proofs.pairs.Pairs.blank.Goals as goal

pub invariant_of-result : goal.invariant_of-result
invariant_of-result c = record { sound = kept_none c.min.result c.min-2.result (omega (arith, c.min.ensures)) (omega (arith, c.min-2.ensures)) }
