-- The trailing zeros end at the lowest digit that is set. Assumes nothing.
use Rattle.std.proofs.Common.{arith}
use Rattle.bits.proofs.Digits.{lowest_member}
use Rattle.bits.proofs.sets.lowest.Goals as goal

pub returns-else-set-eq0 : goal.returns-else-set-eq0
returns-else-set-eq0 c = lowest_member c.args.set (omega arith) c.ranges.set.fits
