-- The set of `a & !b` is what a has alone. Assumes nothing.
use Rattle.bits.proofs.Digits.{bits_alone, lowest_of_same}
use Rattle.bits.proofs.sets.lowest_alone.Goals as goal

pub returns : goal.returns
returns c = lowest_of_same _ _ c.lowest.result (λ i inside. bits_alone c.args.first c.args.second i c.ranges.second.fits inside) c.lowest.ensures
