-- The samples of the states of lower rank are sized.
use Rattle.schema.specs.Meaning.{meaning, states_of}
use Rattle.samples.specs.Kept.{SampledBelow}
use Rattle.samples.proofs.samples.Samples.of.Given as goal

abbrev pub invariant-loop-rank : goal.invariant-loop-rank
invariant-loop-rank g l = SampledBelow (meaning g.D.Domain.holds l.tested) (states_of l.tested) l.rank l.ranks l.samples
