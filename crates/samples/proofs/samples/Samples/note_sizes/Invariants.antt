-- The samples of the states of the rank are sized up to the state that comes next.
use Rattle.schema.specs.Meaning.{meaning, states_of}
use Rattle.samples.proofs.Sizing.{Sizing}
use Rattle.samples.proofs.samples.Samples.note_sizes.Given as goal

abbrev pub invariant-loop-state : goal.invariant-loop-state
invariant-loop-state g l = Sizing (meaning g.D.Domain.holds l.tested) (states_of l.tested) l.initial.self l.ranks l.rank l.state l.self
