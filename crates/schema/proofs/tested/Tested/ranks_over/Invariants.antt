-- What the rounds so far found and noted. Assumes nothing.
use Rattle.schema.specs.Permitted.{automaton_over}
use Rattle.schema.proofs.Rounds.{AfterRounds}
use Rattle.schema.proofs.tested.Tested.ranks_over.Given as goal

abbrev pub invariant-loop-round : goal.invariant-loop-round
invariant-loop-round g l = let s = l.self.measured.schema in AfterRounds (automaton_over l.permitted g.D.Domain.holds s) s.states l.live l.rank l.round
