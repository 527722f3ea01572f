-- The automaton at the node on top. Assumes nothing.
use Rattle.std.proofs.Common.{ap, ◌∙◌}
use Rattle.std.specs.Bool.{then_some}
use Rattle.schema.specs.Tables.{sets}
use Rattle.checking.proofs.walk.close.Goals as goal

pub returns : goal.returns
returns g c = rw (c.in_ok-state.was, c.in_ok-at.was) (c.then_some.ensures ∙ ap (λ b. then_some b c.in_ok-state.state) (c.may_end.ensures (sets g.D.Domain.holds c.args.schema.now.measured.schema)))
