-- The row may end, and the watcher wants its state. Assumes nothing.
use Rattle.schema.specs.Tables.{sets}
use Rattle.search.proofs.search.Question.is_goal.Goals as goal

pub returns-then-may_end : goal.returns-then-may_end
returns-then-may_end g c = rw (← c.if-may_end.ensures (sets g.D.Domain.holds c.args.self.now.tested.now.measured.schema)) c.wants.ensures

pub returns-else-may_end : goal.returns-else-may_end
returns-else-may_end g c = rw (← c.if-may_end.ensures (sets g.D.Domain.holds c.args.self.now.tested.now.measured.schema)) c.if-may_end.false
