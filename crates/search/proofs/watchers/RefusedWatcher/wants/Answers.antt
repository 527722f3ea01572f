-- A row that is there, and may not end. Assumes nothing.
use Rattle.std.proofs.lemmas.Bool.{lt-ltb}
use Rattle.schema.specs.Tables.{sets}
use Rattle.search.proofs.watchers.RefusedWatcher.wants.Goals as goal

pub returns-else-state-ge-GONE : goal.returns-else-state-ge-GONE
returns-else-state-ge-GONE g c =
    rw (lt-ltb c.args.state 16 c.if-state-ge-GONE.false, ← c.may_end.ensures (sets g.D.Domain.holds c.args.self.now.tested.now.measured.schema))
