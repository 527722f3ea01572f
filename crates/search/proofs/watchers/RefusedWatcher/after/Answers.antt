-- The next row, where there is a next state too, or gone. Assumes nothing.
use Rattle.std.proofs.Common.{◌∙◌}
use Rattle.search.proofs.Meanings.{row_after}
use Rattle.search.proofs.watchers.RefusedWatcher.after.Goals as goal

pub returns : goal.returns
returns g c =
    let w = c.args.self.now in
    c.row_there.ensures ∙ row_after g.D.Domain.holds w.tested.now w.state c.args.state c.args.symbol _ _ c.if-state-ge-GONE.false c.next_row.ensures c.next_state.ensures
