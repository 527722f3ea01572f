-- The node on top, the next row and the next state, in turn. Assumes nothing.
use Rattle.std.proofs.Common.{sym, ◌∙◌}
use Rattle.schema.specs.Meaning.{meaning}
use Rattle.schema.specs.Tables.{sets}
use Rattle.checking.proofs.Stepping.{no_row, no_state, goes_on}
use Rattle.checking.proofs.walk.name.Goals as goal

pub returns-in_err-row : goal.returns-in_err-row
returns-in_err-row g c =
    let ds = sets g.D.Domain.holds c.args.schema.now.measured.schema in
    no_row (meaning g.D.Domain.holds c.args.schema.now) _ _ _ _ _ _ c.in_ok-answer.was (sym c.top.ensures ∙ c.in_ok-at.was) _ (sym (c.next_row.ensures ds) ∙ c.in_err-row.was) c.from_residual-in_err-row.ensures

pub returns-in_err-state : goal.returns-in_err-state
returns-in_err-state g c =
    let ds = sets g.D.Domain.holds c.args.schema.now.measured.schema in
    no_state (meaning g.D.Domain.holds c.args.schema.now) _ _ _ _ _ _ c.in_ok-answer.was (sym c.top.ensures ∙ c.in_ok-at.was) _ _ (sym (c.next_row.ensures ds) ∙ c.in_ok-row.was) (sym (c.next_state.ensures ds) ∙ c.in_err-state.was) c.from_residual-in_err-state.ensures

pub returns : goal.returns
returns g c =
    let ds = sets g.D.Domain.holds c.args.schema.now.measured.schema in
    goes_on (meaning g.D.Domain.holds c.args.schema.now) _ _ _ _ _ _ c.in_ok-answer.was (sym c.top.ensures ∙ c.in_ok-at.was) _ _ _ (sym (c.next_row.ensures ds) ∙ c.in_ok-row.was) (sym (c.next_state.ensures ds) ∙ c.in_ok-state.was) c.keep.ensures
