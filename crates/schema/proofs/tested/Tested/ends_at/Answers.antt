-- Reached, and allowed to end. Assumes nothing.
use Rattle.std.proofs.Common.{Bool, ◌&&◌, ap, ◌∙◌}
use Rattle.schema.specs.Tables.{tables, sets, automaton}
use Rattle.schema.proofs.tested.Tested.ends_at.Goals as goal

pub returns-then-has_member : goal.returns-then-has_member
returns-then-has_member g c =
    let s = c.args.self.now.measured.schema in
    c.may_end.ensures (sets g.D.Domain.holds s) ∙ ap (λ (b : Bool). b && (automaton (tables s) (sets g.D.Domain.holds s)).ends c.args.state c.args.row) c.if-has_member.ensures
