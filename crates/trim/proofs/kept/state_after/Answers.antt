-- Looked up where the set has the symbol. Assumes nothing.
use Rattle.std.proofs.Common.{Bool, cond, None, ap, ◌∙◌}
use Rattle.schema.specs.Tables.{sets, automaton_of}
use Rattle.trim.proofs.kept.state_after.Goals as goal

pub returns-then-has_member : goal.returns-then-has_member
returns-then-has_member g c =
    let s = c.args.tested.now.measured.schema in
    let next = (automaton_of g.D.Domain.holds s).next c.args.state c.args.symbol in
    c.next_state.ensures (sets g.D.Domain.holds s) ∙ ap (λ (b : Bool). cond b next None) c.if-has_member.ensures
