-- Reached, and on to a row of the set. Assumes nothing.
use Rattle.std.proofs.Common.{Bool, ◌&&◌, rules, ap, ◌∙◌}
use Rattle.bits.specs.Bits.{bit}
use Rattle.schema.specs.Automata.{passes}
use Rattle.schema.specs.Tables.{sets, automaton_of}
use Rattle.schema.proofs.Chains.{passes_from_is_some_and}
use Rattle.schema.proofs.tested.Tested.passes_row.Goals as goal

pub returns-then-has_member : goal.returns-then-has_member
returns-then-has_member g c =
    let s = c.args.self.now.measured.schema in
    let holds = g.D.Domain.holds in
    passes_from_is_some_and c.next_row.result c.is_some_and.result (bit c.args.ending) c.is_some_and.ensures (λ x told. search rules) ∙ ap (λ o. passes o (bit c.args.ending)) (c.next_row.ensures (sets holds s))
    ∙ ap (λ (b : Bool). b && passes ((automaton_of holds s).step c.args.state c.args.row c.args.symbol) (bit c.args.ending)) c.if-has_member.ensures
