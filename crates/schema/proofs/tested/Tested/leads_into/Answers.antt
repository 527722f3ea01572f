-- The next state, where there is one, is in the set. Assumes nothing.
use Rattle.std.proofs.Common.{rules, ap, ◌∙◌}
use Rattle.bits.specs.Bits.{bit}
use Rattle.schema.specs.Automata.{passes}
use Rattle.schema.specs.Tables.{sets}
use Rattle.schema.proofs.Chains.{passes_from_is_some_and}
use Rattle.schema.proofs.tested.Tested.leads_into.Goals as goal

pub returns : goal.returns
returns g c =
    passes_from_is_some_and c.next_state.result c.is_some_and.result (bit c.args.states) c.is_some_and.ensures (λ x told. search rules)
    ∙ ap (λ o. passes o (bit c.args.states)) (c.next_state.ensures (sets g.D.Domain.holds c.args.self.now.measured.schema))
