-- Each row of the state is tried. Assumes nothing.
use Rattle.std.proofs.Common.{ℕ, Bool, ◌&&◌, rules, ap, ◌∙◌}
use Rattle.bits.specs.Bits.{bit}
use Rattle.schema.specs.Automata.{passes}
use Rattle.schema.specs.Below.{some_below}
use Rattle.schema.specs.Tables.{automaton_of}
use Rattle.schema.proofs.Chains.{some_below_from_any}
use Rattle.schema.proofs.tested.Tested.passes_rows.Goals as goal

pub returns : goal.returns
returns g c =
    let test : ℕ → Bool = λ i. bit c.args.reached i && passes ((automaton_of g.D.Domain.holds c.args.self.now.measured.schema).step c.args.state i c.args.symbol) (bit c.args.ending) in
    some_below_from_any _ _ c.any.result c.state_byte.result test c.any.ensures.ran (λ x b q k. search rules) ∙ ap (λ n. some_below n test) c.state_byte.ensures
