-- Each state is tried. Assumes nothing.
use Rattle.std.proofs.Common.{rules, arith}
use Rattle.bits.specs.Bits.{bit}
use Rattle.schema.specs.Live.{NewlyFound}
use Rattle.schema.specs.Permitted.{automaton_over}
use Rattle.schema.specs.Tables.{tables}
use Rattle.bits.proofs.Members.{gathered_where}
use Rattle.schema.proofs.Sizes.{sized}
use Rattle.schema.proofs.tested.Tested.round.Goals as goal

pub returns : goal.returns
returns g c =
    let t = c.args.self.now in
    let s = t.measured.schema in
    let few = (sized (tables s) t.measured.sized).states.to in
    gathered_where c.gather.result s.states (λ q there. omega (arith, few, c.states.ensures, c.gather.ensures.inside q there)) (NewlyFound (automaton_over c.args.permitted g.D.Domain.holds s) (bit c.args.live))
    (λ q low. let told = c.gather.ensures.told q (omega (arith, few, c.states.ensures, low)) (omega (arith, few, low)) in search rules)
