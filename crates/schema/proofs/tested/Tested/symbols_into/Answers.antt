-- Each symbol is tried; past the symbols none leads anywhere. Assumes nothing.
use Rattle.std.proofs.Common.{rules, ap, arith}
use Rattle.std.proofs.lemmas.Bool.{cond-false, le-ltb}
use Rattle.bits.specs.Bits.{bit}
use Rattle.schema.specs.Automata.{passes}
use Rattle.schema.specs.Tables.{tables, automaton_of}
use Rattle.bits.proofs.Members.{gathered}
use Rattle.schema.proofs.Sizes.{sized}
use Rattle.schema.proofs.tested.Tested.symbols_into.Goals as goal

pub returns : goal.returns
returns g c =
    let t = c.args.self.now in
    let s = t.measured.schema in
    let A = automaton_of g.D.Domain.holds s in
    let few = (sized (tables s) t.measured.sized).symbols.to in
    gathered c.gather.result s.symbols (λ i there. omega (arith, few, c.symbols.ensures, c.gather.ensures.inside i there)) (λ a. passes (A.next c.args.state a) (bit c.args.states))
    (λ a low. let told = c.gather.ensures.told a (omega (arith, few, c.symbols.ensures, low)) (omega (arith, few, low)) in search rules)
    (λ a past. ap (λ o. passes o (bit c.args.states)) (cond-false _ _ _ (le-ltb a s.symbols past)))
