-- Each permitted symbol is tried; past the symbols none leads anywhere. Assumes nothing.
use Rattle.std.proofs.Common.{◌≡◌, ℕ, ◌<◌, ◌&&◌, rules, ap, ◌∙◌, arith}
use Rattle.std.proofs.lemmas.Bool.{cond-false, le-ltb}
use Rattle.bits.specs.Bits.{bit}
use Rattle.schema.specs.Automata.{passes}
use Rattle.schema.specs.Permitted.{automaton_over}
use Rattle.schema.specs.Tables.{tables, automaton_of}
use Rattle.bits.proofs.Members.{gathered}
use Rattle.schema.proofs.Permits.{passes_permitted, permit_none}
use Rattle.schema.proofs.Sizes.{sized}
use Rattle.schema.proofs.tested.Tested.symbols_into_over.Goals as goal

pub returns : goal.returns
returns g c =
    let t = c.args.self.now in
    let s = t.measured.schema in
    let A = automaton_of g.D.Domain.holds s in
    let B = automaton_over c.args.permitted g.D.Domain.holds s in
    let q = c.args.state in
    let set = bit c.args.states in
    let few = (sized (tables s) t.measured.sized).symbols.to in
    let tried : (a : ℕ) → a < s.symbols → bit c.gather.result a ≡ (bit c.args.permitted a && passes (A.next q a) set) = λ a low.
    let told = c.gather.ensures.told a (omega (arith, few, c.symbols.ensures, low)) (omega (arith, few, low)) in search rules in
    gathered c.gather.result s.symbols (λ i there. omega (arith, few, c.symbols.ensures, c.gather.ensures.inside i there)) (λ a. passes (B.next q a) set)
    (λ a low. tried a low ∙ passes_permitted (bit c.args.permitted a) (A.next q a) set)
    (λ a past. ap (λ o. passes o set) (permit_none (bit c.args.permitted a) _ (cond-false _ _ _ (le-ltb a s.symbols past))))
