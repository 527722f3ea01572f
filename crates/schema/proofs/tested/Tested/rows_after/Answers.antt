-- Each symbol is tried. Assumes nothing.
use Rattle.std.proofs.Common.{cond, None, rules, ◌∙◌, arith}
use Rattle.std.proofs.lemmas.Bool.{cond-true}
use Rattle.bits.specs.Bits.{bit}
use Rattle.schema.specs.Rows.{RowEdge}
use Rattle.schema.specs.Tables.{tables, sets, automaton_of}
use Rattle.schema.proofs.Gathering.{edges_of_led, chosen_some}
use Rattle.schema.proofs.Sizes.{sized}
use Rattle.schema.proofs.Sound.{sound}
use Rattle.schema.proofs.tested.Tested.rows_after.Goals as goal

pub returns : goal.returns
returns g c =
    let t = c.args.self.now in
    let T = tables t.measured.schema in
    let A = automaton_of g.D.Domain.holds t.measured.schema in
    let few = (sized T t.measured.sized).symbols.to in
    let q = c.args.state in
    let r = c.args.row in
    let set = bit c.args.symbols in
    edges_of_led (RowEdge A q set) r c.symbols.result c.args.before c.gather_onto.result (λ a. cond (set a) (A.step q r a) None)
    (λ a j e. (omega (arith, few, c.symbols.ensures, (sound T (sets g.D.Domain.holds t.measured.schema) t.sound).step_symbol q r a j e.1), cond-true _ _ _ e.0 ∙ e.1)) (λ a j is. chosen_some (set a) (A.step q r a) j is) (λ a o low told. search rules) c.gather_onto.ensures
