-- Each symbol is tried; one that a sequence holds is a symbol of the schema. Assumes nothing.
use Rattle.std.proofs.Common.{◌≡◌, ℕ, ◌<◌, Bool, ◌&&◌, Some, rules, sym, refl, ◌∙◌, arith}
use Rattle.std.proofs.lemmas.Bool.{and_parts}
use Rattle.bits.specs.Bits.{bit}
use Rattle.schema.specs.Automata.{passes}
use Rattle.schema.specs.Below.{some_below}
use Rattle.schema.specs.Tables.{tables, sets, automaton_of, row_count}
use Rattle.schema.proofs.Bound.{passed}
use Rattle.schema.proofs.Holding.{held_of, of_held}
use Rattle.schema.proofs.Searches.{some_tells}
use Rattle.schema.proofs.Sizes.{sized}
use Rattle.schema.proofs.Sound.{sound}
use Rattle.schema.proofs.tested.Tested.symbols_held.Goals as goal

pub returns : goal.returns
returns g c = λ low a.
    let t = c.args.self.now in
    let s = t.measured.schema in
    let T = tables s in
    let A = automaton_of g.D.Domain.holds s in
    let q = c.args.state in
    let kept = sound T (sets g.D.Domain.holds s) t.sound in
    let few = (sized T t.measured.sized).symbols.to in
    let set = bit c.args.symbols in
    let some : 0 < row_count T q = omega (arith, (kept.rows q low).from) in
    let stays = λ (i b j : ℕ) (inside : i < row_count T q) (is : A.step q i b ≡ Some j). kept.step_in q i b j low inside is in
    let rows = c.rows_reached_from-reached.ensures.first_row low refl in
    let ends = c.rows_ending-ending.ensures low in
    let on_the_way : ℕ → Bool = λ i. bit c.rows_reached_from-reached.result i && passes (A.step q i a) (bit c.rows_ending-ending.result) in
    let tried : a < T.symbols → bit c.gather.result a ≡ (set a && some_below (row_count T q) on_the_way) = λ inside.
    let told = c.gather.ensures.told a (omega (arith, few, c.symbols.ensures, inside)) (omega (arith, few, inside)) in search rules in (
      λ h.
          let parts = and_parts (set a) _ (sym (tried (omega (arith, few, c.symbols.ensures, c.gather.ensures.inside a h))) ∙ h) in
          held_of A q set (row_count T q) c.rows_reached_from-reached.result c.rows_ending-ending.result some stays rows ends a parts.0 parts.1,
      λ h.
          let both = of_held A q set (row_count T q) c.rows_reached_from-reached.result c.rows_ending-ending.result some stays rows ends a h in
          let at = some_tells on_the_way (row_count T q) (and_parts (set a) _ both).1 in
          let next = passed (A.step q at.0 a) (bit c.rows_ending-ending.result) (and_parts (bit c.rows_reached_from-reached.result at.0) _ at.2).1 in
          tried (kept.step_symbol q at.0 a next.0 next.1) ∙ both,
    )
