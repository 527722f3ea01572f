-- Each row of the state is tried. Assumes nothing.
use Rattle.std.proofs.Common.{rules, arith}
use Rattle.bits.specs.Bits.{bit}
use Rattle.schema.specs.Rows.{RunsOverFrom}
use Rattle.schema.specs.Tables.{tables, sets, automaton_of, row_count}
use Rattle.bits.proofs.Members.{gathered_where}
use Rattle.schema.proofs.Sound.{sound}
use Rattle.schema.proofs.tested.Tested.rows_ending.Goals as goal

pub returns : goal.returns
returns g c = λ low.
    let t = c.args.self.now in
    let s = t.measured.schema in
    let q = c.args.state in
    let few = ((sound (tables s) (sets g.D.Domain.holds s) t.sound).rows q low).to in
    gathered_where c.gather.result (row_count (tables s) q) (λ i there. omega (arith, c.state_byte.ensures, c.gather.ensures.inside i there)) (RunsOverFrom (automaton_of g.D.Domain.holds s) q (bit c.args.symbols))
    (λ i inside. let told = c.gather.ensures.told i (omega (arith, c.state_byte.ensures, inside)) (omega (arith, few, inside)) in search rules)
