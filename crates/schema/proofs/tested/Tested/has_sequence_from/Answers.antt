-- Each row is asked whether it was reached and may end. Assumes nothing.
use Rattle.std.proofs.Common.{ℕ, ◌<◌, Bool, ◌&&◌, Decides, rules, sym, ap, ◌∙◌, subst, arith}
use Rattle.bits.specs.Bits.{bit}
use Rattle.schema.specs.Below.{some_below}
use Rattle.schema.specs.Rows.{RunsOverFrom}
use Rattle.schema.specs.Tables.{tables, sets, automaton_of, row_count}
use Rattle.schema.proofs.Chains.{some_below_from_any}
use Rattle.schema.proofs.Gathering.{ends_decide}
use Rattle.schema.proofs.Sound.{sound}
use Rattle.schema.proofs.tested.Tested.has_sequence_from.Goals as goal

pub returns : goal.returns
returns g c =
    let t = c.args.self.now in
    let s = t.measured.schema in
    let T = tables s in
    let A = automaton_of g.D.Domain.holds s in
    let q = c.args.state in
    let set = bit c.args.symbols in
    let reached = c.rows_reached_from-reached.result in
    let kept = sound T (sets g.D.Domain.holds s) t.sound in
    let test : ℕ → Bool = λ i. bit reached i && A.ends q i in
    let tried = some_below_from_any _ _ c.any.result c.state_byte.result test c.any.ensures.ran (λ x b f k. search rules) ∙ ap (λ n. some_below n test) c.state_byte.ensures in
    let all : q < T.states → c.args.from < row_count T q → Decides c.any.result (RunsOverFrom A q set c.args.from) = λ low inside.
    subst (λ (b : Bool). Decides b (RunsOverFrom A q set c.args.from)) (sym tried)
    (ends_decide A q set (row_count T q) (λ i a j l is. kept.step_in q i a j low l is) c.args.from reached inside (c.rows_reached_from-reached.ensures.any_row low inside)) in
    record { any_row = all; first_row = λ low first. subst (λ (r : ℕ). Decides c.any.result (RunsOverFrom A q set r)) first (all low (omega (arith, first, (kept.rows q low).from))) }
