-- The tests in their order, and then the pairs. Assumes nothing.
use Rattle.std.proofs.Common.{◌≡◌, ℕ, length, Some, None, Ok, Err, sym, refl, ap, ◌∙◌}
use Rattle.std.proofs.lemmas.Result.{err_from_is_err_and}
use Rattle.schema.specs.declared.tables.Schema.{Schema}
use Rattle.schema.specs.declared.tested.Tested.{Tested}
use Rattle.schema.specs.Meaning.{tables_of}
use Rattle.schema.specs.Tables.{tables, sets, automaton}
use Rattle.compare.specs.Schemas.{Noted}
use Rattle.compare.specs.Stepping.{step_kept_from, StepsOn, Stepping}
use Rattle.compare.specs.View.{view}
use Rattle.compare.proofs.Allowing.{allows}
use Rattle.compare.proofs.Beginnings.{past_either, in_both}
use Rattle.compare.proofs.step.step.Goals as goal

pub returns-clause-outcome : goal.returns-clause-outcome
returns-clause-outcome g c =
    let w = view c.args.area.now in
    let n = c.args.steps in
    let claim = c.args.claim in
    let compared = c.of.result in
    let s = compared.first.now.measured.schema in
    let u = compared.second.now.measured.schema in
    let firsts = ap (λ (t : Tested g.row.D.Denot). t.measured.schema) c.of.ensures.first ∙ c.in_ok-first.ensures.0 in
    let seconds = ap (λ (t : Tested g.row.D.Denot). t.measured.schema) c.of.ensures.second ∙ c.in_ok-first.ensures.1 in
    let slots = length c.args.scratch.now in
    let none : step_kept_from w (tables s) (tables u) claim n slots ≡ None =
    in_both (λ (t v : Tested g.row.D.Denot). step_kept_from w (tables_of t) (tables_of v) claim n slots ≡ None) (sym c.of.ensures.first) (sym c.of.ensures.second) c.in_ok-slots.ensures in
    let may = allows w (tables s) (tables u) claim n slots none in
    let noted : Noted compared w = record { symbols = may.symbols; firsts = may.firsts; seconds = may.seconds } in
    let answer : ℕ × ℕ = (c.from-count.result, c.mark.result) in
    let on : StepsOn (automaton (tables s) (sets g.D.Domain.holds s)) (automaton (tables u) (sets g.D.Domain.holds u)) n w answer (view c.examine_up_to.new.self) = record {
      stepped = c.examine_up_to.ensures noted c.of.ensures.live;
      count = c.from-count.ensures ∙ c.saturating_sub.ensures;
      mark = c.mark.ensures;
    } in
    in_both (λ (s u : Schema g.row.D.Denot). Stepping (tables s) (tables u) (sets g.D.Domain.holds s) (sets g.D.Domain.holds u) claim n slots c.args.area.now (Ok answer) c.examine_up_to.new.self) firsts seconds
    (past_either (tables s) (tables u) (step_kept_from w (tables s) (tables u) claim n slots) None compared.first.now.sound compared.second.now.sound none, on)

pub returns-in_err-slots-clause-outcome : goal.returns-in_err-slots-clause-outcome
returns-in_err-slots-clause-outcome g c =
    let w = view c.args.area.now in
    let n = c.args.steps in
    let claim = c.args.claim in
    let s = c.in_ok-first.first.measured.schema in
    let u = c.in_ok-first.second.measured.schema in
    let slots = length c.args.scratch.now in
    let e = c.in_err-slots.field-0.0 in
    let p = err_from_is_err_and c.from_residual-in_err-slots.result c.from_residual-in_err-slots.ensures.1 in
    rw (p.1, p.2)
    (in_both (λ (s u : Schema g.row.D.Denot). Stepping (tables s) (tables u) (sets g.D.Domain.holds s) (sets g.D.Domain.holds u) claim n slots c.args.area.now (Err e) c.args.area.now) c.in_ok-first.ensures.0 c.in_ok-first.ensures.1
    (past_either (tables s) (tables u) (step_kept_from w (tables s) (tables u) claim n slots) (Some e) c.in_ok-first.first.sound c.in_ok-first.second.sound c.in_err-slots.ensures, refl))
