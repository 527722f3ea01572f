-- The tests in their order, and then the document. Assumes nothing.
use Rattle.std.proofs.Common.{length, Some, None, sym, refl, ap, ◌∙◌, inl, inr}
use Rattle.std.proofs.lemmas.Result.{err_from_is_err_and}
use Rattle.schema.specs.Tables.{tables}
use Rattle.compare.specs.View.{view}
use Rattle.compare.proofs.Beginnings.{past_either}
use Rattle.document.specs.Writing.{document_kept_from}
use Rattle.document.proofs.Calling.{allowed_by, handed_over}
use Rattle.document.proofs.document.document.Goals as goal

pub returns-in_err-slots-clause-outcome : goal.returns-in_err-slots-clause-outcome
returns-in_err-slots-clause-outcome g c =
    let tests = c.in_ok-first in
    let s = tests.first.measured.schema in
    let u = tests.second.measured.schema in
    let kept = document_kept_from (view c.args.area.now) (tables s) (tables u) c.args.claim (length c.args.scratch.now) (length c.args.levels.now) in
    let p = err_from_is_err_and c.from_residual-in_err-slots.result c.from_residual-in_err-slots.ensures.1 in
    handed_over g.D.Domain.holds s c.args.first.now u c.args.second.now tests.ensures.0 tests.ensures.1 _ _ _ c.args.area.now _ _ _
    (inl (p.0, past_either (tables s) (tables u) kept (Some p.0) tests.first.sound tests.second.sound (c.in_err-slots.ensures ∙ ap Some (sym p.2)), p.1, refl))

pub returns-clause-outcome : goal.returns-clause-outcome
returns-clause-outcome g c =
    let tests = c.in_ok-first in
    let s = tests.first.measured.schema in
    let u = tests.second.measured.schema in
    let w = view c.args.area.now in
    let slots = length c.args.scratch.now in
    let levels = length c.args.levels.now in
    let may = allowed_by w (tables s) (tables u) c.args.claim slots levels c.in_ok-slots.ensures in
    handed_over g.D.Domain.holds s c.args.first.now u c.args.second.now tests.ensures.0 tests.ensures.1 _ _ _ c.args.area.now _ _ _
    (inr (past_either (tables s) (tables u) (document_kept_from w (tables s) (tables u) c.args.claim slots levels) None tests.first.sound tests.second.sound c.in_ok-slots.ensures, c.write_document.ensures may.0 may.1))
