-- The fault of the tables, or else the verdict of the walk. Assumes nothing.
use Rattle.std.proofs.Common.{length, Err, sym, ap, ◌∙◌}
use Rattle.std.proofs.lemmas.Result.{err_from_is_err_and}
use Rattle.schema.specs.Tables.{tables, sets}
use Rattle.schema.proofs.Sizes.{sound_tables}
use Rattle.checking.specs.Checking.{checked}
use Rattle.checking.proofs.Trees.{checked_faulty, checked_sound}
use Rattle.checking.proofs.check.Goals as goal

pub returns-in_err-tested-clause-answer : goal.returns-in_err-tested-clause-answer
returns-in_err-tested-clause-answer g c =
    let p = err_from_is_err_and c.from_residual.result c.from_residual.ensures.1 in
    let s = c.args.schema.now in
    p.1 ∙ ap Err p.2 ∙ sym (checked_faulty (tables s) (sets g.D.Domain.holds s) c.args.tree.now (length c.args.levels.now) _ c.in_err-tested.ensures)

pub returns-clause-answer : goal.returns-clause-answer
returns-clause-answer g c =
    let t = c.in_ok-tested.tested in
    let s = t.measured.schema in
    let bytes = c.args.tree.now in
    let levels = length c.args.levels.now in
    c.walk.ensures ∙ sym (checked_sound (tables s) (sets g.D.Domain.holds s) bytes levels (sound_tables (tables s) t.sound))
    ∙ ap (λ s. checked (tables s) (sets g.D.Domain.holds s) bytes levels) c.in_ok-tested.ensures
