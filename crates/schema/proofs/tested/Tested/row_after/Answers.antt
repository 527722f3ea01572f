-- The next row, under a symbol of the set. Assumes nothing.
use Rattle.std.proofs.Common.{sym, ◌∙◌}
use Rattle.std.proofs.lemmas.Bool.{cond-true}
use Rattle.schema.specs.Tables.{sets}
use Rattle.schema.proofs.tested.Tested.row_after.Goals as goal

pub returns-then-has_member : goal.returns-then-has_member
returns-then-has_member g c = c.next_row.ensures (sets g.D.Domain.holds c.args.self.now.measured.schema) ∙ sym (cond-true _ _ _ (sym c.if-has_member.ensures))
