-- A symbol of the set, and the row that it leads to. Assumes nothing.
use Rattle.schema.specs.Tables.{sets}
use Rattle.search.proofs.search.Question.next_pair.Goals as goal

pub returns-in_err-row : goal.returns-in_err-row
returns-in_err-row g c =
    let domains = sets g.D.Domain.holds c.args.self.now.tested.now.measured.schema in
    rw (c.from_residual.ensures, ← c.if-not-has_member.ensures, ← c.next_row.ensures domains, c.in_err-row.was)

pub returns : goal.returns
returns g c =
    let domains = sets g.D.Domain.holds c.args.self.now.tested.now.measured.schema in
    rw (← c.if-not-has_member.ensures, ← c.next_row.ensures domains, c.in_ok-row.was, c.after.ensures)
