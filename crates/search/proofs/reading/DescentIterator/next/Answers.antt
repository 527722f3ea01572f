-- The way down ends, or goes on at the parent. Assumes nothing.
use Rattle.std.proofs.Common.{sym, ◌∙◌}
use Rattle.search.specs.Pairs.{row_links}
use Rattle.search.proofs.Tracing.{descent_ends, descent_goes_on}
use Rattle.search.proofs.reading.DescentIterator.next.Goals as goal

pub returns-in_err-pair-clause-steps : goal.returns-in_err-pair-clause-steps
returns-in_err-pair-clause-steps c =
    let t = c.args.self.now in
    let none = descent_ends row_links t.pile.now.entries t.at (sym c.found_from.ensures ∙ c.in_err-pair.was) in
    rw c.from_residual.ensures (none, none)

pub returns-clause-steps : goal.returns-clause-steps
returns-clause-steps c =
    let t = c.args.self.now in
    rw c.from-self.ensures (descent_goes_on row_links t.pile.now.entries t.at c.in_ok-pair.pair (sym c.found_from.ensures ∙ c.in_ok-pair.was))
