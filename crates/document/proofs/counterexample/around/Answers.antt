-- The first place splits the sequence. Assumes nothing.
use Rattle.document.proofs.Around.{nowhere, sides, not_before}
use Rattle.document.proofs.counterexample.around.Goals as goal

pub returns-in_err-place : goal.returns-in_err-place
returns-in_err-place c = rw c.from_residual.ensures (nowhere c.args.symbol c.args.word.now c.in_err-place.ensures)

pub returns : goal.returns
returns c =
    let at = c.in_ok-place.ensures in
    (sides c.args.symbol c.args.word.now c.in_ok-place.place at.0 at.1, not_before c.args.symbol c.args.word.now c.in_ok-place.place at.0 at.2)
