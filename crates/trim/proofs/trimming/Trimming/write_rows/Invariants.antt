-- The rows so far are written. Assumes nothing.
use Rattle.std.proofs.Common.{◌≡◌}
use Rattle.codec.specs.Numbers.{overwritten}
use Rattle.trim.specs.Trimmed.{concat_below}
use Rattle.trim.specs.Trimming.{row_line_of}
use Rattle.trim.proofs.trimming.Trimming.write_rows.Given as goal

abbrev pub invariant-loop-row : goal.invariant-loop-row
invariant-loop-row g l = l.lines ≡ overwritten l.initial.lines 0 (concat_below l.row (row_line_of l.self l.state))
