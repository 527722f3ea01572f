-- The rows of the kept states so far are counted. Assumes nothing.
use Rattle.std.proofs.Common.{◌≡◌}
use Rattle.trim.specs.Trimming.{rows_before_of}
use Rattle.trim.proofs.trimming.Trimming.rows_before.Given as goal

abbrev pub invariant-loop-before : goal.invariant-loop-before
invariant-loop-before g l = l.rows ≡ rows_before_of l.self l.before
