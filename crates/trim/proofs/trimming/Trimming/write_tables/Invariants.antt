-- The lines of the kept states so far are written, and their rows are counted. Assumes nothing.
use Rattle.std.proofs.Common.{◌≡◌}
use Rattle.trim.specs.Lent.{held, loans}
use Rattle.trim.specs.Trimming.{rows_before_of}
use Rattle.trim.proofs.Written.{Upto}
use Rattle.trim.proofs.trimming.Trimming.write_tables.Given as goal

abbrev pub invariant-loop-state : goal.invariant-loop-state
invariant-loop-state g l =
    (loans l.outputs ≡ loans l.initial.outputs) × Upto l.self (held l.initial.outputs) l.state (held l.outputs) × (l.first ≡ rows_before_of l.self l.state)
