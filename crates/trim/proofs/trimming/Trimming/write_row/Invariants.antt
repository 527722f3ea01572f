-- The entries so far are written. Assumes nothing.
use Rattle.std.proofs.Common.{◌≡◌, ℕ, ◌<◌, get_or}
use Rattle.trim.specs.Trimming.{new_entry_of}
use Rattle.trim.proofs.trimming.Trimming.write_row.Given as goal

abbrev pub invariant-loop-symbol : goal.invariant-loop-symbol
invariant-loop-symbol g l = (k : ℕ) → k < l.symbol → get_or l.byte-items k 0 ≡ new_entry_of l.self l.state l.row k
