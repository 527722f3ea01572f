-- The transitions so far are written. Assumes nothing.
use Rattle.std.proofs.Common.{◌≡◌, ℕ, ◌<◌, get_or}
use Rattle.trim.specs.Trimming.{new_transition_of}
use Rattle.trim.proofs.trimming.Trimming.write_transitions.Given as goal

abbrev pub invariant-loop-symbol : goal.invariant-loop-symbol
invariant-loop-symbol g l = (k : ℕ) → k < l.symbol → get_or l.line k 0 ≡ new_transition_of l.self l.state k
