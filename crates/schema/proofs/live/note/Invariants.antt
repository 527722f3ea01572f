-- The number stands at the members that the loop has passed. Assumes nothing.
use Rattle.std.proofs.Common.{◌≡◌, ℕ, ◌<◌, ◌≤◌, cond, Some}
use Rattle.std.specs.List.{slice_get}
use Rattle.bits.specs.Bits.{bit}
use Rattle.schema.proofs.live.note.Given as goal

abbrev pub invariant-loop-state : goal.invariant-loop-state
invariant-loop-state l =
    record {
      passed : (q : ℕ) → q < l.state → slice_get l.ranks q ≡ cond (bit l.states q) (Some (Some l.number)) (slice_get l.initial.ranks q);
      ahead : (q : ℕ) → l.state ≤ q → slice_get l.ranks q ≡ slice_get l.initial.ranks q;
    }
