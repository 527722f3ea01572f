-- The numbers so far that pass. Assumes nothing.
use Rattle.std.proofs.Common.{◌≡◌, ℕ, ◌<◌, true}
use Rattle.bits.specs.Bits.{bit}
use Rattle.bits.proofs.gathering.gather.Given as goal

abbrev pub invariant-loop-number : goal.invariant-loop-number
invariant-loop-number g l =
    record {
      inside : (i : ℕ) → bit l.found i ≡ true → i < l.number;
      told : (i : ℕ) → i < l.number → i < 64 → goal.F-post g l.test i (bit l.found i);
    }
