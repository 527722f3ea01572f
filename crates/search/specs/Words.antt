-- Words: how a short sequence of symbols fills its slots. Assumes nothing.
use Rattle.std.specs.Prelude.{◌≡◌, ℕ, ◌-◌, ◌≤◌, List, ◌++◌, length, take, replicate}
use Rattle.std.proofs.Common.{arith, length-take}

-- a sequence in n slots, the slots past it holding 0
abbrev pub padded : ℕ → List ℕ → List ℕ
padded n w = w ++ replicate (n - length w) 0

-- so long a front is as long as it says
pub front_long : (s : List ℕ) (n : ℕ) → n ≤ length s → length (take n s) ≡ n
front_long s n h = omega (arith, length-take n s)
