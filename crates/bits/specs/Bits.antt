-- Sets of numbers below 64 as bits, and the lowest member. Assumes nothing.
use Rattle.std.specs.Prelude.{◌≡◌, ℕ, ◌/◌, ◌%◌, ◌^◌, ◌<◌, Bool, true, false, not, ◌&&◌, Some, None, Option, ◌==◌}

-- bit i of a number, bit 0 the lowest: i is in the set
abbrev pub bit : ℕ → ℕ → Bool
bit bits i = bits / 2 ^ i % 2 == 1

-- in the first set alone
abbrev pub without : (ℕ → Bool) → (ℕ → Bool) → ℕ → Bool
without first second i = first i && not (second i)

-- m is in the set, below 64, and no smaller number is in it
pub record LowestMember (set : ℕ → Bool) (m : ℕ) : Type 0 where
  pub inside : m < 64
  pub member : set m ≡ true
  pub below : (i : ℕ) → i < m → set i ≡ false

-- the lowest number below 64 in the set, or none where there is none
abbrev pub Lowest : (ℕ → Bool) → Option ℕ → Type 0
Lowest set (Some m) = LowestMember set m
Lowest set None = (i : ℕ) → i < 64 → set i ≡ false
