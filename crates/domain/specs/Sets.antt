-- Sets of values, as tests on numbers, and the smallest member. Assumes nothing.
use Rattle.std.specs.Prelude.{◌≡◌, ℕ, ◌^◌, ◌<◌, Bool, true, false, not, ◌&&◌, ◌||◌, Some, None, Option}

-- no value passes the test; values are the numbers below 2 ^ 32
abbrev pub Empty : (ℕ → Bool) → Type 0
Empty test = (v : ℕ) → v < 2 ^ 32 → test v ≡ false

-- m is a value that passes the test, and no smaller one does
pub record SmallestMember (test : ℕ → Bool) (m : ℕ) : Type 0 where
  pub value : m < 2 ^ 32
  pub passes : test m ≡ true
  pub before : (v : ℕ) → v < m → test v ≡ false

-- the smallest value that passes the test, or none where none does
abbrev pub Smallest : (ℕ → Bool) → Option ℕ → Type 0
Smallest test (Some m) = SmallestMember test m
Smallest test None = Empty test

-- a value is in the first set alone
abbrev pub alone : (ℕ → Bool) → (ℕ → Bool) → ℕ → Bool
alone first second v = first v && not (second v)

-- a value is in one of the two sets, or in both
abbrev pub either : (ℕ → Bool) → (ℕ → Bool) → ℕ → Bool
either first second v = first v || second v

-- a value is in both sets
abbrev pub both : (ℕ → Bool) → (ℕ → Bool) → ℕ → Bool
both first second v = first v && second v
