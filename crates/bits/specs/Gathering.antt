-- Sets that grow by what numbers lead to. Assumes nothing.
use Rattle.std.specs.Prelude.{◌≡◌, ℕ, ◌<◌, true, ◌⊎◌, Some, Option}
use Rattle.bits.specs.Bits.{bit}

-- the numbers of a set, and those below 64 that one of the numbers below n leads to
pub record LedOnto (Leads : ℕ → Option ℕ → Type 0) (n before after : ℕ) : Type 0 where
  pub kept : (i : ℕ) → bit before i ≡ true → bit after i ≡ true
  pub added :
      (a : ℕ) → a < n
      → (o : Option ℕ) × Leads a o × ((i : ℕ) → o ≡ Some i → i < 64 → bit after i ≡ true)
  pub only : (i : ℕ) → bit after i ≡ true → (bit before i ≡ true) ⊎ ((a : ℕ) × (a < n) × Leads a (Some i))
