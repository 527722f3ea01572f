-- Kept states are numbered in ascending order: the numbers below their count are just theirs. Assumes nothing.
use Rattle.std.proofs.Common.{◌≡◌, ℕ, zero, suc, ◌+◌, ◌<◌, ◌≤◌, Bool, true, false, cond, refl, ap, ⊎_elim, arith}
use Rattle.std.proofs.lemmas.Bool.{cases_lt}
use Rattle.bits.specs.Below.{count_below}
use Rattle.trim.proofs.Joined.{sum_step}

module _ (kept : ℕ → Bool) where
  one_each : (q : ℕ) → kept q ≡ true → ◌≡◌ {A = ℕ} (cond (kept q) 1 0) 1
  one_each q there = ap {B = ℕ} (λ (b : Bool). cond b 1 0) there

  -- a kept state has a lower number than the states after it
  pub number_below : (n q : ℕ) → q < n → kept q ≡ true → count_below q kept < count_below n kept
  number_below n q low there = omega (arith, sum_step (λ i. cond (kept i) 1 0) n q low, one_each q there)

  -- the kept state with a number
  pub record Numbered (n m : ℕ) : Type 0 where
    pub state : ℕ
    pub low : state < n
    pub there : kept state ≡ true
    pub is : count_below state kept ≡ m

  pub numbered : (n m : ℕ) → m < count_below n kept → Numbered n m
  numbered zero m low = absurd (omega arith)
  numbered (suc n) m low =
      ⊎_elim
      (λ l. let old = numbered n m l in record { state = old.state; low = omega (arith, old.low); there = old.there; is = old.is })
      (λ g. let there = by (kept n) g low in record { state = n; low = omega arith; there = there; is = omega (arith, one_each n there) })
      (cases_lt m (count_below n kept))
    where
      by : (b : Bool) → count_below n kept ≤ m → m < count_below n kept + cond b 1 0 → b ≡ true
      by true past low = refl
      by false past low = absurd (omega arith)
