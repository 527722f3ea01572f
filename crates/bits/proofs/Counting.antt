-- How many numbers below a bound pass a test. Assumes nothing.
use Rattle.std.proofs.Common.{◌≡◌, ℕ, zero, suc, ◌+◌, ◌<◌, ◌≤◌, Bool, true, false, cond, refl, ap, subst, ⊎_elim, arith}
use Rattle.std.proofs.lemmas.Bool.{cases_lt}
use Rattle.bits.specs.Below.{count_below}

-- at most all of them pass
pub count_le : (k : ℕ) (test : ℕ → Bool) → count_below k test ≤ k
count_le zero test = omega arith
count_le (suc k) test = omega (arith, count_le k test, at_most (test k))
  where
    at_most : (b : Bool) → cond b 1 0 ≤ 1
    at_most true = omega arith
    at_most false = omega arith

-- where as many pass as there are numbers, each passes
pub count_full : (test : ℕ → Bool) (k : ℕ) → k ≤ count_below k test → (i : ℕ) → i < k → test i ≡ true
count_full test zero all i low = absurd (omega arith)
count_full test (suc k) all i low = by (test k) refl all (λ rest l. count_full test k rest i l)
  where
    by : (b : Bool) → test k ≡ b → suc k ≤ count_below k test + cond b 1 0 → (k ≤ count_below k test → i < k → test i ≡ true) → test i ≡ true
    by true last all below = ⊎_elim (below (omega (arith, all))) (λ g. let same : k ≡ i = omega arith in subst (λ (n : ℕ). test n ≡ true) same last) (cases_lt i k)
    by false last all below = absurd (omega (arith, all, count_le k test))

module _ (test more : ℕ → Bool) (kept : (i : ℕ) → test i ≡ true → more i ≡ true) where
  each : (k : ℕ) → cond (test k) 1 0 ≤ cond (more k) 1 0
  each k = by (test k) (more k) (kept k)
    where
      by : (a b : Bool) → (a ≡ true → b ≡ true) → cond a 1 0 ≤ cond b 1 0
      by true b h = omega (arith, ap {B = ℕ} (λ (c : Bool). cond c 1 0) (h refl))
      by false b h = omega arith

  -- where none is lost, as many pass
  pub count_keeps : (k : ℕ) → count_below k test ≤ count_below k more
  count_keeps zero = omega arith
  count_keeps (suc k) = omega (arith, count_keeps k, each k)

  -- and one number more passes
  pub count_grows : (k j : ℕ) → j < k → test j ≡ false → more j ≡ true → count_below k test < count_below k more
  count_grows zero j low out there = absurd (omega arith)
  count_grows (suc k) j low out there =
      ⊎_elim
      (λ l. omega (arith, count_grows k j l out there, each k))
      (λ g.
      let last : j ≡ k = omega arith in
      omega (arith, count_keeps k, ap {B = ℕ} (λ (b : Bool). cond b 1 0) (subst (λ (n : ℕ). test n ≡ false) last out), ap {B = ℕ} (λ (b : Bool). cond b 1 0) (subst (λ (n : ℕ). more n ≡ true) last there)))
      (cases_lt j k)
