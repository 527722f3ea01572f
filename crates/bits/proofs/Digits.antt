-- The binary digits of a number: the lowest that is set, and those of `a & !b`. Assumes nothing.
use Rattle.std.proofs.Common.{◌≡◌, ℕ, zero, suc, ◌+◌, ◌-◌, ◌/◌, ◌%◌, ◌^◌, ◌<◌, min, max, Bool, cond, eqb, Some, None, Option, sym, refl, ap, ◌∙◌, pow-suc, div-add-mod', div-one, one-add, arith}
use native.Mathlib.Nat.{pow-zero}
use lib.Bits.{bit_and, bit_or, and_shr, and_step, or_shr, or_step}
use lib.Count.{count_trailing_zeros, under}
use lib.Dec.{eqb-zero-suc, eqb-suc-zero, eqb-suc-suc}
use Rattle.std.proofs.lemmas.Bool.{eq-eqb, ne_eqb}
use Rattle.std.proofs.lemmas.Nat.{shr-shr, mod_below}
use Rattle.std.proofs.lemmas.Bool.Decides.{nat_tests}
use Rattle.bits.specs.Bits.{bit, Lowest, LowestMember, without}

-- the digit of n at a place
abbrev pub digit : ℕ → ℕ → ℕ
digit n i = n / 2 ^ i % 2

pub digit_zero : (n : ℕ) → digit n 0 ≡ n % 2
digit_zero n = ap (λ (x : ℕ). n / x % 2) (pow-zero 2) ∙ ap (λ (x : ℕ). x % 2) (div-one n)

pub digit_suc : (n i : ℕ) → digit n (suc i) ≡ digit (n / 2) i
digit_suc n i = ap (λ (x : ℕ). n / 2 ^ x % 2) (sym (one-add i)) ∙ ap (λ (x : ℕ). x % 2) (sym (shr-shr n 1 i))

-- m is the lowest place below k where n has the digit 1
pub record LowestDigit (k n m : ℕ) : Type 0 where
  pub inside : m < k
  pub set : digit n m ≡ 1
  pub clear : (v : ℕ) → v < m → digit n v ≡ 0

-- by the lowest digit d of n, with the rest of n looked at already
lowest_by : (k n d : ℕ) → n % 2 ≡ d → (n % 2 ≡ 0 → LowestDigit k (n / 2) (count_trailing_zeros k (n / 2))) → LowestDigit (suc k) n (under d (count_trailing_zeros k (n / 2)))
lowest_by k n zero even rest =
    let above = rest even in
    record {
      inside = omega (arith, above.inside);
      set = digit_suc n _ ∙ above.set;
      clear = λ v h. clear_by v h above;
    }
  where
    clear_by : (v : ℕ) → v < suc (count_trailing_zeros k (n / 2)) → LowestDigit k (n / 2) (count_trailing_zeros k (n / 2)) → digit n v ≡ 0
    clear_by zero h above = digit_zero n ∙ even
    clear_by (suc v) h above = digit_suc n v ∙ above.clear v (omega arith)
lowest_by k n (suc zero) odd rest = record { inside = omega arith; set = digit_zero n ∙ odd; clear = λ v h. absurd (omega arith) }
lowest_by k n (suc (suc d)) two rest = absurd (omega (arith, mod_below n 2 (omega arith)))

pub trailing : (k n : ℕ) → 0 < n → n < 2 ^ k → LowestDigit k n (count_trailing_zeros k n)
unfolding count_trailing_zeros
trailing zero n some fits = absurd (omega arith)
trailing (suc k) n some fits = lowest_by k n (n % 2) refl (λ even. trailing k (n / 2) (omega (arith, div-add-mod' n 2)) (omega (arith, pow-suc 2 k, div-add-mod' n 2)))

-- the lowest place where a digit is set is the lowest member
pub lowest_member : (n : ℕ) → 0 < n → n < 2 ^ 64 → LowestMember (bit n) (count_trailing_zeros 64 n)
lowest_member n some fits =
    let low = trailing 64 n some fits in
    record {
      inside = low.inside;
      member = eq-eqb _ 1 low.set;
      below = λ v h. ne_eqb _ 1 (λ e. omega (arith, low.clear v h));
    }

-- sets that agree below 64 have the same lowest member
pub lowest_of_same : (p q : ℕ → Bool) (r : Option ℕ) → ((i : ℕ) → i < 64 → p i ≡ q i) → Lowest p r → Lowest q r
lowest_of_same p q (Some m) same s =
    record {
      inside = s.inside;
      member = sym (same m s.inside) ∙ s.member;
      below = λ i h. sym (same i (omega (arith, h, s.inside))) ∙ s.below i h;
    }
lowest_of_same p q None same s = λ i h. sym (same i h) ∙ s i h

-- a digit of `a & b` is set where both are
digit_and : (a b i : ℕ) → digit (bit_and a b) i ≡ min (digit a i) (digit b i)
digit_and a b i =
    let step = and_step (a / 2 ^ i) (b / 2 ^ i) in
    ap (λ (x : ℕ). x % 2) (and_shr a b i) ∙ omega (arith, step, mod_below (a / 2 ^ i) 2 (omega arith), mod_below (b / 2 ^ i) 2 (omega arith))

-- a digit of `a | b` is set where one of the two is
pub digit_or : (a b i : ℕ) → digit (bit_or a b) i ≡ max (digit a i) (digit b i)
digit_or a b i =
    let step = or_step (a / 2 ^ i) (b / 2 ^ i) in
    ap (λ (x : ℕ). x % 2) (or_shr a b i) ∙ omega (arith, step, mod_below (a / 2 ^ i) 2 (omega arith), mod_below (b / 2 ^ i) 2 (omega arith))

-- a power of two has one digit
pub digit_power : (k i : ℕ) → digit (2 ^ k) i ≡ cond (eqb k i) 1 0
digit_power zero zero = refl
digit_power zero (suc i) = digit_suc 1 i ∙ none i ∙ ap (λ (b : Bool). cond b 1 0) (sym (eqb-zero-suc i))
  where
    none : (i : ℕ) → digit 0 i ≡ 0
    none zero = digit_zero 0
    none (suc i) = digit_suc 0 i ∙ none i
digit_power (suc k) zero = digit_zero (2 ^ suc k) ∙ omega (arith, pow-suc 2 k) ∙ ap (λ (b : Bool). cond b 1 0) (sym (eqb-suc-zero k))
digit_power (suc k) (suc i) =
    let half : 2 ^ suc k / 2 ≡ 2 ^ k = omega (arith, pow-suc 2 k) in
    digit_suc (2 ^ suc k) i ∙ ap (λ (n : ℕ). digit n i) half ∙ digit_power k i ∙ ap (λ (b : Bool). cond b 1 0) (sym (eqb-suc-suc k i))

-- a digit of the complement is the other one
digit_other : (k b i : ℕ) → i < k → b < 2 ^ k → digit (2 ^ k - 1 - b) i + digit b i ≡ 1
digit_other zero b i inside fits = absurd (omega arith)
digit_other (suc k) b zero inside fits = omega (arith, pow-suc 2 k)
digit_other (suc k) b (suc i) inside fits =
    let half : (2 ^ suc k - 1 - b) / 2 ≡ 2 ^ k - 1 - b / 2 = omega (arith, pow-suc 2 k) in
    let above = digit_other k (b / 2) i (omega arith) (omega (arith, pow-suc 2 k)) in
    omega (arith, digit_suc (2 ^ suc k - 1 - b) i, digit_suc b i, ap (λ (x : ℕ). digit x i) half, above)

-- the set of `a & !b` is what a has alone
pub bits_alone : (a b v : ℕ) → b < 2 ^ 64 → v < 64 → bit (bit_and a (18446744073709551615 - b)) v ≡ without (bit a) (bit b) v
bits_alone a b v fits inside =
    let both = digit_and a (2 ^ 64 - 1 - b) v in let other = digit_other 64 b v inside fits in grind (arith, nat_tests, both, other)
