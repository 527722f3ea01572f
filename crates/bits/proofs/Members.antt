-- Sets of numbers as bits: who is in, and one member more. Assumes nothing.
use Rattle.std.proofs.Common.{◌≡◌, ℕ, zero, suc, ◌+◌, ◌*◌, ◌/◌, ◌%◌, ◌^◌, ◌<◌, ◌≤◌, max, min, Bool, Decides, true, false, cond, ◌&&◌, ◌||◌, eqb, ltb, sym, refl, ap, ◌∙◌, ⊎_elim, mod-eq_of_lt, add_comm, one-add, arith}
use native.Mathlib.Nat.{div-eq_of_lt}
use lib.Bits.{bit_and, bit_or, or_add_and, and_le_r}
use lib.Count.{ones, ones_step, ones_cat}
use Rattle.std.proofs.lemmas.Nat.{one_shl, mod_below, mod-pow-add, pow_below, pow_pos}
use Rattle.std.proofs.lemmas.Nat.Bits.{bit_at_and}
use Rattle.std.proofs.lemmas.Bool.{and_from, both_ways, cases_Bool, cases_lt, eq-eqb, lt-ltb, or_right}
use Rattle.std.proofs.lemmas.Bool.Decides.{nat_tests}
use Rattle.bits.specs.Bits.{bit}
use Rattle.bits.specs.Below.{count_below}
use Rattle.bits.proofs.Digits.{digit, digit_or, digit_power}

lt_power : (set i : ℕ) → set < 2 ^ 64 → 64 ≤ i → set < 2 ^ i
lt_power set i fits past = ⊎_elim (λ more. omega (arith, pow_below 64 i more)) (λ same. let e : i ≡ 64 = omega arith in omega (arith, ap (λ (n : ℕ). 2 ^ n) e)) (cases_lt 64 i)

-- no number past 63 is in a set of 64 bits
pub none_past : (set i : ℕ) → set < 2 ^ 64 → 64 ≤ i → bit set i ≡ false
none_past set i fits past =
    let none : set / 2 ^ i ≡ 0 = div-eq_of_lt (lt_power set i fits past) in
    ap (λ (n : ℕ). eqb (n % 2) 1) none

-- one member more
pub added : (set k i : ℕ) → k < 64 → bit (bit_or set (1 * 2 ^ k % 18446744073709551616)) i ≡ (bit set i || (ltb k 64 && eqb k i))
added set k i inside =
    let power = one_shl k 64 inside in
    let digits = ap (λ (n : ℕ). digit (bit_or set n) i) power ∙ digit_or set (2 ^ k) i ∙ ap (λ (n : ℕ). max (digit set i) n) (digit_power k i) in
    let two = mod_below (set / 2 ^ i) 2 (omega arith) in
    by (digit (bit_or set (1 * 2 ^ k % 18446744073709551616)) i) (digit set i) (eqb k i) digits two inside
  where
    by : (d e : ℕ) (b : Bool) → d ≡ max e (cond b 1 0) → e < 2 → k < 64 → eqb d 1 ≡ (eqb e 1 || (ltb k 64 && b))
    by d e true is two inside = grind (arith, nat_tests)
    by d e false is two inside = grind (arith, nat_tests)

pub grown : (set k : ℕ) → k < 64 → bit set k ≡ false → set < bit_or set (1 * 2 ^ k % 18446744073709551616)
grown set k inside out =
    let new = bit_or set (1 * 2 ^ k % 18446744073709551616) in
    let sum = or_add_and set (1 * 2 ^ k % 18446744073709551616) in
    ⊎_elim (λ h. h)
    (λ h.
    let same : new ≡ set = omega (arith, and_le_r set (1 * 2 ^ k % 18446744073709551616)) in
    let in-it : bit set k ≡ true = sym (ap (λ (n : ℕ). bit n k) same) ∙ added set k k inside ∙ or_right (bit set k) _ (and_from _ _ (lt-ltb k 64 inside) (eq-eqb k k refl)) in
    absurd (both_ways (bit set k) out in-it))
    (cases_lt set new)

-- nothing is in the empty set
pub bit_zero : (i : ℕ) → bit 0 i ≡ false
bit_zero i = ap (λ (n : ℕ). eqb (n % 2) 1) (div-eq_of_lt (pow_pos i))

-- a set with all members of another
pub bit-bit_or : (a b i : ℕ) → bit (bit_or a b) i ≡ (bit a i || bit b i)
bit-bit_or a b i = by (digit (bit_or a b) i) (digit a i) (digit b i) (digit_or a b i) (mod_below (a / 2 ^ i) 2 (omega arith)) (mod_below (b / 2 ^ i) 2 (omega arith))
  where
    by : (d e f : ℕ) → d ≡ max e f → e < 2 → f < 2 → eqb d 1 ≡ (eqb e 1 || eqb f 1)
    by d e f is two two' = grind (arith, nat_tests)

-- a set with the members of two sets alone
pub bit-bit_and : (a b i : ℕ) → bit (bit_and a b) i ≡ (bit a i && bit b i)
bit-bit_and a b i = by (digit (bit_and a b) i) (digit a i) (digit b i) (bit_at_and a b i) (mod_below (a / 2 ^ i) 2 (omega arith)) (mod_below (b / 2 ^ i) 2 (omega arith))
  where
    by : (d e f : ℕ) → d ≡ min e f → e < 2 → f < 2 → eqb d 1 ≡ (eqb e 1 && eqb f 1)
    by d e f is two two' = grind (arith, nat_tests)

-- the numbers below a count that were gathered are those that pass
module _ (set count : ℕ) (inside : (i : ℕ) → bit set i ≡ true → i < count) where
  pub gathered : (test : ℕ → Bool) → ((i : ℕ) → i < count → bit set i ≡ test i) → ((i : ℕ) → count ≤ i → test i ≡ false) → (i : ℕ) → bit set i ≡ test i
  gathered test told past i = ⊎_elim (told i) (λ up. ⊎_elim (λ there. absurd (omega (arith, up, inside i there))) (λ out. out ∙ sym (past i up)) (cases_Bool (bit set i))) (cases_lt i count)

  pub gathered_where : (P : ℕ → Type 0) → ((i : ℕ) → i < count → Decides (bit set i) (P i)) → (i : ℕ) → Decides (bit set i) ((i < count) × P i)
  gathered_where P told i = (λ h. let low = inside i h in (low, (told i low).0 h), λ h. (told i h.0).1 h.1)

ones_zero : ones 0 ≡ 0
unfolding ones
ones_zero = refl

-- the members below k are the ones among the lowest k digits
pub ones_below : (set k : ℕ) → ones (set % 2 ^ k) ≡ count_below k (bit set)
ones_below set zero = ap ones none ∙ ones_zero
  where
    none : set % 2 ^ 0 ≡ 0
    none = omega (arith, mod_below set 1 (omega arith))
ones_below set (suc k) = ap ones split ∙ ones_cat k (digit set k) (set % 2 ^ k) (mod_below set (2 ^ k) (pow_pos k)) ∙ add_comm (ones (digit set k)) _ ∙ ap (λ (n : ℕ). n + ones (digit set k)) (ones_below set k) ∙ ap (λ (n : ℕ). count_below k (bit set) + n) (one_digit (digit set k) (mod_below (set / 2 ^ k) 2 (omega arith)))
  where
    split : set % 2 ^ suc k ≡ digit set k * 2 ^ k + set % 2 ^ k
    split = ap (λ (n : ℕ). set % 2 ^ n) (sym (one-add k)) ∙ mod-pow-add set 1 k

    one_digit : (d : ℕ) → d < 2 → ones d ≡ cond (eqb d 1) 1 0
    one_digit zero low = ones_zero
    one_digit (suc zero) low = ones_step 1 ∙ ap (λ (n : ℕ). 1 + n) ones_zero
    one_digit (suc (suc d)) low = absurd (omega arith)

pub ones_all : (set k : ℕ) → set < 2 ^ 64 → 64 ≤ k → ones set ≡ count_below k (bit set)
ones_all set k fits past = ap ones (sym (mod-eq_of_lt (lt_power set k fits past))) ∙ ones_below set k
