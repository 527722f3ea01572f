-- The bytes of a number, taken off one after the other. Assumes nothing.
use Rattle.std.proofs.Common.{◌≡◌, ℕ, zero, suc, ◌+◌, ◌-◌, ◌*◌, ◌/◌, ◌%◌, ◌^◌, ◌<◌, ◌≤◌, ltb, ◌⊎◌, List, [], ◌∷◌, length, get_or, drop, sym, refl, ap, ◌∙◌, subst, inl, inr, ⊎_elim, arith, length-drop}
use Rattle.std.proofs.lemmas.Nat.{shr_below}
use Rattle.std.proofs.lemmas.List.{drop_more}
use Rattle.std.proofs.lemmas.Bool.{cases_lt, cond-true, cond-false, lt-ltb, le-ltb}
use Rattle.codec.specs.Numbers.{groups_of, number_bytes, NumberExamples}

pub some_group : (k n : ℕ) → 0 < length (groups_of k n)
some_group zero n = omega arith
some_group (suc k) n =
    ⊎_elim
    (λ low. omega (arith, ap length (cond-true (ltb n 128) (n ∷ []) ((n % 128 + 128) ∷ groups_of k (n / 128)) (lt-ltb n 128 low))))
    (λ high. omega (arith, ap length (cond-false (ltb n 128) (n ∷ []) ((n % 128 + 128) ∷ groups_of k (n / 128)) (le-ltb n 128 high))))
    (cases_lt n 128)

-- where another group follows, this one has its top bit set
record Another (k n : ℕ) : Type 0 where
  fewer : ℕ
  is : k ≡ suc fewer
  splits : groups_of k n ≡ (n % 128 + 128) ∷ groups_of fewer (n / 128)
  high : 128 ≤ n

another : (k n : ℕ) → 1 < length (groups_of k n) → Another k n
another zero n long = absurd (omega arith)
another (suc k) n long =
    ⊎_elim
    (λ low. absurd (omega (arith, ap length (cond-true (ltb n 128) (n ∷ []) ((n % 128 + 128) ∷ groups_of k (n / 128)) (lt-ltb n 128 low)))))
    (λ high. record { fewer = k; is = refl; splits = cond-false (ltb n 128) (n ∷ []) ((n % 128 + 128) ∷ groups_of k (n / 128)) (le-ltb n 128 high); high = high })
    (cases_lt n 128)

-- the last group is the number that is left
only : (k n : ℕ) → length (groups_of k n) ≡ 1 → (groups_of k n ≡ n ∷ []) × ((k ≡ 0) ⊎ (n < 128))
only zero n long = (refl, inl refl)
only (suc k) n long =
    ⊎_elim
    (λ low. (cond-true (ltb n 128) (n ∷ []) ((n % 128 + 128) ∷ groups_of k (n / 128)) (lt-ltb n 128 low), inr low))
    (λ high. absurd (omega (arith, some_group k (n / 128), ap length (cond-false (ltb n 128) (n ∷ []) ((n % 128 + 128) ∷ groups_of k (n / 128)) (le-ltb n 128 high)))))
    (cases_lt n 128)

-- after i bytes of the number, the groups of `rest` are left
pub record Left (value i rest : ℕ) : Type 0 where
  pub few : i ≤ 4
  pub tail : drop i (number_bytes value) ≡ groups_of (4 - i) rest
  pub small : rest < 2 ^ (32 - 7 * i)

module _ (value i rest : ℕ) (left : Left value i rest) where
  abbrev bytes : List ℕ
  bytes = number_bytes value

  long : length (groups_of (4 - i) rest) ≡ length bytes - i
  long = sym (ap length left.tail) ∙ length-drop i bytes

  first : i < length bytes → get_or bytes i 0 ∷ drop (i + 1) bytes ≡ groups_of (4 - i) rest
  first inside = sym (drop_more bytes i 0 inside) ∙ left.tail

  pub left_more : i + 1 < length bytes → (get_or bytes i 0 ≡ rest % 128 + 128) × (128 ≤ rest) × Left value (i + 1) (rest / 128)
  left_more more =
      let a = another (4 - i) rest (omega (arith, long)) in
      let whole = first (omega arith) ∙ a.splits in
      let early : i < 4 = omega (arith, a.is) in
      let fewer : a.fewer ≡ 4 - (i + 1) = omega (arith, a.is) in
      let bits : 32 - 7 * (i + 1) + 7 ≡ 32 - 7 * i = omega arith in (
        (cc whole),
        a.high,
        record {
          few = omega arith;
          tail = (let t : drop (i + 1) bytes ≡ groups_of a.fewer (rest / 128) = cc whole in t ∙ ap (λ (k : ℕ). groups_of k (rest / 128)) fewer);
          small = shr_below rest (32 - 7 * (i + 1)) 7 (subst (λ (n : ℕ). rest < 2 ^ n) (sym bits) left.small);
        },
      )

  pub left_last : i + 1 ≡ length bytes → (get_or bytes i 0 ≡ rest) × (rest < 128)
  left_last last =
      let o = only (4 - i) rest (omega (arith, long)) in
      let whole = first (omega arith) ∙ o.0 in (
        (cc whole),
        ⊎_elim (λ none. let four : i ≡ 4 = omega (arith, left.few) in let s : rest < 2 ^ (32 - 7 * 4) = subst (λ (n : ℕ). rest < 2 ^ (32 - 7 * n)) four left.small in omega arith) (λ low. omega arith) o.1,
      )

-- one byte more, where the top bit is set just for a rest of more than seven bits
pub next_byte : (value i rest follows : ℕ) → (((rest < 128) × (follows ≡ 0)) ⊎ ((128 ≤ rest) × (follows ≡ 128))) → i < length (number_bytes value) → Left value i rest
    → (get_or (number_bytes value) i 0 ≡ rest % 128 + follows) × (i + 1 < length (number_bytes value) → Left value (i + 1) (rest / 128))
next_byte value i rest follows top inside left =
    ⊎_elim
    (λ more.
    let on = left_more value i rest left more in
    (on.0 ∙ ⊎_elim (λ low. absurd (omega (arith, low.0, on.1))) (λ high. omega (arith, high.1)) top, λ h. on.2))
    (λ end.
    let on = left_last value i rest left (omega arith) in
    (on.0 ∙ ⊎_elim (λ low. omega (arith, low.0, low.1)) (λ high. absurd (omega (arith, high.0, on.1))) top, λ h. absurd (omega arith)))
    (cases_lt (i + 1) (length (number_bytes value)))

pub examples : NumberExamples
examples = record {
  zero_byte = refl;
  one_group = refl;
  two_groups = refl;
  low_first = refl;
  five_groups = refl;
  largest = refl;
  absent = refl;
  cut_off = refl;
  followed = refl;
  too_large = refl;
  no_sixth = refl;
  last_zero = refl;
}
