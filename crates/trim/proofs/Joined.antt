-- Lists joined of pieces: how long they are, and what stands in a piece. Assumes nothing.
use Rattle.std.proofs.Common.{◌≡◌, ℕ, zero, suc, ◌+◌, ◌*◌, ◌<◌, ◌≤◌, List, [], ◌∷◌, ◌++◌, length, get_or, refl, ap, ◌∙◌, subst, ⊎_elim, add-mul, arith}
use Rattle.std.proofs.lemmas.List.{length-append, get_or_append_left, get_or-append-add}
use Rattle.std.proofs.lemmas.Bool.{cases_lt}
use Rattle.bits.specs.Below.{sum_below}
use Rattle.trim.specs.Trimmed.{concat_below}

module _ (f : ℕ → ℕ) where
  -- a sum holds what comes before one of its numbers, and that number
  pub sum_step : (n q : ℕ) → q < n → sum_below q f + f q ≤ sum_below n f
  sum_step zero q low = absurd (omega arith)
  sum_step (suc n) q low =
      ⊎_elim
      (λ l. omega (arith, sum_step n q l))
      (λ g. let last : q ≡ n = omega arith in omega (arith, ap (λ (k : ℕ). sum_below k f) last, ap f last))
      (cases_lt q n)

  pub sum_at_most : (n most : ℕ) → ((q : ℕ) → q < n → f q ≤ most) → sum_below n f ≤ n * most
  sum_at_most zero most each = omega arith
  sum_at_most (suc n) most each = omega (arith, sum_at_most n most (λ q low. each q (omega arith)), each n (omega arith), add-mul n 1 most)

module _ (part : ℕ → List ℕ) where
  -- pieces whose lengths are multiples of one number
  pub length_joined : (f : ℕ → ℕ) (k : ℕ) → ((q : ℕ) → length (part q) ≡ f q * k) → (n : ℕ) → length (concat_below n part) ≡ sum_below n f * k
  length_joined f k each zero = omega arith
  length_joined f k each (suc n) = omega (arith, length-append (concat_below n part) (part n), length_joined f k each n, each n, add-mul (sum_below n f) (f n) k)

  -- a piece and all before it
  pub joined_step : (n q : ℕ) → q < n → length (concat_below q part) + length (part q) ≤ length (concat_below n part)
  joined_step zero q low = absurd (omega arith)
  joined_step (suc n) q low =
      ⊎_elim
      (λ l. omega (arith, joined_step n q l, length-append (concat_below n part) (part n)))
      (λ g. let last : q ≡ n = omega arith in omega (arith, ap (λ (k : ℕ). length (concat_below k part)) last, ap (λ (k : ℕ). length (part k)) last, length-append (concat_below n part) (part n)))
      (cases_lt q n)

  -- what stands in a piece
  in_piece : (n q j d : ℕ) → q < n → j < length (part q) → get_or (concat_below n part) (length (concat_below q part) + j) d ≡ get_or (part q) j d
  in_piece zero q j d low inside = absurd (omega arith)
  in_piece (suc n) q j d low inside =
      ⊎_elim
      (λ l. get_or_append_left (concat_below n part) (part n) d (length (concat_below q part) + j) (omega (arith, joined_step n q l)) ∙ in_piece n q j d l inside)
      (λ g. let last : n ≡ q = omega arith in subst (λ (k : ℕ). get_or (concat_below n part ++ part n) (length (concat_below k part) + j) d ≡ get_or (part k) j d) last (get_or-append-add (concat_below n part) (part n) j d))
      (cases_lt q n)

  pub get_or_piece : (n q i j d : ℕ) → q < n → length (concat_below q part) ≡ i → j < length (part q) → get_or (concat_below n part) (i + j) d ≡ get_or (part q) j d
  get_or_piece n q i j d low before inside = subst (λ (k : ℕ). get_or (concat_below n part) (k + j) d ≡ get_or (part q) j d) before (in_piece n q j d low inside)

-- a list of one number for each
module _ (f : ℕ → ℕ) where
  pub length_singles : (n : ℕ) → length (concat_below n (λ a. f a ∷ [])) ≡ n
  length_singles zero = refl
  length_singles (suc n) = omega (arith, length-append (concat_below n (λ a. f a ∷ [])) (f n ∷ []), length_singles n)

  pub get_or_singles : (n a d : ℕ) → a < n → get_or (concat_below n (λ a. f a ∷ [])) a d ≡ f a
  get_or_singles n a d low =
      subst (λ (k : ℕ). get_or (concat_below n (λ a. f a ∷ [])) k d ≡ f a) (sum_zero a) (get_or_piece (λ a. f a ∷ []) n a a 0 d low (length_singles a) (omega arith))
    where
      sum_zero : (k : ℕ) → k + 0 ≡ k
      sum_zero k = omega arith
