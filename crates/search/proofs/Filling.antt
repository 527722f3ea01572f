-- How a sequence fills its slots. Assumes nothing.
use Rattle.std.proofs.Common.{◌≡◌, ℕ, ◌+◌, ◌-◌, ◌<◌, ◌≤◌, List, [], ◌∷◌, ◌++◌, length, take, drop, replicate, get_or, sym, ap, ◌∙◌, subst, arith, length-append, length-take}
use Rattle.std.proofs.Math.ListN.{set}
use Rattle.std.proofs.Math.Seq.{take-length}
use Rattle.std.proofs.lemmas.List.{drop-replicate, length-replicate, take_all, take-append-le, take_more, take_more_set}
use Rattle.search.specs.Words.{padded}

-- the slots that a sequence of n symbols fills
pub slots_long : (N n : ℕ) → n ≤ N → length (take n (replicate {A = ℕ} N 0)) ≡ n
slots_long N n low = omega (arith, length-take n (replicate {A = ℕ} N 0), length-replicate {A = ℕ} N 0)

-- one symbol more
pub filled_more : (w slots : List ℕ) (i a : ℕ) → i < length slots → i < length w → a ≡ get_or w i 0 → take i slots ≡ take i w → take (i + 1) (set slots i a) ≡ take (i + 1) w
filled_more w slots i a low inside is so =
    take_more_set slots i a low ∙ ap (λ s. s ++ a ∷ []) so ∙ ap (λ (b : ℕ). take i w ++ b ∷ []) is ∙ sym (take_more w i 0 inside)

module _ (N n : ℕ) (slots : List ℕ) (low : n ≤ N) (long : length slots ≡ n) where
  pub front : take n (slots ++ drop n (replicate N 0)) ≡ slots
  front = take-append-le n slots (drop n (replicate N 0)) (omega (arith, long)) ∙ subst (λ (m : ℕ). take m slots ≡ slots) long (take-length slots)

  pub front_inside : n ≤ length (slots ++ drop n (replicate N 0))
  front_inside = omega (arith, length-append slots (drop n (replicate N 0)), long)

  -- the slots past it hold 0
  pub front_padded : padded N (take n (slots ++ drop n (replicate N 0))) ≡ slots ++ drop n (replicate N 0)
  front_padded = ap (padded N) front ∙ ap (λ (m : ℕ). slots ++ replicate (N - m) 0) long ∙ ap (λ s. slots ++ s) (sym (drop-replicate n N 0))

  -- it is the sequence of which all was filled in
  pub front_is : (w : List ℕ) → length w ≡ n → (i : ℕ) → n ≤ i → take i slots ≡ take i w → take n (slots ++ drop n (replicate N 0)) ≡ w
  front_is w same i past so = front ∙ sym (whole slots long) ∙ so ∙ whole w same
    where
      whole : (s : List ℕ) → length s ≡ n → take i s ≡ s
      whole s is = take_all i s (omega (arith, is))
