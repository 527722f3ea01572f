-- Entries of a list by their place, with one entry more. Assumes nothing.
use Rattle.std.proofs.Common.{◌≡◌, ℕ, zero, suc, ◌<◌, ◌⊎◌, List, [], ◌∷◌, ◌++◌, length, Some, refl, ap, inl, inr, ⊎_elim, arith}
use Rattle.std.specs.List.{slice_get}
use Rattle.std.proofs.lemmas.Option.{none-some, same_Some}

module _ {X : Type 0} (y : X) where
  -- an entry stays where it is
  pub nth_kept : (xs : List X) (i : ℕ) (x : X) → slice_get xs i ≡ Some x → slice_get (xs ++ y ∷ []) i ≡ Some x
  nth_kept [] i x is = absurd (none-some _ is)
  nth_kept (z ∷ xs) zero x is = is
  nth_kept (z ∷ xs) (suc i) x is = nth_kept xs i x is

  -- the new one comes last
  pub nth_new : (xs : List X) → slice_get (xs ++ y ∷ []) (length xs) ≡ Some y
  nth_new [] = refl
  nth_new (z ∷ xs) = nth_new xs

  pub nth_cases : (xs : List X) (i : ℕ) (x : X) → slice_get (xs ++ y ∷ []) i ≡ Some x → (slice_get xs i ≡ Some x) ⊎ ((i ≡ length xs) × (y ≡ x))
  nth_cases [] zero x is = inr (refl, same_Some _ _ is)
  nth_cases [] (suc i) x is = absurd (none-some _ is)
  nth_cases (z ∷ xs) zero x is = inl is
  nth_cases (z ∷ xs) (suc i) x is = ⊎_elim inl (λ new. inr (ap suc new.0, new.1)) (nth_cases xs i x is)

-- below the end of a list there is an entry
pub nth_inside : {X : Type 0} (xs : List X) (i : ℕ) → i < length xs → (x : X) × (slice_get xs i ≡ Some x)
nth_inside [] i inside = absurd (omega arith)
nth_inside (x ∷ xs) zero inside = (x, refl)
nth_inside (x ∷ xs) (suc i) inside = nth_inside xs i (omega arith)
