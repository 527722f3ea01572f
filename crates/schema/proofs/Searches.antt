-- Numbers tried one after the other, from 0 on. Assumes nothing.
use Rattle.std.proofs.Common.{◌≡◌, ℕ, zero, suc, ◌<◌, Bool, true, false, cond, [], ◌∷◌, Some, None, sym, refl, ap, ◌∙◌, subst, ⊎_elim, arith}
use Rattle.std.proofs.lemmas.Bool.{both_ways, cases_lt, or_cases, or_left, or_right, or_from}
use Rattle.refusal.specs.Order.{first_of}
use Rattle.schema.specs.Below.{some_below, lowest}

module _ (test : ℕ → Bool) where
  -- a number that passes
  pub some_found : (n i : ℕ) → i < n → test i ≡ true → some_below n test ≡ true
  some_found zero i inside passes = absurd (omega arith)
  some_found (suc n) i inside passes =
      ⊎_elim
      (λ low. or_left _ _ (some_found n i low passes))
      (λ high. let last : i ≡ n = omega arith in or_right _ _ (subst (λ (k : ℕ). test k ≡ true) last passes))
      (cases_lt i n)

  pub some_tells : (n : ℕ) → some_below n test ≡ true → (i : ℕ) × (i < n) × (test i ≡ true)
  some_tells zero found = absurd (both_ways false refl found)
  some_tells (suc n) found =
      ⊎_elim
      (λ low. let at = some_tells n low in (at.0, omega (arith, at.1), at.2))
      (λ here. (n, omega arith, here))
      (or_cases (some_below n test) (test n) found)

  -- where none passes
  pub none_below : (n : ℕ) → ((i : ℕ) → i < n → test i ≡ false) → some_below n test ≡ false
  none_below zero fails = refl
  none_below (suc n) fails = or_from _ _ (none_below n (λ i low. fails i (omega arith))) (fails n (omega arith))

  pub lowest_none_below : (n : ℕ) → ((i : ℕ) → i < n → test i ≡ false) → lowest n test ≡ None
  lowest_none_below zero fails = refl
  lowest_none_below (suc n) fails =
      ap (λ o. first_of (o ∷ cond (test n) (Some n) None ∷ [])) (lowest_none_below n (λ i low. fails i (omega arith))) ∙ ap (λ (b : Bool). first_of (cond b (Some n) None ∷ [])) (fails n (omega arith))

  -- the first number that passes is the lowest
  pub lowest_found : (n i : ℕ) → i < n → lowest i test ≡ None → test i ≡ true → lowest n test ≡ Some i
  lowest_found zero i inside none passes = absurd (omega arith)
  lowest_found (suc n) i inside none passes =
      ⊎_elim
      (λ low. ap (λ o. first_of (o ∷ cond (test n) (Some n) None ∷ [])) (lowest_found n i low none passes))
      (λ high.
      let last : i ≡ n = omega arith in
      ap (λ o. first_of (o ∷ cond (test n) (Some n) None ∷ [])) (subst (λ (k : ℕ). lowest k test ≡ None) last none)
      ∙ ap (λ (b : Bool). first_of (cond b (Some n) None ∷ [])) (subst (λ (k : ℕ). test k ≡ true) last passes) ∙ ap Some (sym last))
      (cases_lt i n)
