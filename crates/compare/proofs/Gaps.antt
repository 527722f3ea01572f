-- Values in one state's domain alone: what it says that there is no gap. Assumes nothing.
use Rattle.std.proofs.Common.{◌≡◌, ℕ, ◌^◌, ◌<◌, Bool, true, false, is_some, Some, None, Option, ⊎_elim}
use Rattle.std.proofs.lemmas.Bool.{and_from, both_ways, cases_Bool, not_from_false, true≢false}
use Rattle.domain.specs.Sets.{Smallest, alone}

module _ (first second : ℕ → Bool) where
  -- where there is none, the second set has what the first has
  pub gap_none : (r : Option ℕ) → ((v : ℕ) → first v ≡ true → v < 2 ^ 32) → Smallest (alone first second) r → is_some r ≡ false → (v : ℕ) → first v ≡ true → second v ≡ true
  gap_none (Some m) values s gone v has = absurd (true≢false gone)
  gap_none None values s gone v has =
      ⊎_elim (λ there. there) (λ missing. absurd (both_ways (alone first second v) (s v (values v has)) (and_from _ _ has (not_from_false (second v) missing)))) (cases_Bool (second v))
