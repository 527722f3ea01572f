-- What is said of a set depends only on its members. Assumes nothing.
use Rattle.std.proofs.Common.{◌≡◌, ℕ, ◌-◌, ◌^◌, ◌<◌, ◌≤◌, Bool, true, false, cond, not, ◌&&◌, ltb, Some, None, Option, sym, refl, ◌∙◌, ⊎_elim, lt_trans, arith}
use Rattle.std.proofs.lemmas.Bool.{both_ways, cases_Bool}
use Rattle.domain.specs.Kinds.{joined}
use Rattle.domain.specs.Sets.{Smallest, alone}

-- two tests that agree on every value have the same smallest one
pub smallest_of_same : (p q : ℕ → Bool) (r : Option ℕ) → ((v : ℕ) → v < 2 ^ 32 → p v ≡ q v) → Smallest p r → Smallest q r
smallest_of_same p q (Some m) same s =
    record {
      value = s.value;
      passes = sym (same m s.value) ∙ s.passes;
      before = λ v h. sym (same v (lt_trans h s.value)) ∙ s.before v h;
    }
smallest_of_same p q None same s = λ v h. sym (same v h) ∙ s v h

-- a set has the smallest value of a part of it, if below or at each member there is one of that
-- part
pub smallest_of_part : (p q : ℕ → Bool) (r : Option ℕ) → ((v : ℕ) → p v ≡ true → q v ≡ true) → ((v : ℕ) → q v ≡ true → (u : ℕ) × (u ≤ v) × (p u ≡ true)) → Smallest p r → Smallest q r
smallest_of_part p q r within down s = by r s
  where
    -- nothing of the part lies at or below v, so v is no member
    none : (v : ℕ) → ((u : ℕ) → u ≤ v → p u ≡ false) → q v ≡ false
    none v clear = ⊎_elim (λ e. let d = down v e in absurd (both_ways (p d.0) (clear d.0 d.1) d.2)) (λ e. e) (cases_Bool (q v))

    by : (o : Option ℕ) → Smallest p o → Smallest q o
    by (Some m) s = record { value = s.value; passes = within m s.passes; before = λ v h. none v (λ u le. s.before u (omega arith)) }
    by None s = λ v h. none v (λ u le. s u (omega arith))

-- what one joint set has and another has not is, on each half, what that half has alone
pub joined_alone : (p q s t : ℕ → Bool) (v : ℕ) → joined (alone p s) (alone q t) v ≡ alone (joined p q) (joined s t) v
joined_alone p q s t v =
    let w : ℕ = v - 2147483648 in
    elim (ltb v 2147483648) as (λ b. cond b (alone p s v) (alone q t w) ≡ (cond b (p v) (q w) && not (cond b (s v) (t w)))) [ true ↦ refl | false ↦ refl ]
