-- The smallest value that one list of ranges has alone begins one of its ranges, or follows one of
-- the other's. Assumes nothing.
use Rattle.std.proofs.Common.{◌≡◌, ℕ, zero, suc, ◌<◌, ◌≤◌, Bool, true, List, length, Option, ⊎_elim, arith}
use Rattle.std.proofs.lemmas.Bool.{and_parts, and_from, both_ways, cases_Bool, cases_lt, eq-eqb, leb-true, le-leb, not-true, not_from_false, or_cases, or_left, or_right}
use Rattle.domain.specs.declared.coverage.Range.{Range}
use Rattle.domain.specs.Kinds.{some, in_range, begins, follows}
use Rattle.domain.specs.Making.{at, unused}
use Rattle.domain.specs.Sets.{Smallest, alone, either, both}
use Rattle.domain.proofs.Ranges.{some_at, some_place}
use Rattle.domain.proofs.Same.{smallest_of_part}

module _ (xs ys : List Range) where
  -- the values of the first list alone
  abbrev only : ℕ → Bool
  only = alone (some in_range xs) (some in_range ys)

  -- those at which a range begins, or which follow one
  abbrev candidate : ℕ → Bool
  candidate = either (both only (some begins xs)) (both only (some follows ys))

  -- what is known of the range of the first list that holds a value
  record Held (v : ℕ) : Type 0 where
    place : ℕ
    listed : place < length xs
    low : (at xs place).first ≤ v
    high : v ≤ (at xs place).last

  held : (v : ℕ) → some in_range xs v ≡ true → Held v
  held v h =
      let p = some_place in_range xs unused v h in
      let ends = and_parts _ _ p.2 in
      record { place = p.0; listed = p.1; low = leb-true _ v ends.0; high = leb-true v _ ends.1 }

  beginning : (v : ℕ) → only v ≡ true → (r : Held v) → (at xs r.place).first ≡ v → candidate v ≡ true
  beginning v h r e = or_left _ _ (and_from _ _ h (some_at begins xs r.place unused v r.listed (eq-eqb _ v e)))

  -- v + 1 is in the first list alone and v is in the second: the range that holds v ends there
  following : (v : ℕ) → only (suc v) ≡ true → some in_range ys v ≡ true → candidate (suc v) ≡ true
  following v h there =
      let p = some_place in_range ys unused v there in
      let ends = and_parts _ _ p.2 in
      let low = leb-true _ v ends.0 in
      let high = leb-true v _ ends.1 in
      let out = not-true _ (and_parts _ _ h).1 in
      let ended : (at ys p.0).last < suc v =
      ⊎_elim (λ l. l) (λ l. absurd (both_ways _ out (some_at in_range ys p.0 unused (suc v) p.1 (and_from _ _ (le-leb _ (suc v) (omega arith)) (le-leb (suc v) _ l))))) (cases_lt (at ys p.0).last (suc v)) in
      or_right _ _ (and_from _ _ h (some_at follows ys p.0 unused (suc v) p.1 (eq-eqb _ (suc v) (omega arith))))

  -- below or at each value of the first list alone there is a candidate
  down : (v : ℕ) → only v ≡ true → (u : ℕ) × (u ≤ v) × (candidate u ≡ true)
  down zero h = let r = held 0 (and_parts _ _ h).0 in (0, omega arith, beginning 0 h r (omega (arith, r.low)))
  down (suc v) h =
      let r = held (suc v) (and_parts _ _ h).0 in
      ⊎_elim
      (λ before.
      let inside = some_at in_range xs r.place unused v r.listed (and_from _ _ (le-leb _ v (omega arith)) (le-leb v _ (omega (arith, r.high)))) in
      ⊎_elim
      (λ there. (suc v, omega arith, following v h there))
      (λ clear. let d = down v (and_from _ _ inside (not_from_false _ clear)) in (d.0, omega (arith, d.1), d.2))
      (cases_Bool (some in_range ys v)))
      (λ first. (suc v, omega arith, beginning (suc v) h r (omega (arith, r.low))))
      (cases_lt (at xs r.place).first (suc v))

  pub gap_of_candidates : (r : Option ℕ) → Smallest candidate r → Smallest only r
  gap_of_candidates r =
      smallest_of_part candidate only r
      (λ v h. ⊎_elim (λ e. (and_parts (only v) (some begins xs v) e).0) (λ e. (and_parts (only v) (some follows ys v) e).0) (or_cases (both only (some begins xs) v) (both only (some follows ys) v) h))
      down
