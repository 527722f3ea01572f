-- Lists of ranges: the first few of them, and a test on one of them. Assumes nothing.
use Rattle.std.proofs.Common.{◌≡◌, ℕ, zero, suc, ◌+◌, ◌<◌, Bool, true, false, ◌&&◌, ◌||◌, List, [], ◌∷◌, ◌++◌, length, get_or, take, sym, refl, ap, ◌∙◌, ⊎_elim, arith}
use Rattle.std.proofs.lemmas.List.{take_more}
use Rattle.std.proofs.lemmas.Bool.{both_ways, or_cases, or_left, or_right}
use Rattle.domain.specs.declared.coverage.Range.{Range}
use Rattle.domain.specs.Kinds.{some}
use Rattle.domain.specs.Sets.{either, both}

some_append : (f : Range → ℕ → Bool) (xs ys : List Range) (v : ℕ) → some f (xs ++ ys) v ≡ (some f xs v || some f ys v)
some_append f [] ys v = refl
some_append f (x ∷ xs) ys v = ap (λ (b : Bool). f x v || b) (some_append f xs ys v) ∙ or_assoc (f x v) (some f xs v) (some f ys v)
  where
    or_assoc : (a b c : Bool) → (a || (b || c)) ≡ ((a || b) || c)
    or_assoc true b c = refl
    or_assoc false b c = refl

-- one range more
pub some_more : (f : Range → ℕ → Bool) (xs : List Range) (i : ℕ) (d : Range) (v : ℕ) → i < length xs → some f (take (i + 1) xs) v ≡ (some f (take i xs) v || f (get_or xs i d) v)
some_more f xs i d v inside =
    ap (λ (ys : List Range). some f ys v) (take_more xs i d inside) ∙ some_append f (take i xs) (get_or xs i d ∷ []) v
    ∙ ap (λ (b : Bool). some f (take i xs) v || b) (or_false (f (get_or xs i d) v))
  where
    or_false : (b : Bool) → (b || false) ≡ b
    or_false true = refl
    or_false false = refl

-- a range of the list passes, so one does
pub some_at : (f : Range → ℕ → Bool) (xs : List Range) (i : ℕ) (d : Range) (v : ℕ) → i < length xs → f (get_or xs i d) v ≡ true → some f xs v ≡ true
some_at f [] i d v inside passes = absurd (omega arith)
some_at f (x ∷ xs) zero d v inside passes = or_left (f x v) (some f xs v) passes
some_at f (x ∷ xs) (suc i) d v inside passes = or_right (f x v) (some f xs v) (some_at f xs i d v (omega arith) passes)

-- where one of the ranges passes, it has a place
pub some_place : (f : Range → ℕ → Bool) (xs : List Range) (d : Range) (v : ℕ) → some f xs v ≡ true → (i : ℕ) × (i < length xs) × (f (get_or xs i d) v ≡ true)
some_place f [] d v h = absurd (both_ways false refl h)
some_place f (x ∷ xs) d v h =
    ⊎_elim
    (λ here. (0, omega arith, here))
    (λ later. let at = some_place f xs d v later in (suc at.0, omega (arith, at.1), at.2))
    (or_cases (f x v) (some f xs v) h)

-- one range more, among the values of a set
pub both_more : (set : ℕ → Bool) (f : Range → ℕ → Bool) (xs : List Range) (i : ℕ) (d : Range) (v : ℕ) → i < length xs → either (both set (some f (take i xs))) (both set (f (get_or xs i d))) v ≡ both set (some f (take (i + 1) xs)) v
both_more set f xs i d v inside = and_or (set v) (some f (take i xs) v) (f (get_or xs i d) v) ∙ ap (λ (b : Bool). set v && b) (sym (some_more f xs i d v inside))
  where
    and_or : (a b c : Bool) → ((a && b) || (a && c)) ≡ (a && (b || c))
    and_or true b c = refl
    and_or false b c = refl

-- a test that fails adds nothing
pub both_none : (set p q : ℕ → Bool) (v : ℕ) → q v ≡ false → both set p v ≡ either (both set p) (both set q) v
both_none set p q v fails = grind (arith, fails)
