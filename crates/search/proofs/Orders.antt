-- Which of two sequences comes first, read from the first symbol on or from the last one, and why
-- no more than one is the first. Assumes nothing.
use Rattle.std.proofs.Common.{◌≡◌, ℕ, ◌<◌, ◌≤◌, ◌⊎◌, ◌↔◌, List, [], ◌∷◌, ◌++◌, reverse, length, sym, refl, ap, ◌∙◌, subst, inl, inr, ⊎_elim, arith}
use mathlib.Core.List.{reverse-cons}
use Rattle.std.proofs.lemmas.List.{length-reverse, reverse-reverse}
use Rattle.std.proofs.lemmas.Bool.{cases_lt}
use Rattle.search.specs.Sequences.{Precedes, NoLater, First, OneFirst, Sought, OneShortest}

-- neither of two precedes the other
not_both_ways : (w v : List ℕ) → Precedes w v → Precedes v w → ⊥
not_both_ways [] v p r = p
not_both_ways (a ∷ w) [] p r = p
not_both_ways (a ∷ w) (b ∷ v) p r =
    ⊎_elim
    (λ low. ⊎_elim (λ low'. omega arith) (λ same. omega (arith, same.0)) r)
    (λ same. ⊎_elim (λ low'. omega (arith, same.0)) (λ same'. not_both_ways w v same.1 same'.1) r)
    p

one_of_two : (w v : List ℕ) → NoLater w v → NoLater v w → w ≡ v
one_of_two w v p r =
    ⊎_elim
    (λ short. absurd (⊎_elim (λ short'. omega arith) (λ long. omega (arith, long.0)) r))
    (λ long.
    ⊎_elim
    (λ short'. absurd (omega (arith, long.0)))
    (λ long'. ⊎_elim (λ same. same) (λ before. ⊎_elim (λ same. sym same) (λ before'. absurd (not_both_ways w v before before')) long'.1) long.1)
    r)
    p

pub one_first : (P : List ℕ → Type 0) → OneFirst P
one_first P w v f g = one_of_two w v (f.least v g.passes) (g.least w f.passes)

-- what is the first of the sequences with P is so with Q too, if P and Q say the same of every sequence
pub first_alike : (P Q : List ℕ → Type 0) → ((w : List ℕ) → P w ↔ Q w) → (w : List ℕ) → First P w → First Q w
first_alike P Q alike w f = record { passes = (alike w).0 f.passes; least = λ v h. f.least v ((alike v).1 h) }

pub one_shortest : OneShortest
one_shortest A q set W = one_first (Sought A q set W)

-- read from the last symbol on: u is shorter than v, or as long and precedes it where both are read
-- from the first symbol on
abbrev pub Before : List ℕ → List ℕ → Type 0
Before [] [] = ⊥
Before [] (c ∷ v) = Unit {0}
Before (a ∷ u) [] = ⊥
Before (a ∷ u) (c ∷ v) = Before u v ⊎ ((u ≡ v) × (a < c))

abbrev pub NotAfter : List ℕ → List ℕ → Type 0
NotAfter u v = (u ≡ v) ⊎ Before u v

pub before_on : (u v w : List ℕ) → Before u v → Before v w → Before u w
before_on [] [] w p r = absurd p
before_on [] (c ∷ v) [] p r = r
before_on [] (c ∷ v) (d ∷ w) p r = tt
before_on (a ∷ u) [] w p r = absurd p
before_on (a ∷ u) (c ∷ v) [] p r = r
before_on (a ∷ u) (c ∷ v) (d ∷ w) p r =
    ⊎_elim
    (λ less.
    ⊎_elim
    (λ less'. inl (before_on u v w less less'))
    (λ same'. inl (subst (Before u) same'.0 less))
    r)
    (λ same.
    ⊎_elim
    (λ less'. inl (subst (λ x. Before x w) (sym same.0) less'))
    (λ same'. inr (same.0 ∙ same'.0, omega (arith, same.1, same'.1)))
    r)
    p

pub before_not_after : (u v w : List ℕ) → Before u v → NotAfter v w → Before u w
before_not_after u v w p r = ⊎_elim (λ same. subst (Before u) same p) (λ less. before_on u v w p less) r

pub not_after_before : (u v w : List ℕ) → NotAfter u v → Before v w → Before u w
not_after_before u v w p r = ⊎_elim (λ same. subst (λ x. Before x w) (sym same) r) (λ less. before_on u v w less r) p

-- one symbol more comes later
pub longer_later : (a : ℕ) (u : List ℕ) → Before u (a ∷ u)
longer_later a [] = tt
longer_later a (c ∷ u) = inl (longer_later c u)

-- a last symbol that is no larger
pub not_after_with : (u w : List ℕ) (a b : ℕ) → NotAfter u w → a ≤ b → NotAfter (a ∷ u) (b ∷ w)
not_after_with u w a b n low =
    ⊎_elim
    (λ same. ⊎_elim (λ less. inr (inr (same, less))) (λ no-less. let last : a ≡ b = omega arith in inl (ap (λ (x : ℕ). x ∷ u) last ∙ ap (λ l. b ∷ l) same)) (cases_lt a b))
    (λ less. inr (inl less))
    n

pub nothing_before_empty : (v : List ℕ) → NotAfter [] v
nothing_before_empty [] = inl refl
nothing_before_empty (c ∷ v) = inr tt

-- the same from the first symbol on
precedes_with : (w v x y : List ℕ) → Precedes w v → Precedes (w ++ x) (v ++ y)
precedes_with [] v x y p = absurd p
precedes_with (a ∷ w) [] x y p = absurd p
precedes_with (a ∷ w) (b ∷ v) x y p = ⊎_elim inl (λ same. inr (same.0, precedes_with w v x y same.1)) p

precedes_at_last : (w : List ℕ) (a b : ℕ) → a < b → Precedes (w ++ a ∷ []) (w ++ b ∷ [])
precedes_at_last [] a b low = inl low
precedes_at_last (c ∷ w) a b low = inr (refl, precedes_at_last w a b low)

before_reversed : (u v : List ℕ) → Before u v → (length u < length v) ⊎ ((length u ≡ length v) × Precedes (reverse u) (reverse v))
before_reversed [] [] p = absurd p
before_reversed [] (c ∷ v) p = inl (omega arith)
before_reversed (a ∷ u) [] p = absurd p
before_reversed (a ∷ u) (c ∷ v) p =
    ⊎_elim
    (λ less.
    ⊎_elim
    (λ short. inl (omega arith))
    (λ long. inr (omega (arith, long.0), turned (precedes_with (reverse u) (reverse v) (a ∷ []) (c ∷ []) long.1)))
    (before_reversed u v less))
    (λ same. inr (ap length (ap (λ l. a ∷ l) same.0), turned (subst (λ x. Precedes (reverse u ++ a ∷ []) (reverse x ++ c ∷ [])) same.0 (precedes_at_last (reverse u) a c same.1))))
    p
  where
    turned : Precedes (reverse u ++ a ∷ []) (reverse v ++ c ∷ []) → Precedes (reverse (a ∷ u)) (reverse (c ∷ v))
    turned p = subst (λ x. Precedes (reverse (a ∷ u)) x) (sym (reverse-cons c v)) (subst (λ x. Precedes x (reverse v ++ c ∷ [])) (sym (reverse-cons a u)) p)

pub no_later_reversed : (u v : List ℕ) → NotAfter u (reverse v) → NoLater (reverse u) v
no_later_reversed u v n =
    ⊎_elim
    (λ same. let turned = ap reverse same ∙ reverse-reverse v in inr (ap length turned, inl turned))
    (λ less.
    ⊎_elim
    (λ short. inl (omega (arith, length-reverse u, length-reverse v)))
    (λ long. inr (omega (arith, long.0, length-reverse u, length-reverse v), inr (subst (Precedes (reverse u)) (reverse-reverse v) long.1)))
    (before_reversed u (reverse v) less))
    n
