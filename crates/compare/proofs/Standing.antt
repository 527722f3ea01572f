-- Which pairs stand in a list of entries, and with one entry more. Assumes nothing.
use Rattle.std.proofs.Common.{◌≡◌, ℕ, zero, suc, ◌<◌, Bool, true, false, ◌||◌, eqb, List, [], ◌∷◌, ◌++◌, length, get_or, Some, sym, refl, ap, ◌∙◌, ⊎_elim, arith}
use Rattle.std.specs.List.{slice_get}
use Rattle.std.proofs.lemmas.Bool.{and_from, and_parts, both_ways, eq-eqb, eqb-true, or_cases, or_left, or_right}
use Rattle.std.proofs.Math.Bool.{or-false, or_assoc}
use Rattle.std.proofs.lemmas.Option.{none-some, same_Some}
use Rattle.compare.specs.declared.pairs.Listed.{Listed}
use Rattle.compare.specs.Pairs.{start, is_of, listed}

-- an entry is of its own states
of_itself : (e : Listed) → is_of e.first e.second e ≡ true
of_itself e = and_from _ _ (eq-eqb e.first e.first refl) (eq-eqb e.second e.second refl)

-- what is listed with one entry more
pub listed_push : (es : List Listed) (e : Listed) (p q : ℕ) → listed (es ++ e ∷ []) p q ≡ (listed es p q || is_of p q e)
listed_push [] e p q = or-false (is_of p q e)
listed_push (x ∷ es) e p q = ap (λ (b : Bool). is_of p q x || b) (listed_push es e p q) ∙ sym (or_assoc (is_of p q x) (listed es p q) (is_of p q e))

-- the entry added last is listed
pub listed_new : (es : List Listed) (e : Listed) → listed (es ++ e ∷ []) e.first e.second ≡ true
listed_new es e = listed_push es e e.first e.second ∙ or_right (listed es e.first e.second) _ (of_itself e)

-- a listed pair is an entry's
pub listed_tells : (es : List Listed) (p q : ℕ) → listed es p q ≡ true → (i : ℕ) × (i < length es) × ((get_or es i start).first ≡ p) × ((get_or es i start).second ≡ q)
listed_tells [] p q h = absurd (both_ways false refl h)
listed_tells (e ∷ es) p q h =
    ⊎_elim
    (λ here. let parts = and_parts (eqb e.first p) (eqb e.second q) here in (0, omega arith, eqb-true e.first p parts.0, eqb-true e.second q parts.1))
    (λ later. let at = listed_tells es p q later in (suc at.0, omega (arith, at.1), at.2, at.3))
    (or_cases (is_of p q e) (listed es p q) h)

-- every entry's pair is listed
pub listed_nth : (es : List Listed) (i : ℕ) (e : Listed) → slice_get es i ≡ Some e → listed es e.first e.second ≡ true
listed_nth [] i e h = absurd (none-some _ h)
listed_nth (x ∷ es) zero e h = or_left _ _ (ap (is_of e.first e.second) (same_Some _ _ h) ∙ of_itself e)
listed_nth (x ∷ es) (suc i) e h = or_right (is_of e.first e.second x) _ (listed_nth es i e h)
