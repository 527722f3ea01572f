-- What stands before the first such symbol of a sequence, and what stands behind it. Assumes nothing.
use Rattle.std.proofs.Common.{◌≡◌, ℕ, ◌+◌, ◌-◌, ◌<◌, List, ◌∷◌, ◌++◌, length, get_or, take, drop, sym, refl, ap, ◌∙◌, arith}
use Rattle.std.proofs.lemmas.List.{drop_more, get_or-take, get_or_at, length-append, length-take, take-append-drop, take_rest}
use Rattle.search.specs.Watching.{Holds}

module _ (a : ℕ) (w : List ℕ) where
  -- a symbol that is held stands somewhere
  held_at : Holds a w → (k : ℕ) × (k < length w) × (get_or w k 0 ≡ a)
  held_at (u, v, is) = (
    length u,
    omega (arith, ap length is, length-append u (a ∷ v)),
    ap (λ (l : List ℕ). get_or l (length u) 0) is ∙ get_or_at u a v 0 (length u) refl,
  )

  -- and is not held where it stands nowhere
  pub nowhere : ((k : ℕ) → k < length w → get_or w k 0 ≡ a → ⊥) → Holds a w → ⊥
  nowhere other h = let at = held_at h in other at.0 at.1 at.2

module _ (a : ℕ) (w : List ℕ) (i : ℕ) (inside : i < length w) where
  -- at its first place it has the others on both sides
  pub sides : get_or w i 0 ≡ a → w ≡ take i w ++ a ∷ take (length w - (i + 1)) (drop (i + 1) w)
  sides is =
      sym (take-append-drop i w) ∙ ap (λ (l : List ℕ). take i w ++ l) (drop_more w i 0 inside) ∙ ap (λ (b : ℕ). take i w ++ b ∷ drop (i + 1) w) is
      ∙ ap (λ (l : List ℕ). take i w ++ a ∷ l) (sym (take_rest w (i + 1)))

  -- and is not held before
  pub not_before : ((k : ℕ) → k < i → get_or w k 0 ≡ a → ⊥) → Holds a (take i w) → ⊥
  not_before other h =
      let at = held_at a (take i w) h in
      let low : at.0 < i = omega (arith, at.1, length-take i w) in
      other at.0 low (sym (get_or-take i w at.0 0 low) ∙ at.2)
