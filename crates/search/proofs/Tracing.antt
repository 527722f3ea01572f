-- The symbols that led to an entry are its word, from the last one on. Assumes nothing.
use Rattle.std.proofs.Common.{◌≡◌, ℕ, zero, suc, ◌-◌, ◌<◌, ◌≤◌, List, [], ◌∷◌, reverse, length, get_or, Some, None, Option, sym, refl, ap, ◌∙◌, arith}
use Rattle.std.specs.List.{slice_get}
use Rattle.std.proofs.lemmas.List.{get_or-reverse, length-reverse}
use Rattle.std.proofs.lemmas.Option.{slice_get-get_or}
use Rattle.search.specs.Paths.{Links, Spells, PathBack, word_of, down_from, downwards, descent, found_from}
use Rattle.search.proofs.Paths.{found_some, found_there, traces_of_word}

module _ {E : Type 0} (L : Links E) (es : List E) where
  -- the first entry was not found from another
  at_first : (k i : ℕ) → i ≡ 0 → downwards L es k i ≡ []
  unfolding downwards
  at_first zero i low = refl
  at_first (suc k) i low = by (found_from L es i) refl
    where
      by : (o : Option E) → found_from L es i ≡ o → down_from L o (downwards L es k) ≡ []
      by None is = refl
      by (Some e) is = absurd (omega (arith, low, (found_some L es i e is).1))

  -- no more symbols than entries before it lead to an entry
  enough : (k m i : ℕ) → i ≤ k → i ≤ m → downwards L es k i ≡ downwards L es m i
  unfolding downwards
  enough zero m i low high = sym (at_first m i (omega arith))
  enough (suc k) zero i low high = at_first (suc k) i (omega arith)
  enough (suc k) (suc m) i low high = by (found_from L es i) refl (enough k m)
    where
      by : (o : Option E) → found_from L es i ≡ o → ((j : ℕ) → j ≤ k → j ≤ m → downwards L es k j ≡ downwards L es m j) → down_from L o (downwards L es k) ≡ down_from L o (downwards L es m)
      by None is rest = refl
      by (Some e) is rest =
          let before = (found_some L es i e is).1 in
          ap (λ l. L.symbol e ∷ l) (rest (L.parent e) (omega arith) (omega arith))

  pub descent_ends : (i : ℕ) → found_from L es i ≡ None → descent L es i ≡ []
  unfolding downwards
  descent_ends zero is = refl
  descent_ends (suc i) is = ap (λ o. down_from L o (downwards L es i)) is

  pub descent_goes_on : (i : ℕ) (e : E) → found_from L es i ≡ Some e → descent L es i ≡ L.symbol e ∷ descent L es (L.parent e)
  unfolding downwards
  descent_goes_on zero e is = absurd (omega (arith, (found_some L es 0 e is).1))
  descent_goes_on (suc i) e is =
      let before = (found_some L es (suc i) e is).1 in
      ap (λ o. down_from L o (downwards L es i)) is ∙ ap (λ l. L.symbol e ∷ l) (enough i (L.parent e) (L.parent e) (omega arith) (omega arith))

  along : (back : List E) (i : ℕ) → PathBack L es i back → descent L es i ≡ word_of L back
  along [] i p = at_first i i p
  along (e ∷ back) i p = descent_goes_on i e (found_there L es i e p.0 p.1) ∙ ap (λ l. L.symbol e ∷ l) (along back (L.parent e) p.2)

  module _ (i : ℕ) (w : List ℕ) (s : Spells L es i w) where
    turned : descent L es i ≡ reverse w
    turned = let t = traces_of_word L es i w s in along t.0 i t.1 ∙ t.2

    pub counted : length (descent L es i) ≡ length w
    counted = ap length turned ∙ length-reverse w

    -- counted from the end, the symbols stand on the way down
    pub symbol_there : (count position : ℕ) → count ≡ length w → position < count → slice_get (descent L es i) (count - 1 - position) ≡ slice_get w position
    symbol_there count position long low =
        let back = count - 1 - position in
        let on : length w - 1 - back ≡ position = omega arith in
        ap (λ l. slice_get l back) turned ∙ slice_get-get_or (reverse w) back 0 (omega (arith, length-reverse w))
        ∙ ap Some (get_or-reverse w back 0 (omega arith) ∙ ap (λ (n : ℕ). get_or w n 0) on) ∙ sym (slice_get-get_or w position 0 (omega arith))
