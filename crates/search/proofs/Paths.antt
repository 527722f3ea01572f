-- Paths and words of entries: one of each for an entry, kept as entries are added, and the parent's
-- with one more. Assumes nothing.
use Rattle.std.proofs.Common.{◌≡◌, ℕ, zero, suc, ◌+◌, ◌<◌, ◌≤◌, Bool, true, false, cond, ltb, List, [], ◌∷◌, ◌++◌, reverse, length, Some, None, Option, sym, refl, ap, ◌∙◌, subst, append_assoc, arith}
use mathlib.Core.List.{reverse-cons}
use Rattle.std.specs.List.{slice_get}
use Rattle.std.proofs.lemmas.Bool.{cond-true, lt-ltb, ltb-true}
use Rattle.std.proofs.lemmas.List.{length-append, length-map, length-reverse, map-append, reverse-append, reverse-reverse}
use Rattle.std.proofs.lemmas.Option.{none-some, same_Some}
use Rattle.search.specs.Paths.{Links, word_of, with_parent_before, PathBack, Path, Spells, found_from}
use Rattle.search.proofs.Places.{nth_inside}

module _ {E : Type 0} (L : Links E) where
  -- symbols in the other order
  pub word_reversed : (path : List E) → word_of L (reverse path) ≡ reverse (word_of L path)
  word_reversed [] = refl
  word_reversed (e ∷ path) =
      ap (word_of L) (reverse-cons e path) ∙ map-append L.symbol (reverse path) (e ∷ []) ∙ ap (λ (l : List ℕ). l ++ L.symbol e ∷ []) (word_reversed path)
      ∙ sym (reverse-cons (L.symbol e) (word_of L path))

  -- what an entry is where its parent stands before it
  pub found_some : (es : List E) (i : ℕ) (e : E) → found_from L es i ≡ Some e → (slice_get es i ≡ Some e) × (L.parent e < i)
  found_some es i e is = by (slice_get es i) refl is
    where
      by : (o : Option E) → slice_get es i ≡ o → with_parent_before L o i ≡ Some e → (slice_get es i ≡ Some e) × (L.parent e < i)
      by None at is = absurd (none-some _ is)
      by (Some f) at is = inner (ltb (L.parent f) i) refl is
        where
          inner : (t : Bool) → ltb (L.parent f) i ≡ t → cond t (Some f) None ≡ Some e → (slice_get es i ≡ Some e) × (L.parent e < i)
          inner true low is = (at ∙ is, subst (λ (x : E). L.parent x < i) (same_Some _ _ is) (ltb-true (L.parent f) i low))
          inner false low is = absurd (none-some _ is)

  pub found_there : (es : List E) (i : ℕ) (e : E) → slice_get es i ≡ Some e → L.parent e < i → found_from L es i ≡ Some e
  found_there es i e is before = ap (λ o. with_parent_before L o i) is ∙ cond-true (ltb (L.parent e) i) (Some e) None (lt-ltb (L.parent e) i before)

  -- from entry i down along the parents, the symbols of the entries passed: the last one of its
  -- word first
  abbrev pub Traces : List E → ℕ → List ℕ → Type 0
  Traces es i w = (back : List E) × PathBack L es i back × (word_of L back ≡ w)

  -- the last symbol of an entry's word is the entry's own, and the others lead to its parent
  pub record Last (es : List E) (i a : ℕ) (w : List ℕ) : Type 0 where
    pub entry : E
    pub is : slice_get es i ≡ Some entry
    pub symbol : L.symbol entry ≡ a
    pub before : L.parent entry < i
    pub rest : Traces es (L.parent entry) w

  module _ (es : List E) where
    pub traces_first : (i : ℕ) → i ≡ 0 → Traces es i []
    traces_first i at = ([], at, refl)

    pub traces_more : (i : ℕ) (e : E) (w : List ℕ) → slice_get es i ≡ Some e → L.parent e < i → Traces es (L.parent e) w → Traces es i (L.symbol e ∷ w)
    traces_more i e w is before t = (e ∷ t.0, (is, before, t.1), ap (λ l. L.symbol e ∷ l) t.2)

    pub traces_end : (i : ℕ) → Traces es i [] → i ≡ 0
    traces_end i ([], at, is) = at
    traces_end i (e ∷ back, at, is) = absurd (omega (arith, ap length is))

    pub traces_last : (i a : ℕ) (w : List ℕ) → Traces es i (a ∷ w) → Last es i a w
    traces_last i a w ([], at, is) = absurd (omega (arith, ap length is))
    traces_last i a w (e ∷ back, at, is) =
        let first : L.symbol e ≡ a = cc in
        let rest : word_of L back ≡ w = cc in
        record { entry = e; is = at.0; symbol = first; before = at.1; rest = (back, at.2, rest) }

    -- one path leads to an entry
    pub one_back : (i : ℕ) (v w : List E) → PathBack L es i v → PathBack L es i w → v ≡ w
    one_back i [] [] s t = refl
    one_back i [] (f ∷ w) s t = absurd (omega (arith, s, t.1))
    one_back i (e ∷ v) [] s t = absurd (omega (arith, t, s.1))
    one_back i (e ∷ v) (f ∷ w) s t =
        let same : e ≡ f = same_Some _ _ (sym s.0 ∙ t.0) in
        let rest : v ≡ w = one_back (L.parent f) v w (subst (λ (x : E). PathBack L es (L.parent x) v) same s.2) t.2 in
        ap (λ (x : E). x ∷ v) same ∙ ap (λ (l : List E). f ∷ l) rest

    pub one_path : (i : ℕ) (v w : List E) → Path L es i v → Path L es i w → v ≡ w
    one_path i v w s t = sym (reverse-reverse v) ∙ ap reverse (one_back i (reverse v) (reverse w) s t) ∙ reverse-reverse w

    -- and one word
    pub one_word : (i : ℕ) (v w : List ℕ) → Spells L es i v → Spells L es i w → v ≡ w
    one_word i v w s t = sym s.2 ∙ ap (word_of L) (one_path i s.0 t.0 s.1 t.1) ∙ t.2

    pub one_trace : (u v : List ℕ) (i j : ℕ) → i ≡ j → Traces es i u → Traces es j v → u ≡ v
    one_trace u v i j at s t = sym s.2 ∙ ap (word_of L) (one_back j s.0 t.0 (subst (λ (k : ℕ). PathBack L es k s.0) at s.1) t.1) ∙ t.2

    -- a path has no more entries than stand before its last one
    pub back_short : (i : ℕ) (back : List E) → PathBack L es i back → length back ≤ i
    back_short i [] p = omega arith
    back_short i (e ∷ back) p = omega (arith, p.1, back_short (L.parent e) back p.2)

    pub path_short : (i : ℕ) (path : List E) → Path L es i path → length path ≤ i
    path_short i path p = omega (arith, length-reverse path, back_short i (reverse path) p)

    pub trace_short : (i : ℕ) (w : List ℕ) → Traces es i w → length w ≤ i
    trace_short i w t = omega (arith, ap length t.2, length-map t.0 L.symbol, back_short i t.0 t.1)

    -- a word read from either end
    pub traces_of_word : (i : ℕ) (w : List ℕ) → Spells L es i w → Traces es i (reverse w)
    traces_of_word i w s = (reverse s.0, s.1, word_reversed s.0 ∙ ap reverse s.2)

    pub word_of_traces : (i : ℕ) (w : List ℕ) → Traces es i w → Spells L es i (reverse w)
    word_of_traces i w t = (reverse t.0, subst (PathBack L es i) (sym (reverse-reverse t.0)) t.1, word_reversed t.0 ∙ ap reverse t.2)

    -- the first entry's path is empty
    pub word_at_first : Spells L es 0 []
    word_at_first = ([], refl, refl)

    -- where each entry but the first was found from one before it, every entry has a path
    module _ (led : (i : ℕ) (e : E) → slice_get es i ≡ Some e → 0 < i → L.parent e < i) where
      some_back : (k i : ℕ) → i ≤ k → i < length es → (back : List E) × PathBack L es i back
      some_back k zero low inside = ([], refl)
      some_back zero (suc i) low inside = absurd (omega (arith, low))
      some_back (suc k) (suc i) low inside =
          let e = nth_inside es (suc i) inside in
          let before : L.parent e.0 < suc i = led (suc i) e.0 e.1 (omega arith) in
          let rest = some_back k (L.parent e.0) (omega (arith, before, low)) (omega (arith, before, inside)) in
          (e.0 ∷ rest.0, (e.1, before, rest.1))

      pub some_path : (i : ℕ) → i < length es → (path : List E) × Path L es i path
      some_path i inside =
          let b = some_back i i (omega arith) inside in
          (reverse b.0, subst (PathBack L es i) (sym (reverse-reverse b.0)) b.1)

      pub some_word : (i : ℕ) → i < length es → (w : List ℕ) × Spells L es i w
      some_word i inside = let p = some_path i inside in (word_of L p.0, (p.0, p.1, refl))

    module _ (i : ℕ) where
      -- where no parent stands before an entry, its word is empty
      pub word_ends : found_from L es i ≡ None → (w : List ℕ) → Spells L es i w → w ≡ []
      word_ends none w s = sym (reverse-reverse w) ∙ ap reverse (by (reverse w) (traces_of_word i w s))
        where
          by : (v : List ℕ) → Traces es i v → v ≡ []
          by [] t = refl
          by (a ∷ v) t = let l = traces_last i a v t in absurd (none-some _ (sym none ∙ found_there es i l.entry l.is l.before))

      -- else it is the parent's with the entry's symbol behind
      pub word_parent : (e : E) → found_from L es i ≡ Some e → (w : List ℕ) → Spells L es i w → (v : List ℕ) × Spells L es (L.parent e) v × (w ≡ v ++ L.symbol e ∷ [])
      word_parent e is w s = by (reverse w) refl (traces_of_word i w s)
        where
          by : (u : List ℕ) → reverse w ≡ u → Traces es i u → (v : List ℕ) × Spells L es (L.parent e) v × (w ≡ v ++ L.symbol e ∷ [])
          by [] same t = absurd (omega (arith, traces_end i t, (found_some es i e is).1))
          by (a ∷ u) same t =
              let l = traces_last i a u t in
              let entry : l.entry ≡ e = same_Some _ _ (sym (found_there es i l.entry l.is l.before) ∙ is) in
              let symbol : a ≡ L.symbol e = sym l.symbol ∙ ap L.symbol entry in
              let rest : Traces es (L.parent e) u = subst (λ (x : E). Traces es (L.parent x) u) entry l.rest in
              (reverse u, word_of_traces (L.parent e) u rest, sym (reverse-reverse w) ∙ ap reverse same ∙ reverse-cons a u ∙ ap (λ (c : ℕ). reverse u ++ c ∷ []) symbol)

      -- and has one symbol more
      pub word_longer : (e : E) (n : ℕ) → found_from L es i ≡ Some e → ((v : List ℕ) → Spells L es (L.parent e) v → n ≡ length v) → (w : List ℕ) → Spells L es i w → n + 1 ≡ length w
      word_longer e n is so w s =
          let v = word_parent e is w s in
          omega (arith, so v.0 v.1, length-append v.0 (L.symbol e ∷ []), ap length v.2)

    -- the entries after entry j on the path to entry i, in order: each was found from the one
    -- before it, and the first one from j
    abbrev pub Onward : ℕ → ℕ → List E → Type 0
    Onward j i [] = j ≡ i
    Onward j i (e ∷ path) = (k : ℕ) × (slice_get es k ≡ Some e) × (L.parent e ≡ j) × (L.parent e < k) × Onward k i path

    -- going back by one entry
    pub onward_more : (j i : ℕ) (e : E) (path : List E) → Onward j i path → slice_get es j ≡ Some e → L.parent e < j → Onward (L.parent e) i (e ∷ path)
    onward_more j i e path o is before = (j, is, refl, before, o)

    pub onward_short : (j i : ℕ) (path : List E) → Onward j i path → j + length path ≤ i
    onward_short j i [] o = omega (arith, o)
    onward_short j i (e ∷ path) o = omega (arith, o.2, o.3, onward_short o.0 i path o.4)

    onward_back : (j i : ℕ) (path front : List E) → Onward j i path → PathBack L es j front → PathBack L es i (reverse path ++ front)
    onward_back j i [] front o p = subst (λ (k : ℕ). PathBack L es k front) o p
    onward_back j i (e ∷ path) front o p =
        let next : PathBack L es o.0 (e ∷ front) = (o.1, o.3, subst (λ (k : ℕ). PathBack L es k front) (sym o.2) p) in
        subst (PathBack L es i) (sym (append_assoc (reverse path) (e ∷ []) front) ∙ ap (λ (l : List E). l ++ front) (sym (reverse-cons e path))) (onward_back o.0 i path (e ∷ front) o.4 next)

    -- a path to a point and what lies behind the point make a path
    pub path_onward : (j i : ℕ) (front path : List E) → Path L es j front → Onward j i path → Path L es i (front ++ path)
    path_onward j i front path p o = subst (PathBack L es i) (sym (reverse-append front path)) (onward_back j i path (reverse front) o p)

    pub onward_path : (i : ℕ) (path : List E) → Onward 0 i path → Path L es i path
    onward_path i path o = path_onward 0 i [] path refl o

    through : (j i : ℕ) (path whole : List E) → Onward j i path → PathBack L es i whole → (front : List E) × PathBack L es j front × (whole ≡ reverse path ++ front)
    through j i [] whole o p = (whole, subst (λ (k : ℕ). PathBack L es k whole) (sym o) p, refl)
    through j i (e ∷ path) whole o p = by (through o.0 i path whole o.4 p)
      where
        by : (front : List E) × PathBack L es o.0 front × (whole ≡ reverse path ++ front) → (front : List E) × PathBack L es j front × (whole ≡ reverse (e ∷ path) ++ front)
        by ([], end, is) = absurd (omega (arith, end, o.3))
        by (f ∷ front, there, is) =
            let same : f ≡ e = same_Some _ _ (sym there.0 ∙ o.1) in (
              front,
              subst (λ (k : ℕ). PathBack L es k front) (ap L.parent same ∙ o.2) there.2,
              is ∙ ap (λ (x : E). reverse path ++ (x ∷ front)) same ∙ sym (append_assoc (reverse path) (e ∷ []) front) ∙ ap (λ (l : List E). l ++ front) (sym (reverse-cons e path)),
            )

    -- a path passes through each point, and what lies behind the point is its rest
    pub path_through : (j i : ℕ) (path whole : List E) → Path L es i whole → Onward j i path → (front : List E) × Path L es j front × (whole ≡ front ++ path)
    path_through j i path whole p o =
        let t = through j i path (reverse whole) o p in (
          reverse t.0,
          subst (PathBack L es j) (sym (reverse-reverse t.0)) t.1,
          sym (reverse-reverse whole) ∙ ap reverse t.2 ∙ reverse-append (reverse path) t.0 ∙ ap (λ (l : List E). reverse t.0 ++ l) (reverse-reverse path),
        )

  -- a path stays one where entries stay
  module _ (es fs : List E) (kept : (i : ℕ) (e : E) → slice_get es i ≡ Some e → slice_get fs i ≡ Some e) where
    pub back_kept : (i : ℕ) (back : List E) → PathBack L es i back → PathBack L fs i back
    back_kept i [] p = p
    back_kept i (e ∷ back) p = (kept i e p.0, p.1, back_kept (L.parent e) back p.2)

    pub traces_kept : (i : ℕ) (w : List ℕ) → Traces es i w → Traces fs i w
    traces_kept i w t = (t.0, back_kept i t.0 t.1, t.2)

    pub word_kept : (i : ℕ) (w : List ℕ) → Spells L es i w → Spells L fs i w
    word_kept i w s = (s.0, back_kept i (reverse s.0) s.1, s.2)

  -- an entry that was found from another has one symbol more
  pub word_pushed : (es : List E) (i : ℕ) (e : E) (w : List ℕ) → slice_get es i ≡ Some e → L.parent e < i → Spells L es (L.parent e) w → Spells L es i (w ++ L.symbol e ∷ [])
  word_pushed es i e w is before s =
      let t = traces_more es i e (reverse w) is before (traces_of_word es (L.parent e) w s) in
      subst (Spells L es i) (reverse-cons (L.symbol e) (reverse w) ∙ ap (λ (l : List ℕ). l ++ L.symbol e ∷ []) (reverse-reverse w)) (word_of_traces es i (L.symbol e ∷ reverse w) t)
