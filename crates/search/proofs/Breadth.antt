-- Breadth first: what a search over places knows midway, and why the first goal is the first in
-- order. Assumes nothing.
use Rattle.std.proofs.Common.{◌≡◌, ℕ, ◌+◌, ◌<◌, ◌≤◌, Bool, true, false, ◌⊎◌, List, [], ◌∷◌, ◌++◌, length, Some, Option, sym, refl, ap, ◌∙◌, subst, inl, inr, ⊎_elim, arith}
use Rattle.std.specs.List.{slice_get}
use Rattle.std.specs.Option.{option_and_then}
use Rattle.std.proofs.lemmas.Bool.{both_ways, cases_lt}
use Rattle.std.proofs.lemmas.List.{length_push}
use Rattle.std.proofs.lemmas.Option.{none-some, option_and_then_some, same_Some, slice_get_within}
use Rattle.search.specs.Paths.{Links, Sooner, BreadthFirst, Met}
use Rattle.search.proofs.Orders.{Before, NotAfter, before_not_after, not_after_before, longer_later, not_after_with}
use Rattle.search.proofs.Paths.{Traces, one_trace, traces_end, traces_first, traces_kept, traces_last, traces_more}
use Rattle.search.proofs.Places.{nth_kept, nth_new, nth_cases, nth_inside}

pub sooner_by : (i a k b m c : ℕ) → Sooner i a k b → (k < m) ⊎ ((k ≡ m) × (b ≤ c)) → Sooner i a m c
sooner_by i a k b m c s up =
    ⊎_elim
    (λ below. ⊎_elim (λ low. inl (omega arith)) (λ at. inl (omega (arith, at.0))) s)
    (λ same. ⊎_elim (λ low. inl (omega (arith, same.0))) (λ at. inr (at.0 ∙ same.0, omega (arith, at.1, same.1))) s)
    up

-- the words of entries come later and later along a list in breadth-first order
module _ {E : Type 0} (L : Links E) (es : List E) (order : BreadthFirst L es) where
  pub later : (u v : List ℕ) (i j : ℕ) → i < j → Traces L es i u → Traces L es j v → Before u v
  later u [] i j up t s = absurd (omega (arith, traces_end L es j s))
  later [] (c ∷ v) i j up t s = tt
  later (a ∷ u) (c ∷ v) i j up t s =
      let x = traces_last L es i a u t in
      let y = traces_last L es j c v s in
      ⊎_elim
      (λ below. inl (later u v (L.parent x.entry) (L.parent y.entry) below x.rest y.rest))
      (λ at. inr (one_trace L es u v (L.parent x.entry) (L.parent y.entry) at.0 x.rest y.rest, omega (arith, at.1, x.symbol, y.symbol)))
      (order i j x.entry y.entry (omega (arith, x.before)) up x.is y.is)

-- moves from place to place under symbols, goals, where to begin, and the place of an entry
module _ {E N : Type 0} (L : Links E) (move : N → ℕ → Option N) (goal : N → Bool) (start : N) (node : E → N) where
  -- where a sequence leads to, its last symbol first
  abbrev pub leads : List ℕ → Option N
  leads [] = Some start
  leads (a ∷ w) = option_and_then (λ n. move n a) (leads w)

  -- midway, where all symbols were tried at the entries below k, and those below b at entry k: each
  -- entry's sequence leads to its place, no entry is a goal, the entries above the bottom one lie
  -- as they were found, and where a symbol that was tried leads is listed
  pub record Midway (es : List E) (k b : ℕ) : Type 0 where
    pub bottom : (e : E) × (slice_get es 0 ≡ Some e) × (node e ≡ start)
    pub led : (i : ℕ) (e : E) → slice_get es i ≡ Some e → (w : List ℕ) × Traces L es i w × (leads w ≡ Some (node e))
    pub quiet : (i : ℕ) (e : E) → slice_get es i ≡ Some e → goal (node e) ≡ false
    pub ordered : BreadthFirst L es
    pub upto : (i : ℕ) (e : E) → 0 < i → slice_get es i ≡ Some e → Sooner (L.parent e) (L.symbol e) k b
    pub closed : (i : ℕ) (e : E) (a : ℕ) (n : N) → slice_get es i ≡ Some e → Sooner i a k b → move (node e) a ≡ Some n → Met L es node i a n

  module _ (es : List E) (k b : ℕ) (m : Midway es k b) where
    -- the place is listed, at an entry whose sequence comes no later
    abbrev Reached : List ℕ → N → Type 0
    Reached w n = (i : ℕ) × (e : E) × (slice_get es i ≡ Some e) × (node e ≡ n) × ((u : List ℕ) × Traces L es i u × NotAfter u w)

    -- the entry that is being tried has a sequence that comes no later with symbol b
    abbrev Ahead : List ℕ → Type 0
    Ahead w = (e : E) × (slice_get es k ≡ Some e) × ((u : List ℕ) × Traces L es k u × NotAfter (b ∷ u) w)

    -- one symbol more than the sequence of an entry, where it was tried
    one_more : (w : List ℕ) (a i : ℕ) (n : N) (u : List ℕ) → Traces L es i u → NotAfter u w → Met L es node i a n → Reached (a ∷ w) n
    one_more w a i n u t before l =
        let v = m.led l.at l.entry l.is in
        (l.at, l.entry, l.is, l.same, (v.0, v.1, by v.0 v.1))
      where
        by : (v : List ℕ) → Traces L es l.at v → NotAfter v (a ∷ w)
        by [] s = inr tt
        by (c ∷ v) s =
            let y = traces_last L es l.at c v s in
            let same : y.entry ≡ l.entry = same_Some _ _ (sym y.is ∙ l.is) in
            let from : Sooner (L.parent y.entry) (L.symbol y.entry) i (a + 1) =
            subst (λ (x : E). Sooner (L.parent x) (L.symbol x) i (a + 1)) (sym same) (l.from (omega (arith, y.before))) in
            ⊎_elim
            (λ below. inr (inl (before_not_after v u w (later L es m.ordered v u (L.parent y.entry) i below y.rest t) before)))
            (λ at. not_after_with v w c a (subst (λ x. NotAfter x w) (one_trace L es u v i (L.parent y.entry) (sym at.0) t y.rest) before) (omega (arith, at.1, y.symbol)))
            from

    -- where a symbol leads that was not tried
    untried : (w : List ℕ) (a i : ℕ) (e : E) (u : List ℕ) → slice_get es i ≡ Some e → Traces L es i u → NotAfter u w → (k < i) ⊎ ((k ≡ i) × (b ≤ a)) → Ahead (a ∷ w)
    untried w a i e u is t before ahead =
        let here = nth_inside es k (⊎_elim (λ up. omega (arith, slice_get_within es i e is)) (λ at. omega (arith, slice_get_within es i e is, at.0)) ahead) in
        let v = m.led k here.0 here.1 in
        (here.0, here.1, (v.0, v.1, by v.0 v.1))
      where
        by : (v : List ℕ) → Traces L es k v → NotAfter (b ∷ v) (a ∷ w)
        by v s =
            ⊎_elim
            (λ up. inr (inl (before_not_after v u w (later L es m.ordered v u k i up s t) before)))
            (λ at. not_after_with v w b a (subst (λ x. NotAfter x w) (one_trace L es u v i k (sym at.0) t s) before) at.1)
            ahead

    was_tried : (i a : ℕ) → Sooner i a k b ⊎ ((k < i) ⊎ ((k ≡ i) × (b ≤ a)))
    was_tried i a =
        ⊎_elim
        (λ low. inl (inl low))
        (λ up.
        ⊎_elim
        (λ above. inr (inl above))
        (λ level.
        let at : i ≡ k = omega arith in
        ⊎_elim (λ low. inl (inr (at, low))) (λ high. inr (inr (sym at, high))) (cases_lt a b))
        (cases_lt k i))
        (cases_lt i k)

    -- where a sequence leads is listed, or the entry that is being tried is ahead of it
    either : (w : List ℕ) (n : N) → leads w ≡ Some n → Reached w n ⊎ Ahead w
    either [] n to =
        let e = m.bottom in
        inl (0, e.0, e.1, e.2 ∙ same_Some _ _ to, ([], traces_first L es 0 refl, inl refl))
    either (a ∷ w) n to =
        let by_way : (x : N) × (leads w ≡ Some x) × (move x a ≡ Some n) = option_and_then_some (λ x. move x a) (leads w) n to (λ x is on. (x, is, on)) in
        ⊎_elim
        (λ r.
        let i = r.0 in
        let e = r.1 in
        let u = r.4 in
        ⊎_elim
        (λ done. inl (one_more w a i n u.0 u.1 u.2 (m.closed i e a n r.2 done (ap (λ x. move x a) r.3 ∙ by_way.2))))
        (λ ahead. inr (untried w a i e u.0 r.2 u.1 u.2 ahead))
        (was_tried i a))
        (λ h. inr (h.0, h.1, (h.2.0, h.2.1, inr (not_after_before (b ∷ h.2.0) w (a ∷ w) h.2.2 (longer_later a w)))))
        (either w by_way.0 by_way.1)

    -- all entries were tried: no sequence leads to a goal
    pub none_left : length es ≤ k → (w : List ℕ) (n : N) → leads w ≡ Some n → goal n ≡ true → ⊥
    none_left past w n to there =
        ⊎_elim
        (λ r. both_ways (goal n) (subst (λ x. goal x ≡ false) r.3 (m.quiet r.0 r.1 r.2)) there)
        (λ h. omega (arith, slice_get_within es k h.0 h.1))
        (either w n to)

    -- no sequence that leads to a goal comes before that of the entry which is being tried, with
    -- symbol b
    pub none_before : (u : List ℕ) → Traces L es k u → (w : List ℕ) (n : N) → leads w ≡ Some n → goal n ≡ true → NotAfter (b ∷ u) w
    none_before u t w n to there =
        ⊎_elim
        (λ r. absurd (both_ways (goal n) (subst (λ x. goal x ≡ false) r.3 (m.quiet r.0 r.1 r.2)) there))
        (λ h. subst (λ x. NotAfter (b ∷ x) w) (one_trace L es h.2.0 u k k refl h.2.1 t) h.2.2)
        (either w n to)

    -- an entry was found before symbol b is tried at entry k
    pub found_before : (i : ℕ) (e : E) → 0 < i → slice_get es i ≡ Some e → Sooner (L.parent e) (L.symbol e) k (b + 1)
    found_before i e above is = sooner_by (L.parent e) (L.symbol e) k b k (b + 1) (m.upto i e above is) (inr (refl, omega arith))

    -- the entry that is being tried
    module _ (e : E) (here : slice_get es k ≡ Some e) where
      -- what was tried with symbol b, and what was tried before
      closed_with : (more : List E) → ((i a : ℕ) (n : N) → Met L es node i a n → Met L more node i a n) → ((n : N) → move (node e) b ≡ Some n → Met L more node k b n) → (i : ℕ) (f : E) (a : ℕ) (n : N) → slice_get es i ≡ Some f → Sooner i a k (b + 1) → move (node f) a ≡ Some n → Met L more node i a n
      closed_with more kept known i f a n is t to =
          ⊎_elim
          (λ done. kept i a n (m.closed i f a n is (inl done) to))
          (λ at.
          ⊎_elim
          (λ low. kept i a n (m.closed i f a n is (inr (at.0, low)) to))
          (λ up.
          let last : a ≡ b = omega (arith, at.1) in
          let same : f ≡ e = same_Some _ _ (sym is ∙ ap (slice_get es) at.0 ∙ here) in
          let met = known n (sym (ap (λ x. move (node x) b) same) ∙ sym (ap (move (node f)) last) ∙ to) in
          subst (λ (x : ℕ). Met L more node x a n) (sym at.0) (subst (λ (x : ℕ). Met L more node k x n) (sym last) met))
          (cases_lt a b))
          t

      -- one symbol more was tried there: what it leads to is listed
      pub tried : ((n : N) → move (node e) b ≡ Some n → Met L es node k b n) → Midway es k (b + 1)
      tried known =
          record {
            bottom = m.bottom;
            led = m.led;
            quiet = m.quiet;
            ordered = m.ordered;
            upto = found_before;
            closed = closed_with es (λ i a n l. l) known;
          }

      -- all symbols that lead anywhere were tried there
      pub done : ((a : ℕ) (n : N) → move (node e) a ≡ Some n → a < b) → Midway es (k + 1) 0
      done all =
          record {
            bottom = m.bottom;
            led = m.led;
            quiet = m.quiet;
            ordered = m.ordered;
            upto = λ i f above is. sooner_by (L.parent f) (L.symbol f) k b (k + 1) 0 (m.upto i f above is) (inl (omega arith));
            closed = λ i f a n is t to.
                ⊎_elim
                (λ low.
                ⊎_elim
                (λ before. m.closed i f a n is (inl before) to)
                (λ up.
                let at : i ≡ k = omega arith in
                let same : f ≡ e = same_Some _ _ (sym is ∙ ap (slice_get es) at ∙ here) in
                m.closed i f a n is (inr (at, all a n (sym (ap (λ x. move (node x) a) same) ∙ to))) to)
                (cases_lt i k))
                (λ at. absurd (omega (arith, at.1)))
                t;
          }

      -- an entry more, found from there by symbol b
      module _ (f : E) (parent : L.parent f ≡ k) (symbol : L.symbol f ≡ b) (to : move (node e) b ≡ Some (node f)) where
        abbrev more : List E
        more = es ++ f ∷ []

        -- its sequence: that of the entry which is being tried, and the symbol
        pub record ReachedBy (w : List ℕ) : Type 0 where
          pub read : Traces L more (length es) w
          pub leads_to : leads w ≡ Some (node f)
          pub first : (v : List ℕ) (n : N) → leads v ≡ Some n → goal n ≡ true → NotAfter w v

        pub new_sequence : List ℕ
        new_sequence = b ∷ (m.led k e here).0

        pub new_leads : ReachedBy new_sequence
        unfolding new_sequence
        new_leads =
            let u = m.led k e here in
            let below : L.parent f < length es = omega (arith, slice_get_within es k e here) in
            record {
              read =
                  subst (λ (a : ℕ). Traces L more (length es) (a ∷ u.0)) symbol
                  (traces_more L more (length es) f u.0 (nth_new f es) below (subst (λ (i : ℕ). Traces L more i u.0) (sym parent) (traces_kept L es more (nth_kept f es) k u.0 u.1)));
              leads_to = ap (option_and_then (λ n. move n b)) u.2 ∙ to;
              first = none_before u.0 u.1;
            }

        -- it was found just now
        new_from : (x : E) → f ≡ x → Sooner (L.parent x) (L.symbol x) k (b + 1)
        new_from x new = subst (λ (y : E). Sooner (L.parent y) (L.symbol y) k (b + 1)) new (inr (parent, omega (arith, symbol)))

        pub grown : goal (node f) ≡ false → Midway more k (b + 1)
        grown not-goal =
            let inside = slice_get_within es k e here in
            record {
              bottom = let first = m.bottom in (first.0, nth_kept f es 0 first.0 first.1, first.2);
              led = λ i x is.
                  ⊎_elim
                  (λ old. let w = m.led i x old in (w.0, traces_kept L es more (nth_kept f es) i w.0 w.1, w.2))
                  (λ new. (new_sequence, subst (λ (j : ℕ). Traces L more j new_sequence) (sym new.0) new_leads.read, new_leads.leads_to ∙ ap (λ y. Some (node y)) new.1))
                  (nth_cases f es i x is);
              quiet = λ i x is. ⊎_elim (m.quiet i x) (λ new. subst (λ y. goal (node y) ≡ false) new.1 not-goal) (nth_cases f es i x is);
              ordered = λ i j x y above up is is'.
                  ⊎_elim
                  (λ old.
                  ⊎_elim
                  (λ old'. m.ordered i j x y above up old old')
                  (λ new'. subst (λ (z : E). Sooner (L.parent x) (L.symbol x) (L.parent z) (L.symbol z)) new'.1 (sooner_by (L.parent x) (L.symbol x) k b (L.parent f) (L.symbol f) (m.upto i x above old) (inr (sym parent, omega (arith, symbol)))))
                  (nth_cases f es j y is'))
                  (λ new. absurd (omega (arith, new.0, slice_get_within more j y is', length_push es f)))
                  (nth_cases f es i x is);
              upto = λ i x above is. ⊎_elim (found_before i x above) (λ new. new_from x new.1) (nth_cases f es i x is);
              closed = λ i x a n is t leads_on.
                  ⊎_elim
                  (λ old. closed_with more kept_listed new_listed i x a n old t leads_on)
                  (λ new. absurd (⊎_elim (λ low. omega (arith, new.0)) (λ at. omega (arith, new.0, at.0)) t))
                  (nth_cases f es i x is);
            }
          where
            kept_listed : (i a : ℕ) (n : N) → Met L es node i a n → Met L more node i a n
            kept_listed i a n l = record { at = l.at; entry = l.entry; is = nth_kept f es l.at l.entry l.is; same = l.same; from = l.from }

            new_listed : (n : N) → move (node e) b ≡ Some n → Met L more node k b n
            new_listed n leads_on = record { at = length es; entry = f; is = nth_new f es; same = same_Some _ _ (sym to ∙ leads_on); from = λ above. new_from f refl }

  -- before anything was tried: the bottom entry alone
  pub begun : (e : E) → node e ≡ start → goal (node e) ≡ false → Midway (e ∷ []) 0 0
  begun e at not-goal =
      record {
        bottom = (e, refl, at);
        led = λ i f is. let one = only i f is in ([], traces_first L (e ∷ []) i one.0, ap Some (sym at ∙ ap node one.1));
        quiet = λ i f is. subst (λ x. goal (node x) ≡ false) (only i f is).1 not-goal;
        ordered = λ i j f g above up is is'. absurd (omega (arith, (only i f is).0));
        upto = λ i f above is. absurd (omega (arith, (only i f is).0));
        closed = λ i f a n is t to. absurd (⊎_elim (λ low. omega arith) (λ here. omega (arith, here.1)) t);
      }
    where
      only : (i : ℕ) (f : E) → slice_get (e ∷ []) i ≡ Some f → (i ≡ 0) × (e ≡ f)
      only i f is = ⊎_elim (λ old. absurd (none-some _ old)) (λ new. new) (nth_cases e [] i f is)
