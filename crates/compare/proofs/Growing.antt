-- What holds of a list of pairs as pairs of next states are put behind it. Assumes nothing.
use Rattle.std.proofs.Common.{◌≡◌, ℕ, zero, suc, ◌<◌, Bool, true, false, ◌⊎◌, List, [], ◌∷◌, ◌++◌, length, get_or, Some, None, Decides, Option, sym, refl, ap, ◌∙◌, subst, inl, inr, ⊎_elim, arith}
use Rattle.std.specs.List.{slice_get}
use Rattle.std.proofs.lemmas.Bool.{cases_Bool, cases_lt, cond-true, cond-false, false≢true}
use Rattle.std.proofs.lemmas.Option.{none-some, same_Some, slice_get_within, slice_get-get_or}
use Rattle.schema.specs.Automata.{Automaton}
use Rattle.schema.specs.Live.{LiveSymbol, LivePath}
use Rattle.schema.proofs.Onward.{path_push}
use Rattle.search.specs.Paths.{BreadthFirst, Met}
use Rattle.search.proofs.Paths.{word_kept, word_pushed}
use Rattle.search.proofs.Places.{nth_kept, nth_new, nth_cases}
use Rattle.compare.specs.declared.pairs.Listed.{Listed}
use Rattle.compare.specs.Invariant.{StatePath, Reached, Passed}
use Rattle.compare.specs.Listing.{pair_links, pair_of}
use Rattle.compare.specs.Pairs.{start, listed, with_pair}
use Rattle.compare.specs.Stepping.{next_pair, with_found, with_nexts}
use Rattle.compare.specs.Trailing.{Trail}
use Rattle.compare.proofs.Ordering.{Upto, upto_more, upto_pushed, order_pushed}
use Rattle.compare.proofs.Standing.{listed_nth, listed_tells}

-- every entry stays where it is
abbrev pub Further : List Listed → List Listed → Type 0
Further es fs = (i : ℕ) (e : Listed) → slice_get es i ≡ Some e → slice_get fs i ≡ Some e

-- a pair is listed already, or put behind the others
with_pair_cases : (es : List Listed) (x : Listed) → ((listed es x.first x.second ≡ true) × (with_pair es x ≡ es)) ⊎ (with_pair es x ≡ es ++ x ∷ [])
with_pair_cases es x = ⊎_elim (λ there. inl (there, cond-true _ es (es ++ x ∷ []) there)) (λ new. inr (cond-false _ es (es ++ x ∷ []) new)) (cases_Bool (listed es x.first x.second))

further_pair : (es : List Listed) (x : Listed) → Further es (with_pair es x)
further_pair es x = ⊎_elim (λ there. subst (Further es) (sym there.1) (λ i e at. at)) (λ new. subst (Further es) (sym new) (nth_kept x es)) (with_pair_cases es x)

-- what was met stays met
met_further : (es fs : List Listed) (i a : ℕ) (n : ℕ × ℕ) → Further es fs → Met pair_links es pair_of i a n → Met pair_links fs pair_of i a n
met_further es fs i a n more m = record { at = m.at; entry = m.entry; is = more m.at m.entry m.is; same = m.same; from = m.from }

-- and is listed
pub met_listed : (es : List Listed) (i a s u : ℕ) → Met pair_links es pair_of i a (s, u) → listed es s u ≡ true
met_listed es i a s u m = subst (λ (n : ℕ × ℕ). listed es n.0 n.1 ≡ true) m.same (listed_nth es m.at m.entry m.is)

-- one symbol more
path_on : (B : Automaton) (w : List ℕ) (p q a s : ℕ) → StatePath B p w q → B.next q a ≡ Some s → StatePath B p (w ++ a ∷ []) s
path_on B [] p q a s e is = (s, ap (λ (k : ℕ). B.next k a) e ∙ is, refl)
path_on B (b ∷ w) p q a s path is = (path.0, path.1, path_on B w path.0 q a s path.2 is)

module _ (A B : Automaton) where
  pub passed_further : (es fs : List Listed) (i : ℕ) (e : Listed) → Further es fs → Passed A B es i e → Passed A B fs i e
  passed_further es fs i e more passed = record { unbroken = passed.unbroken; onward = λ a s live is. let there = passed.onward a s live is in (there.0, there.1, met_further es fs i a (s, there.0) more there.2) }

  -- the pair of next states of a listed pair under a live symbol is reached too
  module _ (es : List Listed) (reached : Reached A B es) (i : ℕ) (e : Listed) (at : slice_get es i ≡ Some e) (x : Listed) (behind : x.parent ≡ i) (live : LiveSymbol A e.first x.symbol) (first : A.next e.first x.symbol ≡ Some x.first) (second : B.next e.second x.symbol ≡ Some x.second) where
    reached_push : Reached A B (es ++ x ∷ [])
    reached_push j f there =
        ⊎_elim
        (λ old. let r = reached j f old in (r.0, word_kept pair_links es (es ++ x ∷ []) (nth_kept x es) j r.0 r.1, r.2, r.3))
        (λ new.
        let r = reached i e at in
        let before : x.parent < j = omega (arith, behind, new.0, slice_get_within es i e at) in
        let below : Trail (es ++ x ∷ []) x.parent r.0 = subst (λ (k : ℕ). Trail (es ++ x ∷ []) k r.0) (sym behind) (word_kept pair_links es (es ++ x ∷ []) (nth_kept x es) i r.0 r.1) in
        let there : slice_get (es ++ x ∷ []) j ≡ Some x = ap (slice_get (es ++ x ∷ [])) new.0 ∙ nth_new x es in
        subst (λ (g : Listed). (w : List ℕ) × Trail (es ++ x ∷ []) j w × LivePath A 0 w g.first × StatePath B 0 w g.second) new.1 (
          r.0 ++ x.symbol ∷ [],
          word_pushed pair_links (es ++ x ∷ []) j x r.0 there before below,
          path_push A r.0 0 e.first x.symbol x.first r.2 live first,
          path_on B r.0 0 e.second x.symbol x.second r.3 second,
        ))
        (nth_cases x es j f there)

    reached_pair : Reached A B (with_pair es x)
    reached_pair = ⊎_elim (λ there. subst (Reached A B) (sym there.1) reached) (λ new. subst (Reached A B) (sym new) reached_push) (with_pair_cases es x)

  -- what listing the pairs of next states under the symbols below n leaves
  pub record Listing (live : ℕ → Bool) (e : Listed) (i n : ℕ) (es fs : List Listed) : Type 0 where
    pub further : Further es fs
    pub reached : Reached A B fs
    pub added : (a s u : ℕ) → a < n → live a ≡ true → A.next e.first a ≡ Some s → B.next e.second a ≡ Some u → Met pair_links fs pair_of i a (s, u)
    pub ordered : BreadthFirst pair_links fs
    pub upto : Upto pair_links fs i n

  module _ (live : ℕ → Bool) (e : Listed) (exact : (a : ℕ) → Decides (live a) (LiveSymbol A e.first a)) (i : ℕ) where
    -- under one symbol
    module _ (es : List Listed) (reached : Reached A B es) (at : slice_get es i ≡ Some e) (a : ℕ) (ordered : BreadthFirst pair_links es) (upto : Upto pair_links es i a) where
      -- in breadth-first order, up to the symbol
      abbrev InOrder : List Listed → Type 0
      InOrder fs = BreadthFirst pair_links fs × Upto pair_links fs i (suc a)

      in_order : InOrder es
      in_order = (ordered, upto_more pair_links es i a upto)

      pair_in_order : (x : Listed) → x.parent ≡ i → x.symbol ≡ a → InOrder (with_pair es x)
      pair_in_order x parent symbol =
          ⊎_elim
          (λ there. subst InOrder (sym there.1) in_order)
          (λ new. subst InOrder (sym new) (order_pushed pair_links es i a upto x parent symbol ordered, upto_pushed pair_links es i a upto x parent symbol))
          (with_pair_cases es x)

      -- a pair that was listed was found before, and a new one is found now
      was_met : (x : Listed) → listed es x.first x.second ≡ true → Met pair_links es pair_of i a (x.first, x.second)
      was_met x there =
          let at = listed_tells es x.first x.second there in
          let is = slice_get-get_or es at.0 start at.1 in
          record {
            at = at.0;
            entry = get_or es at.0 start;
            is = is;
            same = λ j. (at.2 j, at.3 j);
            from = λ above. ⊎_elim (λ low. inl low) (λ here. inr (here.0, omega (arith, here.1))) (upto at.0 (get_or es at.0 start) above is);
          }

      pair_met : (x : Listed) → x.parent ≡ i → x.symbol ≡ a → Met pair_links (with_pair es x) pair_of i a (x.first, x.second)
      pair_met x parent symbol =
          ⊎_elim
          (λ there. subst (λ (fs : List Listed). Met pair_links fs pair_of i a (x.first, x.second)) (sym there.1) (was_met x there.0))
          (λ new.
          subst (λ (fs : List Listed). Met pair_links fs pair_of i a (x.first, x.second)) (sym new)
          (record { at = length es; entry = x; is = nth_new x es; same = refl; from = λ above. inr (parent, omega (arith, symbol)) }))
          (with_pair_cases es x)

      abbrev One : Bool → Option ℕ → Option ℕ → Type 0
      One b o p =
          let fs = with_found (next_pair i a b o p) es in
          Further es fs × Reached A B fs × ((s u : ℕ) → b ≡ true → o ≡ Some s → p ≡ Some u → Met pair_links fs pair_of i a (s, u)) × InOrder fs

      one : (b : Bool) (o p : Option ℕ) → live a ≡ b → A.next e.first a ≡ o → B.next e.second a ≡ p → One b o p
      one true (Some s) (Some u) alive first second =
          let x : Listed = record { first = s; second = u; parent = i; symbol = a } in (
            further_pair es x,
            reached_pair es reached i e at x refl ((exact a).0 alive) first second,
            λ s' u' _ same also. subst (λ (q : ℕ). Met pair_links (with_pair es x) pair_of i a (s', q)) (same_Some _ _ also) (subst (λ (p : ℕ). Met pair_links (with_pair es x) pair_of i a (p, u)) (same_Some _ _ same) (pair_met x refl refl)),
            pair_in_order x refl refl,
          )
      one true (Some s) None alive first second = (λ j e at. at, reached, λ s' u' _ same also. absurd (none-some _ also), in_order)
      one true None p alive first second = (λ j e at. at, reached, λ s' u' _ same also. absurd (none-some _ same), in_order)
      one false o p alive first second = (λ j e at. at, reached, λ s' u' no same also. absurd (false≢true no), in_order)

    -- under the symbols below n
    pub listing : (es : List Listed) → Reached A B es → slice_get es i ≡ Some e → BreadthFirst pair_links es → Upto pair_links es i 0 → (n : ℕ) → Listing live e i n es (with_nexts A B live e.first e.second i n es)
    listing es reached at ordered upto zero = record { further = λ j e at. at; reached = reached; added = λ a s u low. absurd (omega arith); ordered = ordered; upto = upto }
    listing es reached at ordered upto (suc n) =
        let fs = with_nexts A B live e.first e.second i n es in
        let before = listing es reached at ordered upto n in
        let next = one fs before.reached (before.further i e at) n before.ordered before.upto (live n) (A.next e.first n) (B.next e.second n) refl refl refl in
        record {
          further = λ j f at. next.0 j f (before.further j f at);
          reached = next.1;
          added = λ a s u low alive first second.
              ⊎_elim
              (λ earlier. met_further fs (with_nexts A B live e.first e.second i (suc n) es) i a (s, u) next.0 (before.added a s u earlier alive first second))
              (λ last. subst (λ (k : ℕ). Met pair_links (with_nexts A B live e.first e.second i (suc n) es) pair_of i k (s, u)) (sym last) (next.2 s u (subst (λ (k : ℕ). live k ≡ true) last alive) (subst (λ (k : ℕ). A.next e.first k ≡ Some s) last first) (subst (λ (k : ℕ). B.next e.second k ≡ Some u) last second)))
              (below a n low);
          ordered = next.3.0;
          upto = next.3.1;
        }
      where
        below : (a n : ℕ) → a < suc n → (a < n) ⊎ (a ≡ n)
        below a n low = ⊎_elim inl (λ past. inr (omega arith)) (cases_lt a n)
