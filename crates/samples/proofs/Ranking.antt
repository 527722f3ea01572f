-- What is noted of ranks, and the sequences into states of lower rank. Assumes nothing.
use Rattle.std.proofs.Common.{◌≡◌, ℕ, ◌<◌, ◌≤◌, ◌^◌, Bool, true, eqb, ltb, List, [], ◌∷◌, Some, None, Option, Decides, sym, refl, ap, ◌∙◌, subst, ⊎_elim, arith}
use Rattle.std.specs.List.{AllByRecursion}
use Rattle.std.specs.Option.{option_eq}
use Rattle.std.proofs.ByRecursion.{All-weaker}
use Rattle.std.proofs.lemmas.Bool.{and_parts, and_from, both_ways, cases_Bool, eq-eqb, eqb-true, false≢true, lt-ltb, ltb-true}
use Rattle.std.proofs.lemmas.Option.{get_or_from_slice_get, none-some, same_Some}
use Rattle.codec.specs.Trees.{Tree, node, Children, none, child, word, height, heights}
use Rattle.bits.specs.Bits.{bit}
use Rattle.domain.specs.Sets.{Smallest}
use Rattle.schema.specs.Automata.{Automaton, passes, present, row_runs, has_next, allowed, accepts, accepts_all}
use Rattle.schema.specs.Live.{Live, Rank, Ranked}
use Rattle.schema.proofs.Bound.{passed}
use Rattle.search.specs.Sequences.{First, Sought}
use Rattle.search.specs.Watching.{anything}
use Rattle.search.proofs.Orders.{first_alike}
use Rattle.samples.specs.Samples.{LeadsLower, LowerSequence, SampleSequence}
use Rattle.samples.specs.Kept.{noted_at}
use Rattle.samples.proofs.Growing.{Inside, one_rank}

-- the test whether a rank is there
pub rank_equal : (o : Option ℕ) (k : ℕ) → Decides (option_eq eqb o (Some k)) (o ≡ Some k)
rank_equal (Some m) k = (λ e. ap Some (eqb-true m k e), λ is. eq-eqb m k (same_Some m k is))
rank_equal None k = (λ e. absurd (false≢true e), λ is. absurd (none-some k is))

module _ (A : Automaton) (n live : ℕ) (ranks : List (Option ℕ)) (ranked : Ranked A n live ranks) where
  -- a live state has its rank noted
  pub rank_noted : (s m : ℕ) → bit live s ≡ true → Rank A s m → noted_at ranks s ≡ Some m
  rank_noted s m here r =
      let at = ranked.noted s here in
      get_or_from_slice_get ranks s (Some at.0) None at.1 ∙ ap Some (one_rank A s at.0 m at.3 r)

  -- and what is noted is the rank of a live state
  pub noted_ranked : (s m : ℕ) → s < 64 → noted_at ranks s ≡ Some m → (bit live s ≡ true) × Rank A s m
  noted_ranked s m low is =
      ⊎_elim
      (λ here. let at = ranked.noted s here in (here, subst (Rank A s) (same_Some _ _ (sym (get_or_from_slice_get ranks s (Some at.0) None at.1) ∙ is)) at.3))
      (λ dead. absurd (none-some m (sym (get_or_from_slice_get ranks s None None (ranked.others s low dead)) ∙ is)))
      (cases_Bool (bit live s))

  pub below_decides : (below : Bool) (rank s : ℕ) → s < 64 → below ≡ passes (noted_at ranks s) (λ m. ltb m rank) → Decides below ((bit live s ≡ true) × ((m : ℕ) × Rank A s m × (m < rank)))
  below_decides below rank s low is = (
    λ h.
        let at = passed (noted_at ranks s) (λ m. ltb m rank) (sym is ∙ h) in
        let r = noted_ranked s at.0 low at.1 in
        (r.0, (at.0, r.1, ltb-true at.0 rank at.2)),
    λ h. is ∙ ap (λ o. passes o (λ m. ltb m rank)) (rank_noted s h.1.0 h.0 h.1.1) ∙ lt-ltb h.1.0 rank h.1.2,
  )

-- at a state of rank m, over the symbols into states of lower rank
module _ (A : Automaton) (n live : ℕ) (ranks : List (Option ℕ)) (ranked : Ranked A n live ranks) (few : n ≤ 64) (inside : Inside A n) (q m lower : ℕ) (low : q < n) (r : Rank A q m) (below : (s : ℕ) → s < 64 → Decides (bit lower s) ((bit live s ≡ true) × ((l : ℕ) × Rank A s l × (l < m)))) (set : ℕ → Bool) (same : (a : ℕ) → set a ≡ passes (A.next q a) (bit lower)) where
  to_lower : (a : ℕ) → set a ≡ true → LeadsLower A q a
  to_lower a h =
      let next = passed (A.next q a) (bit lower) (sym (same a) ∙ h) in
      let s = inside q a next.0 low next.1 in
      let at = (below next.0 (omega (arith, s, few))).0 next.2 in
      (next.0, next.1, (at.1.0, m, at.1.1, r, at.1.2))

  from_lower : (a : ℕ) → LeadsLower A q a → set a ≡ true
  from_lower a h =
      let s = inside q a h.0 low h.1 in
      let l = h.2 in
      let rank = one_rank A q l.1 m l.3 r in
      let here = (ranked.live h.0).1 (s, (l.2.0.0, l.2.0.1)) in
      same a ∙ ap (λ o. passes o (bit lower)) h.1 ∙ (below h.0 (omega (arith, s, few))).1 (here, (l.0, l.2, omega (arith, l.4, rank)))

  have_next : (w : List ℕ) → AllByRecursion (λ a. set a ≡ true) w → has_next A q w ≡ true
  have_next [] over = refl
  have_next (a ∷ w) over = and_from _ _ (ap present (to_lower a over.0).1) (have_next w over.1)

  -- what is sought there are the sequences into states of lower rank
  pub lower_of_sought : (w : List ℕ) → Sought A q set anything w → LowerSequence A q w
  lower_of_sought w s = (and_from _ _ s.runs (have_next w s.over), All-weaker (λ a. set a ≡ true) (LeadsLower A q) to_lower w s.over)

  pub sought_of_lower : (w : List ℕ) → LowerSequence A q w → Sought A q set anything w
  sought_of_lower w l =
      record {
        over = All-weaker (LeadsLower A q) (λ a. set a ≡ true) from_lower w l.1;
        runs = (and_parts (row_runs A q 0 w) _ l.0).0;
        wants = refl;
      }

  -- so the first of them is the sample's
  pub sample_of_first : (w : List ℕ) → First (Sought A q set anything) w → SampleSequence A q w
  sample_of_first = first_alike (Sought A q set anything) (LowerSequence A q) (λ w. (lower_of_sought w, sought_of_lower w))

  children_lower : (cs : Children) → accepts_all A q cs ≡ true → heights cs ≤ m → AllByRecursion (LeadsLower A q) (word cs)
  children_lower none all high = tt
  children_lower (child a t cs) all high =
      let parts = and_parts (passes (A.next q a) (λ s. accepts A s t)) _ all in
      let next = passed (A.next q a) (λ s. accepts A s t) parts.0 in
      let at = ranked.noted next.0 ((ranked.live next.0).1 (inside q a next.0 low next.1, (t, next.2))) in
      let least = at.3.1 t next.2 in
      ((next.0, next.1, (at.0, m, at.3, r, omega (arith, high, least))), children_lower cs parts.1 (omega (arith, high)))

  -- there is one: the children of a lowest tree
  pub has_lower : (w : List ℕ) × LowerSequence A q w
  has_lower = by r.0.0 r.0.1 r.0.2
    where
      by : (t : Tree) → accepts A q t ≡ true → height t ≡ m → (w : List ℕ) × LowerSequence A q w
      by (node v cs) accepted high =
          let content = (and_parts (A.has q v) _ accepted).1 in
          let parts = and_parts (allowed A q (word cs)) _ content in
          (word cs, (parts.0, children_lower cs parts.1 (omega (arith, high))))

-- a live state has a value
pub live_value : (A : Automaton) (q : ℕ) → ((v : ℕ) → A.has q v ≡ true → v < 2 ^ 32) → Live A q → Smallest (A.has q) None → ⊥
live_value A q values live empty = by live.0 live.1
  where
    by : (t : Tree) → accepts A q t ≡ true → ⊥
    by (node v cs) accepted = let has = (and_parts (A.has q v) _ accepted).0 in both_ways (A.has q v) (empty v (values v has)) has
