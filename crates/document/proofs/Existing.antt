-- Where each listed pair is reached by live symbols, and one of them is broken, it can't be that this one has no document. Nothing is computed
-- here: of what has to be there it is shown that it can't be lacking. Assumes nothing.
use Rattle.std.proofs.Common.{◌≡◌, ℕ, zero, suc, ◌<◌, ◌≤◌, ◌^◌, Bool, true, false, ◌⊎◌, List, [], ◌∷◌, ◌++◌, reverse, length, Some, sym, refl, ap, ◌∙◌, subst, inl, inr, ⊎_elim, arith}
use mathlib.Core.List.{reverse-cons}
use Rattle.std.specs.List.{AllByRecursion, slice_get}
use Rattle.std.proofs.lemmas.Bool.{and_parts, and_from, cases_Bool, cases_eq, cases_lt, cases_order, not_from_false}
use Rattle.std.proofs.lemmas.List.{reverse-reverse}
use Rattle.std.proofs.lemmas.Option.{same_Some, slice_get_within}
use Rattle.codec.specs.Trees.{Tree, node, Children, none, child, word, height, heights}
use Rattle.domain.specs.Sets.{Smallest, alone}
use Rattle.schema.specs.Automata.{Automaton, passes, allowed, accepts, accepts_all}
use Rattle.schema.specs.Live.{Live, LiveSequence, LiveSymbol, LivePath, Rank}
use Rattle.schema.proofs.Bound.{passed}
use Rattle.schema.proofs.Onward.{live_next}
use Rattle.search.specs.Sequences.{Precedes, First}
use Rattle.search.specs.Watching.{Holds}
use Rattle.search.proofs.Places.{nth_inside}
use Rattle.compare.specs.declared.pairs.Listed.{Listed}
use Rattle.compare.specs.declared.phase.Kind.{Kind}
use Rattle.compare.specs.declared.phase.Kind.TheVariants.{Value, Content}
use Rattle.compare.specs.Breaking.{Broken}
use Rattle.compare.specs.Invariant.{StatePath, Reached}
use Rattle.compare.specs.Pairs.{start}
use Rattle.document.specs.Documents.{OnPath, LeadsTo, Built, HasDocument}
use Rattle.samples.specs.Samples.{LeadsLower, LowerSequence, SampleSequence, Sample}
use Rattle.samples.proofs.Growing.{LeadsLive, LeadsSampled, SampledChildren, gather, one_rank}
use Rattle.document.proofs.Filling.{filled}
use Rattle.document.proofs.Splitting.{end_with, context_with, holds_none, filled_built, sides}
use Rattle.search.specs.Paths.{PathBack}
use Rattle.search.proofs.Paths.{found_there, one_word, word_parent}
use Rattle.compare.specs.Listing.{pair_links}

-- it can't be lacking
abbrev Sure : Type 0 → Type 0
Sure X = (X → ⊥) → ⊥

here : {X : Type 0} → X → Sure X
here x lacks = lacks x

on : {X Y : Type 0} → Sure X → (X → Sure Y) → Sure Y
on s f lacks = s (λ x. f x lacks)

-- of each entry of a list
all_sure : {X : Type 0} (P Q : X → Type 0) → ((x : X) → P x → Sure (Q x)) → (xs : List X) → AllByRecursion P xs → Sure (AllByRecursion Q xs)
all_sure P Q each [] all = here tt
all_sure P Q each (x ∷ xs) all = on (each x all.0) (λ q. on (all_sure P Q each xs all.1) (λ rest. here (q, rest)))

-- the number has the property, and no smaller one has
record Least (P : ℕ → Type 0) (m : ℕ) : Type 0 where
  is : P m
  before : (k : ℕ) → k < m → P k → ⊥

none_below : (P : ℕ → Type 0) → ((m : ℕ) × Least P m → ⊥) → (n k : ℕ) → k < n → P k → ⊥
none_below P lacks zero k low is = omega (arith, low)
none_below P lacks (suc n) k low is = lacks (k, record { is = is; before = λ j less. none_below P lacks n j (omega (arith, less, low)) })

least : (P : ℕ → Type 0) (n : ℕ) → P n → Sure ((m : ℕ) × Least P m)
least P n is lacks = none_below P lacks (suc n) n (omega arith) is

-- the sequence precedes all others of its length with the property, or is the same
record Foremost (P : List ℕ → Type 0) (n : ℕ) (u : List ℕ) : Type 0 where
  is : P u
  long : length u ≡ n
  others : (v : List ℕ) → P v → length v ≡ n → (u ≡ v) ⊎ Precedes u v

empty : (v : List ℕ) → length v ≡ 0 → [] ≡ v
empty [] long = refl
empty (a ∷ v) long = absurd (omega (arith, long))

-- behind the smallest first symbol
behind : (P : List ℕ → Type 0) (n c : ℕ) (u : List ℕ) → Least (λ b. (w : List ℕ) × P (b ∷ w) × (length w ≡ n)) c → Foremost (λ w. P (c ∷ w)) n u → Foremost P (suc n) (c ∷ u)
behind P n c u l f = record { is = f.is; long = ap suc f.long; others = others }
  where
    others : (v : List ℕ) → P v → length v ≡ suc n → (c ∷ u ≡ v) ⊎ Precedes (c ∷ u) v
    others [] is long = absurd (omega (arith, long))
    others (d ∷ v) is long =
        ⊎_elim
        (λ same. ⊎_elim (λ rest. inl (ap (λ (b : ℕ). b ∷ u) same ∙ ap (λ (w : List ℕ). d ∷ w) rest)) (λ less. inr (inr (same, less))) (f.others v (subst (λ (b : ℕ). P (b ∷ v)) (sym same) is) (omega (arith, long))))
        (λ apart. ⊎_elim (λ low. inr (inl low)) (λ low. absurd (l.before d low (v, is, omega (arith, long)))) apart)
        (cases_order c d)

foremost : (n : ℕ) (P : List ℕ → Type 0) (w : List ℕ) → P w → length w ≡ n → Sure ((u : List ℕ) × Foremost P n u)
foremost zero P w is long = here (w, record { is = is; long = long; others = λ v is' long'. inl (sym (empty w long) ∙ empty v long') })
foremost (suc n) P [] is long = absurd (omega (arith, long))
foremost (suc n) P (a ∷ w) is long =
    on (least (λ b. (v : List ℕ) × P (b ∷ v) × (length v ≡ n)) a (w, is, omega (arith, long)))
    (λ l. on (foremost n (λ v. P (l.0 ∷ v)) l.1.is.0 l.1.is.1 l.1.is.2) (λ f. here (l.0 ∷ f.0, behind P n l.0 f.0 l.1 f.1)))

-- of the shortest ones it is the first of all
no_later : (P : List ℕ → Type 0) (n : ℕ) (u : List ℕ) → Least (λ m. (w : List ℕ) × P w × (length w ≡ m)) n → Foremost P n u → First P u
no_later P n u l f =
    record {
      passes = f.is;
      least = λ v is.
          ⊎_elim
          (λ same. inr (f.long ∙ sym same, f.others v is same))
          (λ apart. ⊎_elim (λ low. absurd (l.before (length v) low (v, is, refl))) (λ low. inl (omega (arith, f.long, low))) apart)
          (cases_order (length v) n);
    }

-- where a sequence has the property, there is the first of them
first : (P : List ℕ → Type 0) (w : List ℕ) → P w → Sure ((u : List ℕ) × First P u)
first P w is =
    on (least (λ m. (v : List ℕ) × P v × (length v ≡ m)) (length w) (w, is, refl))
    (λ l. on (foremost l.0 P l.1.is.0 l.1.is.1 l.1.is.2) (λ f. here (f.0, no_later P l.0 f.0 l.1 f.1)))

-- where a value passes the test, there is the smallest that does
smallest : (test : ℕ → Bool) → ((v : ℕ) → test v ≡ true → v < 2 ^ 32) → (v : ℕ) → test v ≡ true → Sure ((m : ℕ) × Smallest test (Some m))
smallest test values v is =
    on (least (λ m. test m ≡ true) v is)
    (λ l. here (l.0, record { value = values l.0 l.1.is; passes = l.1.is; before = λ k low. ⊎_elim (λ yes. absurd (l.1.before k low yes)) (λ no. no) (cases_Bool (test k)) }))

module _ (A : Automaton) where
  -- a live state has a rank
  ranked : (q : ℕ) → Live A q → Sure ((m : ℕ) × Rank A q m)
  ranked q live =
      on (least (λ m. (t : Tree) × (accepts A q t ≡ true) × (height t ≡ m)) (height live.0) (live.0, live.1, refl))
      (λ l. here (l.0, (l.1.is, λ t accepted. ⊎_elim (λ low. absurd (l.1.before (height t) low (t, accepted, refl))) (λ high. omega (arith, high)) (cases_lt (height t) l.0))))

  -- the children of a lowest tree lead into states of lower rank
  lower_children : (q m : ℕ) → Rank A q m → (cs : Children) → accepts_all A q cs ≡ true → heights cs ≤ m → Sure (AllByRecursion (LeadsLower A q) (word cs))
  lower_children q m r none all high = here tt
  lower_children q m r (child a t cs) all high =
      let parts = and_parts (passes (A.next q a) (λ s. accepts A s t)) _ all in
      let next = passed (A.next q a) (λ s. accepts A s t) parts.0 in
      on (ranked next.0 (t, next.2))
      (λ l. on (lower_children q m r cs parts.1 (omega (arith, high))) (λ rest. here ((next.0, next.1, (l.0, m, l.1, r, omega (arith, high, l.1.1 t next.2))), rest)))

  lower_sequence : (q m : ℕ) → Rank A q m → Sure ((w : List ℕ) × LowerSequence A q w)
  lower_sequence q m r = by r.0.0 r.0.1 r.0.2
    where
      by : (t : Tree) → accepts A q t ≡ true → height t ≡ m → Sure ((w : List ℕ) × LowerSequence A q w)
      by (node v cs) accepted high =
          let content = (and_parts (A.has q v) _ accepted).1 in
          let parts = and_parts (allowed A q (word cs)) _ content in
          on (lower_children q m r cs parts.1 (omega (arith, high))) (λ all. here (word cs, (parts.0, all)))

module _ (A : Automaton) (values : (q v : ℕ) → A.has q v ≡ true → v < 2 ^ 32) where
  -- a live state has a least value
  least_value : (q : ℕ) → Live A q → Sure ((v : ℕ) × Smallest (A.has q) (Some v))
  least_value q live = by live.0 live.1
    where
      by : (t : Tree) → accepts A q t ≡ true → Sure ((v : ℕ) × Smallest (A.has q) (Some v))
      by (node v cs) accepted = smallest (A.has q) (values q) v (and_parts (A.has q v) _ accepted).0

  -- a state of a rank below k has a sample
  sample_below : (k q m : ℕ) → Rank A q m → m < k → Sure ((t : Tree) × Sample A q t)
  sample_below zero q m r low = absurd (omega (arith, low))
  sample_below (suc k) q m r low =
      on (least_value q (r.0.0, r.0.1))
      (λ v.
      on (lower_sequence A q m r)
      (λ l.
      on (first (LowerSequence A q) l.0 l.1)
      (λ w.
      on (all_sure (LeadsLower A q) (LeadsSampled A q) (λ a h. on (sample_below k h.0 h.2.0 h.2.2 (omega (arith, h.2.4, one_rank A q h.2.1 m h.2.3 r, low))) (λ t. here (h.0, h.1, t))) w.0 w.1.passes.1)
      (λ all.
      let cs = gather A q w.0 all in
      here (node v.0 cs.0, (v.1, subst (SampleSequence A q) (sym cs.1) w.1, cs.2))))))

  -- so each live state has one
  live_sample : (q : ℕ) → Live A q → Sure ((t : Tree) × Sample A q t)
  live_sample q live = on (ranked A q live) (λ r. sample_below (suc r.0) q r.0 r.1 (omega arith))

  -- and each sequence into live states has children that are samples
  children : (p : ℕ) (w : List ℕ) → AllByRecursion (LeadsLive A p) w → Sure (SampledChildren A p w)
  children p w all =
      on (all_sure (LeadsLive A p) (LeadsSampled A p) (λ a h. on (live_sample h.0 h.2) (λ t. here (h.0, h.1, t))) w all)
      (λ sampled. here (gather A p w sampled))

-- a symbol that stands in a sequence and is not its first one stands in the rest
holds_rest : (a b : ℕ) (w : List ℕ) → (b ≡ a → ⊥) → Holds a (b ∷ w) → Holds a w
holds_rest a b w other h = by h.0 h.2
  where
    by : (u : List ℕ) → b ∷ w ≡ u ++ a ∷ h.1 → Holds a w
    by [] is = let same : b ≡ a = cc in absurd (other same)
    by (c ∷ u) is = let rest : w ≡ u ++ a ∷ h.1 = cc in (u, h.1, rest)

-- a sequence parts where a symbol stands first
parted : (a : ℕ) (w : List ℕ) → Holds a w → (u : List ℕ) × (x : List ℕ) × (w ≡ u ++ a ∷ x) × (Holds a u → ⊥)
parted a [] h = absurd (holds_none a h)
parted a (b ∷ w) h =
    ⊎_elim
    (λ same. ([], w, ap (λ (c : ℕ). c ∷ w) same, holds_none a))
    (λ other. let rest = parted a w (holds_rest a b w other h) in (b ∷ rest.0, rest.1, ap (λ (l : List ℕ). b ∷ l) rest.2, λ before. rest.3 (holds_rest a b rest.0 other before)))
    (cases_eq b a)

module _ (A B : Automaton) where
  -- the symbols of the listed pairs lead on from the pair (p, q), each live at its first state, to the pair (x, y)
  abbrev Along : ℕ → ℕ → List Listed → ℕ → ℕ → Type 0
  Along p q [] x y = (p ≡ x) × (q ≡ y)
  Along p q (e ∷ path) x y = LiveSymbol A p e.symbol × LeadsTo A B p q e × Along e.first e.second path x y

  -- one pair more
  along_push : (path : List Listed) (p q x y : ℕ) (e : Listed) → Along p q path x y → LiveSymbol A x e.symbol → LeadsTo A B x y e → Along p q (path ++ e ∷ []) e.first e.second
  along_push [] p q x y e same live leads = (
    subst (λ (s : ℕ). LiveSymbol A s e.symbol) (sym same.0) live,
    subst (λ (s : ℕ). LeadsTo A B s q e) (sym same.0) (subst (λ (s : ℕ). LeadsTo A B x s e) (sym same.1) leads),
    (refl, refl),
  )
  along_push (f ∷ path) p q x y e along live leads = (along.0, along.1, along_push path f.first f.second x y e along.2 live leads)

  -- the last symbol of a path
  last_live : (w : List ℕ) (p a r s : ℕ) → LivePath A p w r → LivePath A p (w ++ a ∷ []) s → LiveSymbol A r a × (A.next r a ≡ Some s)
  last_live [] p a r s path long = subst (λ (t : ℕ). LiveSymbol A t a × (A.next t a ≡ Some s)) path (long.0, long.1.1 ∙ ap Some long.1.2)
  last_live (b ∷ w) p a r s path long =
      let same : long.1.0 ≡ path.1.0 = same_Some _ _ (sym long.1.1 ∙ path.1.1) in
      last_live w path.1.0 a r s path.1.2 (subst (λ (t : ℕ). LivePath A t (w ++ a ∷ []) s) same long.1.2)

  last_step : (w : List ℕ) (p a r s : ℕ) → StatePath B p w r → StatePath B p (w ++ a ∷ []) s → B.next r a ≡ Some s
  last_step [] p a r s path long = subst (λ (t : ℕ). B.next t a ≡ Some s) path (long.1 ∙ ap Some long.2)
  last_step (b ∷ w) p a r s path long =
      let same : long.0 ≡ path.0 = same_Some _ _ (sym long.1 ∙ path.1) in
      last_step w path.0 a r s path.2 (subst (λ (t : ℕ). StatePath B t (w ++ a ∷ []) s) same long.2)

  -- where every listed pair is reached, a path leads along its pairs
  module _ (es : List Listed) (starts : slice_get es 0 ≡ Some start) (reached : Reached A B es) where
    -- from the pair that led to an entry
    leads_on : (i : ℕ) (e y : Listed) → slice_get es i ≡ Some e → e.parent < i → slice_get es e.parent ≡ Some y → LiveSymbol A y.first e.symbol × LeadsTo A B y.first y.second e
    leads_on i e y at before there =
        let led = found_there pair_links es i e at before in
        let r = reached i e at in
        let s = reached e.parent y there in
        let v = word_parent pair_links es i e led r.0 r.1 in
        let long : r.0 ≡ s.0 ++ e.symbol ∷ [] = v.2 ∙ ap (λ (l : List ℕ). l ++ e.symbol ∷ []) (one_word pair_links es e.parent v.0 s.0 v.1 s.1) in
        let first = last_live s.0 0 e.symbol y.first e.first s.2 (subst (λ (l : List ℕ). LivePath A 0 l e.first) long r.2) in
        (first.0, (first.1, last_step s.0 0 e.symbol y.second e.second s.3 (subst (λ (l : List ℕ). StatePath B 0 l e.second) long r.3)))

    along_back : (back : List Listed) (i : ℕ) (x : Listed) → slice_get es i ≡ Some x → PathBack pair_links es i back → Along 0 0 (reverse back) x.first x.second
    along_back [] i x at first =
        let same : start ≡ x = same_Some _ _ (sym starts ∙ ap (slice_get es) (sym first) ∙ at) in
        (ap {B = ℕ} (λ (e : Listed). e.first) same, ap {B = ℕ} (λ (e : Listed). e.second) same)
    along_back (e ∷ back) i x at c =
        let y = nth_inside es e.parent (omega (arith, c.1, slice_get_within es i e c.0)) in
        let led = leads_on i e y.0 c.0 c.1 y.1 in
        let there = along_push (reverse back) 0 0 y.0.first y.0.second e (along_back back e.parent y.0 y.1 c.2) led.0 led.1 in
        subst (λ (z : Listed). Along 0 0 (reverse (e ∷ back)) z.first z.second) (same_Some _ _ (sym c.0 ∙ at))
        (subst (λ (l : List Listed). Along 0 0 l e.first e.second) (sym (reverse-cons e back)) there)

  module _ (values : (q v : ℕ) → A.has q v ≡ true → v < 2 ^ 32) where
    gap_built : (p q v : ℕ) (t : Tree) → Smallest (alone (A.has p) (B.has q)) (Some v) → Sample A p t → (u : Tree) × Built A B Value p q [] u
    gap_built p q v (node w cs) gap s = (node v cs, ((gap, s.1), s.2))

    -- the end of a document
    end_built : (k : Kind) (p q : ℕ) → Live A p → Broken A B k p q → Sure ((t : Tree) × Built A B k p q [] t)
    end_built Value p q live broken =
        on (smallest (alone (A.has p) (B.has q)) (λ v is. values p v (and_parts (A.has p v) _ is).0) broken.0 (and_from _ _ broken.1 (not_from_false _ broken.2)))
        (λ gap. on (live_sample A values p live) (λ s. here (gap_built p q gap.0 s.0 gap.1 s.1)))
    end_built Content p q live broken =
        on (first (λ u. LiveSequence A p u × (allowed B q u ≡ false)) broken.0 (broken.1, broken.2))
        (λ w.
        on (least_value A values p live)
        (λ v. on (children A values p w.0 w.1.passes.0.1) (λ cs. here (node v.0 cs.0, end_with A B Content p q v.0 w.0 (v.1, w.1) cs))))

    -- a node on the path, with the part that goes on
    node_built : (k : Kind) (p q : ℕ) (e : Listed) (path : List Listed) (part : Tree) → Live A p → LiveSymbol A p e.symbol → LeadsTo A B p q e → Built A B k e.first e.second path part → Sure ((t : Tree) × Built A B k p q (e ∷ path) t)
    node_built k p q e path part live symbol leads built =
        on (least_value A values p live)
        (λ v.
        on (first (λ u. LiveSequence A p u × Holds e.symbol u) (symbol.0 ++ e.symbol ∷ symbol.1) (symbol.2, (symbol.0, symbol.1, refl)))
        (λ w.
        let s = parted e.symbol w.0 w.1.passes.1 in
        let on_path : OnPath A B p e.symbol v.0 (s.0 ++ e.symbol ∷ s.1) = subst (OnPath A B p e.symbol v.0) s.2 (v.1, w.1) in
        let both = sides A p e.symbol s.0 s.1 on_path.1.passes.0.1 in
        on (children A values p s.0 both.0)
        (λ before.
        on (children A values p s.1 both.1)
        (λ after.
        let f = context_with A B p q e v.0 s.0 s.1 on_path leads s.3 before after in
        here (filled A B f.context part, filled_built A B k p q e path f.context part built)))))

    path_built : (k : Kind) (p q x y : ℕ) (path : List Listed) → Live A p → Along p q path x y → Broken A B k x y → Sure ((t : Tree) × Built A B k p q path t)
    path_built k p q x y [] live same broken = end_built k p q live (subst (λ (s : ℕ). Broken A B k s q) (sym same.0) (subst (Broken A B k x) (sym same.1) broken))
    path_built k p q x y (e ∷ path) live along broken =
        on (path_built k e.first e.second x y path (live_next A p e.symbol e.first along.0 along.1.0) along.2 broken)
        (λ part. node_built k p q e path part.0 live along.0 along.1 part.1)

pub has_document : HasDocument
unfolding HasDocument
has_document A B k es i x values live starts reached at broken lacks =
    let w = (reached i x at).1 in
    let along : Along A B 0 0 w.0 x.first x.second = subst (λ (l : List Listed). Along A B 0 0 l x.first x.second) (reverse-reverse w.0) (along_back A B es starts reached (reverse w.0) i x at w.1) in
    path_built A B values k 0 0 x.first x.second w.0 live along broken
    (λ t. lacks w.0 t.0 (record { first = start; listed = starts; starts = (refl, refl); leads = w.1; built = t.1 }))
