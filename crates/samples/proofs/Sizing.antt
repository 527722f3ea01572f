-- The bytes of samples, counted up to TOO_LONG. Assumes nothing.
use Rattle.std.proofs.Common.{◌≡◌, ℕ, ◌+◌, ◌<◌, ◌≤◌, min, ◌⊎◌, List, ◌∷◌, sum, map, length, take, set, get_or, Some, sym, refl, ap, ◌∙◌, subst, inl, inr, ⊎_elim, arith, get_or-set_same, get_or-set_other, length-set}
use Rattle.std.specs.List.{AllByRecursion}
use Rattle.std.proofs.lemmas.Bool.{cases_eq, cases_lt}
use Rattle.std.specs.Option.{MatchOption}
use Rattle.std.proofs.lemmas.List.{take_all}
use Rattle.std.proofs.lemmas.List.Sums.{sum-map, sum_by-cons, sum_by_more}
use Rattle.std.proofs.lemmas.Option.{MatchOption-at_some, same_Some}
use Rattle.std.specs.Prelude.{slice_index}
use Rattle.codec.specs.Encoding.{children_bytes}
use Rattle.codec.specs.Numbers.{number_bytes}
use Rattle.codec.specs.Trees.{Tree, node, Children, none, child, word}
use Rattle.schema.specs.Automata.{Automaton}
use Rattle.schema.specs.Live.{Rank}
use Rattle.schema.specs.declared.live.Ranks.{Ranks}
use Rattle.samples.specs.declared.samples.Samples.{Samples as Kept}
use Rattle.samples.specs.declared.size.TheConstants.{TOO_LONG}
use Rattle.search.proofs.Orders.{one_first}
use Rattle.samples.specs.Samples.{LeadsLower, LowerSequence, Sample, Samples}
use Rattle.samples.specs.Kept.{child_bytes, needed, noted_at, size_at, node_bytes, HasRoots, Root, RootOf, Sampled, SampledBelow, SizedBelow}
use Rattle.samples.proofs.Growing.{HaveRoots, Inside, one_rank}
use Rattle.samples.proofs.Lengths.{child_length, tree_length}
use Rattle.samples.proofs.Ranking.{noted_ranked, rank_noted}
use Rattle.samples.proofs.Unique.{one_smallest}

-- one summand more, counted up to TOO_LONG
pub counted_more : (f : ℕ → ℕ) (w : List ℕ) (i so more all : ℕ) → i < length w → so ≡ min (sum (map f (take i w))) TOO_LONG → more ≡ min (f (get_or w i 0)) TOO_LONG → all ≡ min (so + more) TOO_LONG → all ≡ min (sum (map f (take (i + 1) w))) TOO_LONG
counted_more f w i so more all low is next both = omega (arith, is, next, both, sum-map f (take i w), sum-map f (take (i + 1) w), sum_by_more f w i 0 low)

pub counted_all : (f : ℕ → ℕ) (w : List ℕ) (i so : ℕ) → length w ≤ i → so ≡ min (sum (map f (take i w))) TOO_LONG → so ≡ min (sum (map f w)) TOO_LONG
counted_all f w i so past is = is ∙ ap (λ (u : List ℕ). min (sum (map f u)) TOO_LONG) (take_all i w past)

module _ (A : Automaton) (sizes : List ℕ) (q : ℕ) where
  -- at the state of each child the bytes needed for its tree are noted
  abbrev pub AllSized : Children → Type 0
  AllSized none = Unit {0}
  AllSized (child a t cs) = (size_at sizes (A.next q a) ≡ needed t) × AllSized cs

  -- then the bytes counted are those of the children
  pub children_counted : (cs : Children) → AllSized cs → min (sum (map (child_bytes A sizes q) (word cs))) TOO_LONG ≡ min (length (children_bytes cs)) TOO_LONG
  children_counted none all = refl
  children_counted (child a t cs) all =
      let f = child_bytes A sizes q in
      let counted = sum-map f (a ∷ word cs) ∙ sum_by-cons f a (word cs) in
      omega (arith, counted, child_length a t cs, sum-map f (word cs), all.0, children_counted cs all.1)

  -- and those counted from what a sample begins with are the sample's
  pub sample_counted : (s : Root) (v : ℕ) (cs : Children) → s.value ≡ v → s.word ≡ word cs → AllSized cs → min (node_bytes A sizes q s) TOO_LONG ≡ needed (node v cs)
  sample_counted s v cs value sequence all =
      let f = child_bytes A sizes q in
      let first = ap (λ (n : ℕ). length (number_bytes n)) value in
      let second = ap (λ (w : List ℕ). length (number_bytes (length w))) sequence in
      let below = ap (λ (w : List ℕ). sum (map f w)) sequence in
      omega (arith, first, second, below, tree_length v cs, children_counted cs all)

  -- the size of a child is noted at the state that its symbol leads to
  child_sized : (a s : ℕ) (t : Tree) → A.next q a ≡ Some s → slice_index sizes s ≡ needed t → size_at sizes (A.next q a) ≡ needed t
  child_sized a s t is noted = ap (size_at sizes) is ∙ noted

  -- samples are sized where all live states are
  pub samples_sized : (n : ℕ) → ((p : ℕ) (t : Tree) → p < n → Sample A p t → slice_index sizes p ≡ needed t) → Inside A n → q < n → (cs : Children) → Samples A q cs → AllSized cs
  samples_sized n sized inside low none samples = tt
  samples_sized n sized inside low (child a t cs) samples =
      let s = samples.0 in
      (child_sized a s.0 t s.1 (sized s.0 t (inside q a s.0 low s.1) s.2), samples_sized n sized inside low cs samples.1)

  -- and those into states of lower rank where these are
  pub lower_sized : (m n : ℕ) → Rank A q m → SizedBelow A n m sizes → Inside A n → q < n → (cs : Children) → AllByRecursion (LeadsLower A q) (word cs) → Samples A q cs → AllSized cs
  lower_sized m n r sized inside low none lower samples = tt
  lower_sized m n r sized inside low (child a t cs) lower samples =
      let s = samples.0 in
      let l = lower.0.2 in
      let same : lower.0.0 ≡ s.0 = same_Some _ _ (sym lower.0.1 ∙ s.1) in
      let rank = subst (λ (p : ℕ). Rank A p l.0) same l.2 in
      let below : l.0 < m = omega (arith, l.4, one_rank A q l.1 m l.3 r) in
      (child_sized a s.0 t s.1 (sized s.0 l.0 t (inside q a s.0 low s.1) rank below s.2), lower_sized m n r sized inside low cs lower.1 samples.1)

  -- what is counted from the root of a state of rank m, where the states of lower rank are sized, is needed for its sample
  pub root_counted : (m n : ℕ) → Rank A q m → SizedBelow A n m sizes → Inside A n → q < n → (s : Root) → RootOf A q s → (t : Tree) → Sample A q t → min (node_bytes A sizes q s) TOO_LONG ≡ needed t
  root_counted m n r sized inside low s of (node v cs) sample =
      let value = one_smallest (A.has q) s.value v of.0 sample.0 in
      let sequence = one_first (LowerSequence A q) s.word (word cs) of.1 sample.1 in
      sample_counted s v cs value sequence (lower_sized m n r sized inside low cs sample.1.passes.1 sample.2)

module _ (A : Automaton) (n rank : ℕ) where
  -- the sizes are noted of the states of lower rank, and of those of the rank below a state
  abbrev pub SizedUpTo : ℕ → List ℕ → Type 0
  SizedUpTo state sizes = (q m : ℕ) (t : Tree) → q < n → Rank A q m → (m < rank) ⊎ ((m ≡ rank) × (q < state)) → Sample A q t → slice_index sizes q ≡ needed t

  pub sized_start : (sizes : List ℕ) → SizedBelow A n rank sizes → SizedUpTo 0 sizes
  sized_start sizes so q m t here r which sample = ⊎_elim (λ low. so q m t here r low sample) (λ h. absurd (omega (arith, h.1))) which

  pub sized_end : (state : ℕ) (sizes : List ℕ) → n ≤ state → SizedUpTo state sizes → SizedBelow A n (rank + 1) sizes
  sized_end state sizes past so q m t here r low sample =
      so q m t here r (⊎_elim (λ below. inl below) (λ above. inr (omega (arith, above, low), omega (arith, here, past))) (cases_lt m rank)) sample

  -- a state of another rank is passed over
  pub sized_over : (state : ℕ) (sizes : List ℕ) → (state < n → Rank A state rank → ⊥) → SizedUpTo state sizes → SizedUpTo (state + 1) sizes
  sized_over state sizes other so q m t here r which sample =
      so q m t here r (⊎_elim (λ below. inl below) (λ at. inr (at.0, ⊎_elim (λ low. low) (λ past. let same : q ≡ state = omega (arith, past, at.1) in absurd (other (omega (arith, here, same)) (subst (λ (p : ℕ). Rank A p rank) same (subst (Rank A q) at.0 r)))) (cases_lt q state))) which) sample

  -- a state of the rank is noted
  pub sized_more : (state size : ℕ) (sizes : List ℕ) → state < length sizes → ((t : Tree) → Sample A state t → size ≡ needed t) → SizedUpTo state sizes → SizedUpTo (state + 1) (set sizes state size)
  sized_more state size sizes inside is so q m t here r which sample =
      ⊎_elim
      (λ same. ap (slice_index (set sizes state size)) same ∙ get_or-set_same sizes state size 0 inside ∙ is t (subst (λ (p : ℕ). Sample A p t) same sample))
      (λ other.
      get_or-set_other sizes state q size 0 other
      ∙ so q m t here r (⊎_elim (λ below. inl below) (λ at. inr (at.0, ⊎_elim (λ low. low) (λ past. absurd (other (omega (arith, past, at.1)))) (cases_lt q state))) which) sample)
      (cases_eq q state)

-- the sizes of the states of a rank are noted up to a state, and nothing else has changed
pub record Sizing (A : Automaton) (n : ℕ) (before : Kept) (ranks : Ranks) (rank state : ℕ) (after : Kept) : Type 0 where
  pub roots : after.roots ≡ before.roots
  pub long : length after.sizes ≡ 64
  pub noted : SampledBelow A n rank ranks before → SizedUpTo A n rank state after.sizes

module _ (A : Automaton) (n : ℕ) (inside : Inside A n) (few : n ≤ 64) (before : Kept) (ranks : Ranks) (rank : ℕ) where
  pub sizing_start : length before.sizes ≡ 64 → Sizing A n before ranks rank 0 before
  sizing_start long = record { roots = refl; long = long; noted = λ right. sized_start A n rank before.sizes right.2 }

  pub sizing_over : (state : ℕ) (s : Kept) → (noted_at ranks.rank state ≡ Some rank → ⊥) → Sizing A n before ranks rank state s → Sizing A n before ranks rank (state + 1) s
  sizing_over state s other so =
      record {
        roots = so.roots;
        long = so.long;
        noted = λ right.
            let ranked = right.0 in
            sized_over A n rank state s.sizes (λ low r. other (rank_noted A n ranks.live ranks.rank ranked state rank ((ranked.live state).1 (low, (r.0.0, r.0.1))) r)) (so.noted right);
      }

  pub sizing_more : (state size : ℕ) (s : Kept) → state < 64 → noted_at ranks.rank state ≡ Some rank → MatchOption (noted_at s.roots state) (size ≡ 0) (λ e. size ≡ min (node_bytes A s.sizes state e) TOO_LONG) → Sizing A n before ranks rank state s → Sizing A n before ranks rank (state + 1) (record s { sizes = set s.sizes state size })
  sizing_more state size s low is counted so =
      record {
        roots = so.roots;
        long = length-set s.sizes state size ∙ so.long;
        noted = λ right.
            let ranked = right.0 in
            let r = noted_ranked A n ranks.live ranks.rank ranked state rank low is in
            let live = (ranked.live state).0 r.0 in
            let root = right.1 state live.0 live.1 in
            let count = MatchOption-at_some (size ≡ 0) (λ (e : Root). size ≡ min (node_bytes A s.sizes state e) TOO_LONG) root.0 (ap (λ xs. noted_at xs state) so.roots ∙ root.1) counted in
            let up = so.noted right in
            sized_more A n rank state size s.sizes (omega (arith, low, so.long))
            (λ t sample. count ∙ root_counted A s.sizes state rank n r.1 (λ q m t here l below s. up q m t here l (inl below) s) inside live.0 root.0 root.2 t sample)
            up;
      }

  -- with all states passed, the sizes are right of the states of the rank too
  pub sizing_end : (state : ℕ) (s : Kept) → 64 ≤ state → Sizing A n before ranks rank state s → SampledBelow A n rank ranks before → SampledBelow A n (rank + 1) ranks s
  sizing_end state s past so right =
      (right.0, subst (HasRoots A n) (sym so.roots) right.1, sized_end A n rank state s.sizes (omega (arith, few, past)) (so.noted right))

-- with the samples that are kept, each live state has what its sample begins with
pub kept_rooted : (A : Automaton) (n : ℕ) (s : Kept) → Sampled A n s → HaveRoots A n
kept_rooted A n s kept q low live = let root = kept.rooted q low live in (root.0.value, root.0.word, root.2.0, root.2.1)
