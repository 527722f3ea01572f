-- Ranks are below the number of states, since below each rank every lower one is some state's; so samples are low. Assumes nothing.
use Rattle.std.proofs.Common.{◌≡◌, ℕ, zero, suc, ◌<◌, ◌≤◌, ◌⊎◌, true, false, eqb, List, [], ◌∷◌, length, Some, sym, refl, ap, subst, inl, inr, ⊎_elim, arith}
use Rattle.std.specs.List.{AllByRecursion, IsDistinct, list_any}
use Rattle.std.proofs.lemmas.Bool.{and_parts, and_from, cases_eq, eqb-true, false≢true, ne_eqb, or_cases}
use Rattle.std.proofs.lemmas.Map.Steps.{length-le_from_distinct_below}
use Rattle.codec.specs.Trees.{Tree, node, Children, none, child, word, height, heights}
use Rattle.schema.specs.Automata.{Automaton, passes, allowed, accepts, accepts_all}
use Rattle.schema.specs.Live.{Live, Rank}
use Rattle.schema.proofs.Bound.{passed}
use Rattle.samples.specs.Samples.{Sample, Samples}
use Rattle.samples.proofs.Accepting.{sample_accepted}
use Rattle.samples.proofs.Growing.{Inside, HaveRoots, one_rank, sample_low, sample_rank}

module _ (A : Automaton) (n : ℕ) (inside : Inside A n) (rooted : HaveRoots A n) where
  -- each live state has a rank
  pub rank_of : (q : ℕ) → q < n → Live A q → (m : ℕ) × Rank A q m
  rank_of q low live =
      let root = rooted q low live in
      sample_rank A q root.0 root.1 root.2.passes root.3

  -- a state of the rank
  abbrev OfRank : ℕ → Type 0
  OfRank k = (s : ℕ) × (s < n) × Rank A s k

  -- other children for the same symbols, no higher than k
  abbrev Lowered : ℕ → ℕ → List ℕ → Type 0
  Lowered q k w = (cs : Children) × (word cs ≡ w) × (accepts_all A q cs ≡ true) × (heights cs ≤ k)

  lowered : (q k a s : ℕ) (w : List ℕ) → A.next q a ≡ Some s → (m : ℕ) → Rank A s m → m < k → Lowered q k w → Lowered q k (a ∷ w)
  lowered q k a s w is m r low rest =
      let t = r.0.0 in (
        child a t rest.0,
        ap (λ (v : List ℕ). a ∷ v) rest.1,
        and_from _ _ (subst (λ o. passes o (λ p. accepts A p t) ≡ true) (sym is) r.0.1) rest.2,
        omega (arith, r.0.2, low, rest.3),
      )

  -- one of the children is of a state of rank k, or all can be made lower
  look : (q k : ℕ) → q < n → (cs : Children) → accepts_all A q cs ≡ true → heights cs ≤ suc k → OfRank k ⊎ Lowered q k (word cs)
  look q k low none all high = inr (none, refl, refl, omega arith)
  look q k low (child a t cs) all high =
      let parts = and_parts (passes (A.next q a) (λ s. accepts A s t)) _ all in
      let next = passed (A.next q a) (λ s. accepts A s t) parts.0 in
      let s = inside q a next.0 low next.1 in
      let r = rank_of next.0 s (t, next.2) in
      let least : r.0 ≤ height t = r.1.1 t next.2 in
      let there : height t ≤ k = omega (arith, high) in
      ⊎_elim
      (λ same. inl (next.0, s, subst (Rank A next.0) same r.1))
      (λ other.
      ⊎_elim
      inl
      (λ rest. let under : r.0 < k = omega (arith, least, there, other) in inr (lowered q k a next.0 (word cs) next.1 r.0 r.1 under rest))
      (look q k low cs parts.1 (omega (arith, high))))
      (cases_eq r.0 k)

  -- below a rank there is a state of one rank less
  one_less : (q k : ℕ) → q < n → Rank A q (suc k) → OfRank k
  one_less q k low r = by r.0.0 r.0.1 r.0.2
    where
      by : (t : Tree) → accepts A q t ≡ true → height t ≡ suc k → OfRank k
      by (node v cs) accepted high =
          let value = and_parts (A.has q v) _ accepted in
          let content = and_parts (allowed A q (word cs)) _ value.1 in
          ⊎_elim
          (λ s. s)
          (λ c. absurd (omega (arith, c.3, r.1 (node v c.0) (and_from _ _ value.0 (and_from _ _ (subst (λ (w : List ℕ). allowed A q w ≡ true) (sym c.1) content.0) c.2)))))
          (look q k low cs content.1 (omega (arith, high)))

  -- states of the ranks from k down to 0, one of each
  record Ladder (k : ℕ) : Type 0 where
    states : List ℕ
    long : length states ≡ suc k
    ranked : AllByRecursion (λ x. (x < n) × ((l : ℕ) × (l ≤ k) × Rank A x l)) states
    distinct : IsDistinct eqb states

  higher : (k : ℕ) (xs : List ℕ) → AllByRecursion (λ x. (x < n) × ((l : ℕ) × (l ≤ k) × Rank A x l)) xs → AllByRecursion (λ x. (x < n) × ((l : ℕ) × (l ≤ suc k) × Rank A x l)) xs
  higher k [] h = tt
  higher k (x ∷ xs) h = ((h.0.0, (h.0.1.0, omega (arith, h.0.1.1), h.0.1.2)), higher k xs h.1)

  apart : (q k : ℕ) → Rank A q (suc k) → (xs : List ℕ) → AllByRecursion (λ x. (x < n) × ((l : ℕ) × (l ≤ k) × Rank A x l)) xs → AllByRecursion (λ y. eqb q y ≡ false) xs
  apart q k r [] h = tt
  apart q k r (x ∷ xs) h = (ne_eqb q x (λ same. omega (arith, h.0.1.1, one_rank A x (suc k) h.0.1.0 (subst (λ (s : ℕ). Rank A s (suc k)) same r) h.0.1.2)), apart q k r xs h.1)

  ladder : (k q : ℕ) → q < n → Rank A q k → Ladder k
  unfolding IsDistinct
  ladder zero q low r = record { states = q ∷ []; long = refl; ranked = ((low, (0, omega arith, r)), tt); distinct = (tt, tt) }
  ladder (suc k) q low r =
      let s = one_less q k low r in
      let rest = ladder k s.0 s.1 s.2 in
      record {
        states = q ∷ rest.states;
        long = omega (arith, rest.long);
        ranked = ((low, (suc k, omega arith, r)), higher k rest.states rest.ranked);
        distinct = (apart q k r rest.states rest.ranked, rest.distinct);
      }

  below : (k : ℕ) (xs : List ℕ) → AllByRecursion (λ x. (x < n) × ((l : ℕ) × (l ≤ k) × Rank A x l)) xs → (q : ℕ) → list_any (eqb q) xs ≡ true → q < n
  below k [] h q any = absurd (false≢true any)
  below k (x ∷ xs) h q any = ⊎_elim (λ same. omega (arith, h.0.0, eqb-true q x same)) (below k xs h.1 q) (or_cases (eqb q x) _ any)

  -- a rank is below the number of states
  pub rank_below : (q m : ℕ) → q < n → Rank A q m → m < n
  rank_below q m low r =
      let l = ladder m q low r in
      omega (arith, l.long, length-le_from_distinct_below l.states n l.distinct (below m l.states l.ranked))

  -- and so is the height of a sample
  pub sample_height : (q : ℕ) (t : Tree) → q < n → Sample A q t → height t < n
  sample_height q t low s =
      let r = rank_of q low (t, sample_accepted A q t s) in
      omega (arith, sample_low A q r.0 t r.1 s, rank_below q r.0 low r.1)

  -- children that are samples are no higher than there are states
  pub samples_height : (p : ℕ) (cs : Children) → p < n → Samples A p cs → heights cs ≤ n
  samples_height p none low s = omega arith
  samples_height p (child a t cs) low s = omega (arith, sample_height s.0.0 t (inside p a s.0.0 low s.0.1) s.0.2, samples_height p cs low s.1)
