-- Where each live state has what its sample begins with, it has its sample, and each live sequence has children that are samples. Assumes
-- nothing.
use Rattle.std.proofs.Common.{◌≡◌, ℕ, zero, suc, ◌<◌, ◌≤◌, true, List, [], ◌∷◌, Some, sym, refl, ap, ◌∙◌, subst, arith}
use Rattle.std.specs.List.{AllByRecursion}
use Rattle.std.proofs.lemmas.Bool.{and_from}
use Rattle.std.proofs.lemmas.Option.{same_Some}
use Rattle.codec.specs.Trees.{Tree, node, Children, none, child, word, height, heights}
use Rattle.domain.specs.Sets.{Smallest}
use Rattle.schema.specs.Automata.{Automaton}
use Rattle.schema.specs.Live.{Live, LiveSequence, Rank}
use Rattle.samples.specs.Samples.{LeadsLower, SampleSequence, Sample, Samples}
use Rattle.samples.proofs.Accepting.{sample_accepted}

module _ (A : Automaton) where
  -- each live state below n has a least value and a sample's sequence
  abbrev pub HaveRoots : ℕ → Type 0
  HaveRoots n = (q : ℕ) → q < n → Live A q → (v : ℕ) × (w : List ℕ) × Smallest (A.has q) (Some v) × SampleSequence A q w

  -- no symbol leads out of the states below n
  abbrev pub Inside : ℕ → Type 0
  Inside n = (q a s : ℕ) → q < n → A.next q a ≡ Some s → s < n

  -- the symbol leads to a live state
  abbrev pub LeadsLive : ℕ → ℕ → Type 0
  LeadsLive p a = (s : ℕ) × (A.next p a ≡ Some s) × Live A s

  -- the symbol leads to a state that has a sample
  abbrev pub LeadsSampled : ℕ → ℕ → Type 0
  LeadsSampled p a = (s : ℕ) × (A.next p a ≡ Some s) × ((t : Tree) × Sample A s t)

  -- children for a sequence, all of them samples
  abbrev pub SampledChildren : ℕ → List ℕ → Type 0
  SampledChildren p w = (cs : Children) × (word cs ≡ w) × Samples A p cs

  pub gather : (p : ℕ) (w : List ℕ) → AllByRecursion (LeadsSampled p) w → SampledChildren p w
  gather p [] all = (none, refl, tt)
  gather p (a ∷ w) all =
      let rest = gather p w all.1 in
      (child a all.0.2.0 rest.0, ap (λ (u : List ℕ). a ∷ u) rest.1, ((all.0.0, all.0.1, all.0.2.1), rest.2))

  -- a state with a sample is live
  pub sample_live : (q : ℕ) (t : Tree) → Sample A q t → Live A q
  sample_live q t s = (t, sample_accepted A q t s)

  -- a state has one rank at most
  pub one_rank : (q m n : ℕ) → Rank A q m → Rank A q n → m ≡ n
  one_rank q m n r s = omega (arith, r.0.2, s.0.2, r.1 s.0.0 s.0.1, s.1 r.0.0 r.0.1)

  -- a state with a sample's sequence and a value has a rank: without children it is 0, and with some it is said of the first one's state
  pub sample_rank : (q v : ℕ) (w : List ℕ) → A.has q v ≡ true → SampleSequence A q w → (m : ℕ) × Rank A q m
  sample_rank q v [] has s = (0, ((node v none, and_from _ _ has (and_from _ _ s.passes.0 refl), refl), λ t h. omega arith))
  sample_rank q v (a ∷ w) has s = let lower = s.passes.1.0.2 in (lower.1, lower.3)

  mutual
    -- a sample is no higher than its state's rank
    pub sample_low : (q m : ℕ) (t : Tree) → Rank A q m → Sample A q t → height t ≤ m
    sample_low q m (node v cs) r s = samples_low q m cs r s.1.passes.1 s.2

    samples_low : (q m : ℕ) (cs : Children) → Rank A q m → AllByRecursion (LeadsLower A q) (word cs) → Samples A q cs → heights cs ≤ m
    samples_low q m none r lower s = omega arith
    samples_low q m (child a t cs) r lower s =
        let low = lower.0.2 in
        let same : lower.0.0 ≡ s.0.0 = same_Some _ _ (sym lower.0.1 ∙ s.0.1) in
        let first = sample_low s.0.0 low.0 t (subst (λ (p : ℕ). Rank A p low.0) same low.2) s.0.2 in
        omega (arith, first, low.4, one_rank q low.1 m low.3 r, samples_low q m cs r lower.1 s.1)

module _ (A : Automaton) (n : ℕ) (inside : Inside A n) (rooted : HaveRoots A n) where
  sample_with : (q v : ℕ) (w : List ℕ) → Smallest (A.has q) (Some v) → SampleSequence A q w → SampledChildren A q w → (t : Tree) × Sample A q t
  sample_with q v w least sequence cs = (node v cs.0, (least, subst (SampleSequence A q) (sym cs.1) sequence, cs.2))

  -- the sample of a state of a rank below k
  ranked_sample : (k q m : ℕ) → q < n → Rank A q m → m < k → (t : Tree) × Sample A q t
  ranked_sample zero q m low r below = absurd (omega (arith, below))
  ranked_sample (suc k) q m low r below =
      let root = rooted q low (r.0.0, r.0.1) in
      sample_with q root.0 root.1 root.2 root.3 (gather A q root.1 (all (ranked_sample k) root.1 root.3.passes.1))
    where
      all : ((s l : ℕ) → s < n → Rank A s l → l < k → (t : Tree) × Sample A s t) → (w : List ℕ) → AllByRecursion (LeadsLower A q) w → AllByRecursion (LeadsSampled A q) w
      all tree [] h = tt
      all tree (a ∷ w) h =
          let lower = h.0.2 in
          let fewer : lower.0 < k = omega (arith, lower.4, one_rank A q lower.1 m lower.3 r, below) in
          ((h.0.0, h.0.1, tree h.0.0 lower.0 (inside q a h.0.0 low h.0.1) lower.2 fewer), all tree w h.1)

  -- each live state has its sample
  pub sample_of : (q : ℕ) → q < n → Live A q → (t : Tree) × Sample A q t
  sample_of q low live =
      let root = rooted q low live in
      let r = sample_rank A q root.0 root.1 root.2.passes root.3 in
      ranked_sample (suc r.0) q r.0 low r.1 (omega arith)

  -- each sequence into live states has children that are samples
  pub sampled_children : (p : ℕ) (w : List ℕ) → p < n → AllByRecursion (LeadsLive A p) w → SampledChildren A p w
  sampled_children p w low all = gather A p w (by w all)
    where
      by : (w : List ℕ) → AllByRecursion (LeadsLive A p) w → AllByRecursion (LeadsSampled A p) w
      by [] h = tt
      by (a ∷ w) h = ((h.0.0, h.0.1, sample_of h.0.0 (inside p a h.0.0 low h.0.1) h.0.2), by w h.1)

  -- and so has each live sequence
  pub live_children : (p : ℕ) (w : List ℕ) → p < n → LiveSequence A p w → SampledChildren A p w
  live_children p w low live = sampled_children p w low live.1

  -- and a sample's sequence
  pub sample_children : (p : ℕ) (w : List ℕ) → p < n → SampleSequence A p w → SampledChildren A p w
  sample_children p w low s = sampled_children p w low (by w s.passes.1)
    where
      by : (w : List ℕ) → AllByRecursion (LeadsLower A p) w → AllByRecursion (LeadsLive A p) w
      by [] h = tt
      by (a ∷ w) h = let tree = h.0.2.2.0 in ((h.0.0, h.0.1, (tree.0, tree.1)), by w h.1)
