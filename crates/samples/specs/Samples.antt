-- Samples: one small tree for each live state. Assumes nothing.
use Rattle.std.specs.Prelude.{◌≡◌, ℕ, ◌<◌, true, List, Some}
use Rattle.std.specs.List.{AllByRecursion}
use Rattle.codec.specs.Trees.{Tree, node, Children, none, child, word}
use Rattle.domain.specs.Sets.{Smallest}
use Rattle.schema.specs.Automata.{Automaton, allowed}
use Rattle.schema.specs.Live.{Rank}
use Rattle.search.specs.Sequences.{First}

module _ (A : Automaton) where
  -- the first state's rank is lower than the second's
  abbrev pub Lower : ℕ → ℕ → Type 0
  Lower s q = (m n : ℕ) × Rank A s m × Rank A q n × (m < n)

  -- the symbol leads to a state of lower rank
  abbrev pub LeadsLower : ℕ → ℕ → Type 0
  LeadsLower q a = (s : ℕ) × (A.next q a ≡ Some s) × Lower s q

  -- a sequence is allowed at q, and leads only to states of lower rank
  abbrev pub LowerSequence : ℕ → List ℕ → Type 0
  LowerSequence q w = (allowed A q w ≡ true) × AllByRecursion (LeadsLower q) w

  -- the sequence of the sample of q: a shortest one into states of lower rank, of equally short
  -- ones the first
  abbrev pub SampleSequence : ℕ → List ℕ → Type 0
  SampleSequence q w = First (LowerSequence q) w

  -- the tree is the sample of q: the least value, the sample's sequence, and each child the sample
  -- of its state
  abbrev mutual
    pub Sample : ℕ → Tree → Type 0
    Sample q (node v cs) = Smallest (A.has q) (Some v) × SampleSequence q (word cs) × Samples q cs

    -- each of the children is the sample of the state under its symbol
    pub Samples : ℕ → Children → Type 0
    Samples q none = Unit {0}
    Samples q (child a t cs) = ((s : ℕ) × (A.next q a ≡ Some s) × Sample s t) × Samples q cs
