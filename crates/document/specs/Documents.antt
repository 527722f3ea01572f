-- Documents: the tree that tells two automata apart, built along the trail to a broken pair.
-- Assumes nothing.
use Rattle.std.specs.Prelude.{◌≡◌, ℕ, ◌^◌, ◌<◌, true, false, ◌⊎◌, List, [], ◌∷◌, Some}
use Rattle.std.specs.List.{slice_get}
use Rattle.codec.specs.Trees.{Tree, node, Children, none, child, word}
use Rattle.domain.specs.Sets.{Smallest, alone}
use Rattle.schema.specs.Automata.{Automaton, allowed, accepts}
use Rattle.schema.specs.Live.{Live, LiveSequence}
use Rattle.search.specs.Paths.{Path, word_of}
use Rattle.search.specs.Sequences.{First}
use Rattle.search.specs.Watching.{Holds}
use Rattle.compare.specs.declared.pairs.Listed.{Listed}
use Rattle.compare.specs.declared.phase.Kind.{Kind}
use Rattle.compare.specs.declared.phase.Kind.TheVariants.{Value, Content}
use Rattle.compare.specs.Breaking.{Broken}
use Rattle.compare.specs.Invariant.{Reached}
use Rattle.compare.specs.Listing.{pair_links}
use Rattle.compare.specs.Pairs.{start}
use Rattle.samples.specs.Samples.{SampleSequence, Samples}

-- the path from the first entry to entry i: the entries on it but for the first, in order
abbrev pub PairPath : List Listed → ℕ → List Listed → Type 0
PairPath = Path pair_links

-- the symbols of a path
abbrev pub path_word : List Listed → List ℕ
path_word = word_of pair_links

module _ (A B : Automaton) where
  -- the value and the children's symbols at the end, a pair broken in value or in content: the
  -- smallest value in the first state's domain alone, with the sequence of the state's sample; or
  -- the least value, with a shortest live sequence that the second state does not allow, of equally
  -- short ones the first
  abbrev pub AtEnd : Kind → ℕ → ℕ → ℕ → List ℕ → Type 0
  AtEnd Value p q v w = Smallest (alone (A.has p) (B.has q)) (Some v) × SampleSequence A p w
  AtEnd Content p q v w =
      Smallest (A.has p) (Some v) × First (λ u. LiveSequence A p u × (allowed B q u ≡ false)) w

  -- the value and the children's symbols at a node before the end: the least value, and a shortest
  -- live sequence that holds the symbol by which the path goes on, of equally short ones the first
  abbrev pub OnPath : ℕ → ℕ → ℕ → List ℕ → Type 0
  OnPath p a v w = Smallest (A.has p) (Some v) × First (λ u. LiveSequence A p u × Holds a u) w

  -- the symbol leads the two states to those of the listed pair
  abbrev pub LeadsTo : ℕ → ℕ → Listed → Type 0
  LeadsTo p q e = (A.next p e.symbol ≡ Some e.first) × (B.next q e.symbol ≡ Some e.second)

  -- the tree is built along a path that leaves the pair (p, q): its listed pairs are led to by
  -- their symbols; the first child under the next symbol goes on along the path, and all other
  -- children are samples
  abbrev mutual
    pub Built : Kind → ℕ → ℕ → List Listed → Tree → Type 0
    Built k p q [] (node v cs) = AtEnd k p q v (word cs) × Samples A p cs
    Built k p q (e ∷ path) (node v cs) =
        OnPath p e.symbol v (word cs) × LeadsTo p q e × HoldsPart k p e path cs

    -- the first child under the symbol goes on
    pub HoldsPart : Kind → ℕ → Listed → List Listed → Children → Type 0
    HoldsPart k p e path none = ⊥
    HoldsPart k p e path (child a t cs) =
        ((a ≡ e.symbol) × Built k e.first e.second path t × Samples A p cs)
        ⊎ ((a ≡ e.symbol → ⊥) × Samples A p (child a t none) × HoldsPart k p e path cs)

  -- the document of a list of pairs, for entry i broken in a kind: it is built along the path from
  -- the first entry, which is the pair (0, 0)
  pub record DocumentOf (k : Kind) (es : List Listed) (i : ℕ) (path : List Listed) (t : Tree) : Type 0 where
    pub first : Listed
    pub listed : slice_get es 0 ≡ Some first
    pub starts : (first.first ≡ 0) × (first.second ≡ 0)
    pub leads : PairPath es i path
    pub built : Built k 0 0 path t

-- a document is accepted by the first automaton, and not by the second
unfoldable pub TellsApart : Type 0
TellsApart =
    (A B : Automaton) (k : Kind) (es : List Listed) (i : ℕ) (path : List Listed) (t : Tree)
    → DocumentOf A B k es i path t
    → (accepts A 0 t ≡ true) × (accepts B 0 t ≡ false)

-- there is one document and one path to it at most
unfoldable pub OneDocument : Type 0
OneDocument =
    (A B : Automaton) (k : Kind) (es : List Listed) (i : ℕ) (v w : List Listed) (t u : Tree)
    → DocumentOf A B k es i v t → DocumentOf A B k es i w u → (v ≡ w) × (t ≡ u)

-- where (0, 0) is listed first, its first state is live, and each listed pair is reached by live
-- symbols, a broken pair has a document: it can't be that there is none. Values are numbers below 2
-- ^ 32
unfoldable pub HasDocument : Type 0
HasDocument =
    (A B : Automaton) (k : Kind) (es : List Listed) (i : ℕ) (x : Listed)
    → ((q v : ℕ) → A.has q v ≡ true → v < 2 ^ 32) → Live A 0 → slice_get es 0 ≡ Some start → Reached A B es
    → slice_get es i ≡ Some x → Broken A B k x.first x.second
    → ((path : List Listed) (t : Tree) → DocumentOf A B k es i path t → ⊥) → ⊥
