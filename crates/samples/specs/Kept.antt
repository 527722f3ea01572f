-- The samples of a schema's live states as they are kept: what each begins with, and how many bytes
-- it has. Assumes nothing.
use Rattle.std.specs.Prelude.{◌≡◌, ℕ, ◌+◌, ◌<◌, Bool, List, min, sum, map, length, Some, None, Option, slice_index, slice_index_or}
use Rattle.codec.specs.Encoding.{tree_bytes}
use Rattle.codec.specs.Numbers.{number_bytes}
use Rattle.codec.specs.Trees.{Tree}
use Rattle.domain.specs.Sets.{Smallest}
use Rattle.schema.specs.Automata.{Automaton}
use Rattle.schema.specs.Live.{Live, Rank, Ranked}
use Rattle.schema.specs.Meaning.{meaning, states_of}
use Rattle.schema.specs.declared.live.Ranks.{Ranks}
use Rattle.schema.specs.declared.tested.Tested.{Tested}
use Rattle.samples.specs.declared.node.Node.{Node}
use Rattle.samples.specs.declared.samples.Samples.{Samples}
use Rattle.samples.specs.declared.samples.TheConstants.{SAMPLE_SYMBOLS}
use Rattle.samples.specs.declared.size.TheConstants.{TOO_LONG}
use Rattle.samples.specs.Samples.{SampleSequence, Sample}

-- the bytes needed for a tree: TOO_LONG for anything longer
abbrev pub needed : Tree → ℕ
needed t = min (length (tree_bytes t)) TOO_LONG

-- what is noted at a number: none past the end
abbrev pub noted_at : {X : Type 0} → List (Option X) → ℕ → Option X
noted_at xs i = slice_index_or xs i None

-- the number that a list has for the state that is there
abbrev pub size_at : List ℕ → Option ℕ → ℕ
size_at sizes (Some s) = slice_index sizes s
size_at sizes None = 0

-- what the sample of a state begins with
abbrev pub Root : Type 0
Root = Node SAMPLE_SYMBOLS

module _ (A : Automaton) where
  -- it is the least value, and the sample's sequence
  abbrev pub RootOf : ℕ → Root → Type 0
  RootOf q s = Smallest (A.has q) (Some s.value) × SampleSequence A q s.word

  -- at each live state below n what its sample begins with is noted
  abbrev pub HasRoots : ℕ → List (Option Root) → Type 0
  HasRoots n roots = (q : ℕ) → q < n → Live A q → (s : Root) × (noted_at roots q ≡ Some s) × RootOf q s

  -- at each state below n of a rank below k the bytes needed for its sample are noted
  abbrev pub SizedBelow : ℕ → ℕ → List ℕ → Type 0
  SizedBelow n k sizes =
      (q m : ℕ) (t : Tree) → q < n → Rank A q m → m < k → Sample A q t → slice_index sizes q ≡ needed t

  -- of the live states below n: what each one's sample begins with, and the bytes needed for it
  pub record Sampled (n : ℕ) (s : Samples) : Type 0 where
    pub rooted : HasRoots n s.roots
    pub sized : (q : ℕ) (t : Tree) → q < n → Sample A q t → slice_index s.sizes q ≡ needed t

  -- on the way there: with these ranks of the states, the roots are right, and so are the sizes of
  -- the states of a rank below k
  abbrev pub SampledBelow : ℕ → ℕ → Ranks → Samples → Type 0
  SampledBelow n k ranks s = Ranked A n ranks.live ranks.rank × HasRoots n s.roots × SizedBelow n k s.sizes

  -- the bytes of a symbol, and those noted for the state that it leads to
  abbrev pub child_bytes : List ℕ → ℕ → ℕ → ℕ
  child_bytes sizes q a = length (number_bytes a) + size_at sizes (A.next q a)

  -- the bytes of the children under the symbols of a sequence
  abbrev pub bytes_below : List ℕ → ℕ → List ℕ → ℕ
  bytes_below sizes q w = sum (map (child_bytes sizes q) w)

  -- the bytes of a value and of a child count, and those of the children
  abbrev pub node_bytes : List ℕ → ℕ → Root → ℕ
  node_bytes sizes q s =
      length (number_bytes s.value) + length (number_bytes (length s.word)) + bytes_below sizes q s.word

module _ {D : Type 0} (holds : D → ℕ → Bool) (t : Tested D) where
  -- the samples are those of the schema's live states, where `holds` says which values a domain has
  abbrev pub HasSamples : Samples → Type 0
  HasSamples = Sampled (meaning holds t) (states_of t)

  -- the ranks are those of the schema's states
  abbrev pub RanksOf : Ranks → Type 0
  RanksOf ranks = Ranked (meaning holds t) (states_of t) ranks.live ranks.rank
