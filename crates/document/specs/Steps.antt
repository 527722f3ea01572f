-- Going from a broken pair back along the pairs that led to it: the node of each step, and what is
-- left of the path. Assumes nothing.
use Rattle.std.specs.Prelude.{◌≡◌, ℕ, ◌<◌, ◌≤◌, List, [], ◌∷◌, ◌++◌, length, map, Some, None, Option}
use Rattle.std.specs.List.{slice_get}
use Rattle.codec.specs.declared.item.Level.{Level}
use Rattle.codec.specs.Encoding.{tree_bytes}
use Rattle.codec.specs.Trees.{Tree, word}
use Rattle.schema.specs.Automata.{Automaton}
use Rattle.samples.specs.declared.node.NodeKey.{NodeKey}
use Rattle.samples.specs.declared.node.NodeKey.TheVariants.{Pair}
use Rattle.samples.specs.Kept.{needed}
use Rattle.compare.specs.declared.pairs.Listed.{Listed}
use Rattle.compare.specs.declared.phase.Kind.{Kind}
use Rattle.document.specs.declared.trace.Step.{Step}
use Rattle.document.specs.Documents.{Built, DocumentOf}
use Rattle.document.specs.Contexts.{Context, context_bytes, bytes_before, bytes_after}

-- the listed pair at i is led to by the listed pair x
pub record LedFrom (es : List Listed) (i : ℕ) (e x : Listed) : Type 0 where
  pub there : slice_get es i ≡ Some e
  pub before : e.parent < i
  pub parent : slice_get es e.parent ≡ Some x

-- a step of a path: the place of a pair, the pair, the one that led to it, and the node there from
-- which the path goes on
pub record PathStep (A B : Automaton) (es : List Listed) : Type 0 where
  pub place : ℕ
  pub pair : Listed
  pub from : Listed
  pub led : LedFrom es place pair from
  pub context : Context A B from.first from.second pair

module _ {A B : Automaton} {es : List Listed} where
  -- the level of a step's pair: how many children its node has after the one that goes on, and the
  -- pair's place
  abbrev pub path_level : PathStep A B es → Level NodeKey
  path_level s = record { left = length (word s.context.after); at = Pair s.place }

  -- the levels of the steps' pairs
  abbrev pub levels_of : List (PathStep A B es) → List (Level NodeKey)
  levels_of steps = map path_level steps

  -- the bytes of a step's node before the tree that the path goes on to, and after it
  abbrev pub step_before : PathStep A B es → List ℕ
  step_before s = bytes_before A B s.context

  abbrev pub step_after : PathStep A B es → List ℕ
  step_after s = bytes_after A B s.context

  -- the bytes before the tree that the path goes on to, where these are the steps from its last one
  -- back
  abbrev pub all_before : List (PathStep A B es) → List ℕ
  all_before [] = []
  all_before (s ∷ steps) = all_before steps ++ step_before s

  -- and those after it
  abbrev pub all_after : List (PathStep A B es) → List ℕ
  all_after [] = []
  all_after (s ∷ steps) = step_after s ++ all_after steps

module _ (A B : Automaton) (es : List Listed) where
  -- one step back from the pair at i: where it comes to, how many children the node there has after
  -- the one that goes on, and its bytes but for that child's tree; none, where no node goes on so
  abbrev pub StepsBack : ℕ → Option Step → Type 0
  StepsBack i (Some s) =
      (p : PathStep A B es) × (path_level p ≡ record { left = s.left; at = Pair i }) × (s.at ≡ p.pair.parent)
      × (s.size ≡ context_bytes A B p.context)
  StepsBack i None = (e x : Listed) → LedFrom es i e x → Context A B x.first x.second e → ⊥

  -- the bytes needed for the tree that is built from the pair at i on, which is broken in a kind;
  -- none, where there is no such tree
  abbrev pub EndBytes : Kind → ℕ → Option ℕ → Type 0
  EndBytes k i (Some size) =
      (x : Listed) × (t : Tree) × (slice_get es i ≡ Some x) × Built A B k x.first x.second [] t
      × (size ≡ needed t)
  EndBytes k i None =
      (x : Listed) (t : Tree) → slice_get es i ≡ Some x → Built A B k x.first x.second [] t → ⊥

  -- what is found of the pair at i, which is broken in a kind: the document, the bytes needed for
  -- it, and the levels of the path to it, its last pair at the bottom; and how the document's bytes
  -- are parted by the path
  pub record Traced (k : Kind) (i size : ℕ) (levels : List (Level NodeKey)) : Type 0 where
    pub path : List Listed
    pub tree : Tree
    pub document : DocumentOf A B k es i path tree
    pub bytes : size ≡ needed tree
    pub steps : List (PathStep A B es)
    pub few : length steps ≤ i
    pub marked : levels ≡ levels_of steps
    pub last : Listed
    pub listed : slice_get es i ≡ Some last
    pub part : Tree
    pub ends : Built A B k last.first last.second [] part
    pub parted : tree_bytes tree ≡ all_before steps ++ (tree_bytes part ++ all_after steps)

  -- or there is no document
  abbrev pub TracesBack : Kind → ℕ → Option ℕ → List (Level NodeKey) → Type 0
  TracesBack k i (Some size) levels = Traced k i size levels
  TracesBack k i None levels = (path : List Listed) (t : Tree) → DocumentOf A B k es i path t → ⊥
