-- What is asked: a state of a schema, the symbols that may be used there, and a watcher. Assumes
-- nothing.
use Rattle.std.specs.Prelude.{ℕ, Bool, List, Some, None, Option}
use Rattle.bits.specs.Bits.{bit}
use Rattle.schema.specs.Automata.{Automaton}
use Rattle.schema.specs.Meaning.{meaning}
use Rattle.search.specs.declared.pairs.RowPair.{RowPair}
use Rattle.search.specs.declared.search.Question.{Question}
use Rattle.search.specs.Pairs.{first_row_pair, next_row_pair, goal, Finds}
use Rattle.search.specs.Sequences.{Sought, Shortest}
use Rattle.search.specs.Watching.{Watching}

-- the pair at the bottom, where `watching` says what machine a watcher is
abbrev pub first_pair_of : {D W : Type 0} → (W → Watching) → Question D W → RowPair
first_pair_of watching s = first_row_pair (watching s.watcher.now)

-- the automaton of the schema, where `holds` says which values a domain has
abbrev pub automaton_asked : {D W : Type 0} → (D → ℕ → Bool) → Question D W → Automaton
automaton_asked holds s = meaning holds s.tested.now

module _ {D W : Type 0} (holds : D → ℕ → Bool) (watching : W → Watching) (s : Question D W) where
  -- the pair that a symbol of the set leads to from a pair, which is entry i
  abbrev pub next_pair_of : RowPair → ℕ → ℕ → Option RowPair
  next_pair_of = next_row_pair (automaton_asked holds s) s.state (bit s.symbols) (watching s.watcher.now)

  -- a sequence that leads to the pair is sought
  abbrev pub is_goal_of : RowPair → Bool
  is_goal_of = goal (automaton_asked holds s) s.state (watching s.watcher.now)

  -- the shortest sequence that is sought, or none where none is
  abbrev pub ShortestOf : Option (List ℕ) → Type 0
  ShortestOf (Some w) = Shortest (automaton_asked holds s) s.state (bit s.symbols) (watching s.watcher.now) w
  ShortestOf None =
      (w : List ℕ) → Sought (automaton_asked holds s) s.state (bit s.symbols) (watching s.watcher.now) w
      → ⊥

  -- what a search for it finds, where the watcher has so many states
  abbrev pub Answers : ℕ → List RowPair → Option ℕ → Type 0
  Answers = Finds (automaton_asked holds s) s.state (bit s.symbols) (watching s.watcher.now)
