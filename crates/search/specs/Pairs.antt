-- Pairs on the pile: how they are linked, what a symbol leads to, and what a search finds. Assumes
-- nothing.
use Rattle.std.specs.Prelude.{ℕ, ◌*◌, ◌<◌, Bool, cond, ◌&&◌, List, length, Some, None, Option}
use Rattle.std.specs.Option.{option_map}
use Rattle.schema.specs.declared.faults.TheConstants.{STATE_ROWS}
use Rattle.schema.specs.Automata.{Automaton}
use Rattle.search.specs.declared.pairs.RowPair.{RowPair}
use Rattle.search.specs.Paths.{Links, Spells}
use Rattle.search.specs.Sequences.{Sought, Shortest}
use Rattle.search.specs.Watching.{Watching}

-- how the pairs on the pile are linked
abbrev pub row_links : Links RowPair
row_links = record { parent = λ p. p.parent; symbol = λ p. p.symbol }

-- the pair of the first row and the watcher's start, at the bottom
abbrev pub first_row_pair : Watching → RowPair
first_row_pair W = record { row = 0; watch = W.start; symbol = 0; parent = 0 }

-- a sequence that leads to the pair is sought
abbrev pub goal : Automaton → ℕ → Watching → RowPair → Bool
goal A q W p = A.ends q p.row && W.wants p.watch

module _ (A : Automaton) (q : ℕ) (set : ℕ → Bool) (W : Watching) where
  -- the pair that a symbol of the set leads to from a pair, which is entry i
  abbrev pub next_row_pair : RowPair → ℕ → ℕ → Option RowPair
  next_row_pair p a i =
      option_map (λ r. record { row = r; watch = W.after p.watch a; symbol = a; parent = i })
      (cond (set a) (A.step q p.row a) None)

  -- the sequence of an entry is the shortest that is sought; it has fewer symbols than there are
  -- pairs of a row and a state of the watcher, of which there are so many
  pub record ShortestEndsAt (states : ℕ) (es : List RowPair) (i : ℕ) : Type 0 where
    pub inside : i < length es
    pub sequence : List ℕ
    pub spelled : Spells row_links es i sequence
    pub shortest : Shortest A q set W sequence
    pub few : length sequence < STATE_ROWS * states

  -- what a search finds: an entry that the shortest sequence ends at, or none where no sequence is
  -- sought
  abbrev pub Finds : ℕ → List RowPair → Option ℕ → Type 0
  Finds states es (Some i) = ShortestEndsAt states es i
  Finds states es None = (w : List ℕ) → Sought A q set W w → ⊥
