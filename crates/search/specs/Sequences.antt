-- Sequences of symbols that are sought at a state, which of two comes first, and the first of those
-- that are sought. Assumes nothing.
use Rattle.std.specs.Prelude.{◌≡◌, ℕ, ◌<◌, ◌⊎◌, Bool, true, List, [], ◌∷◌, length}
use Rattle.std.specs.List.{AllByRecursion}
use Rattle.schema.specs.Automata.{Automaton, row_runs}
use Rattle.search.specs.Watching.{Watching, wanted}

-- at the first position where the two differ, w has the smaller symbol
abbrev pub Precedes : List ℕ → List ℕ → Type 0
Precedes [] v = ⊥
Precedes (a ∷ w) [] = ⊥
Precedes (a ∷ w) (b ∷ v) = (a < b) ⊎ ((a ≡ b) × Precedes w v)

-- w is shorter than v, or as long, and is v or precedes it
abbrev pub NoLater : List ℕ → List ℕ → Type 0
NoLater w v = (length w < length v) ⊎ ((length w ≡ length v) × ((w ≡ v) ⊎ Precedes w v))

-- w is the first of the sequences with P: it is no longer than any other, and precedes those that
-- are as long
pub record First (P : List ℕ → Type 0) (w : List ℕ) : Type 0 where
  pub passes : P w
  pub least : (v : List ℕ) → P v → NoLater w v

-- of the sequences with P no more than one is the first
abbrev pub OneFirst : (List ℕ → Type 0) → Type 0
OneFirst P = (w v : List ℕ) → First P w → First P v → w ≡ v

module _ (A : Automaton) (q : ℕ) (set : ℕ → Bool) (W : Watching) where
  -- a sequence is sought: its symbols are in the set, it runs from the first row to a row where it
  -- may end, and the watcher wants it
  pub record Sought (w : List ℕ) : Type 0 where
    pub over : AllByRecursion (λ a. set a ≡ true) w
    pub runs : row_runs A q 0 w ≡ true
    pub wants : wanted W w ≡ true

  -- sought, and no later than any sequence that is sought
  abbrev pub Shortest : List ℕ → Type 0
  Shortest = First Sought

-- whatever is asked, no more than one sequence is the shortest
abbrev pub OneShortest : Type 0
OneShortest = (A : Automaton) (q : ℕ) (set : ℕ → Bool) (W : Watching) → OneFirst (Sought A q set W)
