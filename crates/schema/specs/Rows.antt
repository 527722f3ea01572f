-- Sequences at a state over a set of symbols, and the rows that they lead to. Assumes nothing.
use Rattle.std.specs.Prelude.{◌≡◌, ℕ, ◌<◌, Bool, true, ◌⊎◌, List, [], ◌∷◌, ◌++◌, Some, None, Option}
use Rattle.std.specs.List.{AllByRecursion}
use Rattle.bits.specs.Bits.{bit}
use Rattle.schema.specs.Automata.{Automaton, row_runs}

-- what is there goes on
abbrev pub onward : Option ℕ → (ℕ → Option ℕ) → Option ℕ
onward (Some x) f = f x
onward None f = None

-- the numbers of a set, and those below 64 that an edge leads to from p
pub record AfterEdge (Edge : ℕ → ℕ → ℕ → Type 0) (p before after : ℕ) : Type 0 where
  pub kept : (i : ℕ) → bit before i ≡ true → bit after i ≡ true
  pub added : (a j : ℕ) → Edge p a j → j < 64 → bit after j ≡ true
  pub only : (i : ℕ) → bit after i ≡ true → (bit before i ≡ true) ⊎ ((a : ℕ) × Edge p a i)

module _ (A : Automaton) (q : ℕ) where
  -- the row that a sequence leads to from row r
  abbrev pub leads : ℕ → List ℕ → Option ℕ
  leads r [] = Some r
  leads r (a ∷ w) = onward (A.step q r a) (λ s. leads s w)

  module _ (set : ℕ → Bool) where
    -- a symbol of the set leads from row r to row s
    abbrev pub RowEdge : ℕ → ℕ → ℕ → Type 0
    RowEdge r a s = (set a ≡ true) × (A.step q r a ≡ Some s)

    -- some sequence over the set runs from row r to a row where it may end
    abbrev pub RunsOverFrom : ℕ → Type 0
    RunsOverFrom r = (w : List ℕ) × AllByRecursion (λ a. set a ≡ true) w × (row_runs A q r w ≡ true)

    -- some sequence over the set runs from the first row to a row where it may end
    abbrev pub RunsOver : Type 0
    RunsOver = RunsOverFrom 0

    -- some sequence over the set leads from row r to row s
    abbrev pub LeadsOver : ℕ → ℕ → Type 0
    LeadsOver r s = (w : List ℕ) × AllByRecursion (λ a. set a ≡ true) w × (leads r w ≡ Some s)

    -- some sequence over the set that holds the symbol runs from the first row to a row where it
    -- may end
    abbrev pub Held : ℕ → Type 0
    Held a =
        (u v : List ℕ) × AllByRecursion (λ b. set b ≡ true) (u ++ a ∷ v)
        × (row_runs A q 0 (u ++ a ∷ v) ≡ true)

    -- the rows of a set, and those that one symbol of the set leads to from row r
    abbrev pub After : ℕ → ℕ → ℕ → Type 0
    After = AfterEdge RowEdge

    -- exactly the rows that sequences over the set lead to from row r
    pub record RowsReachedFrom (r rows : ℕ) : Type 0 where
      pub start : bit rows r ≡ true
      pub closed : (i a j : ℕ) → bit rows i ≡ true → RowEdge i a j → bit rows j ≡ true
      pub only : (i : ℕ) → bit rows i ≡ true → LeadsOver r i

    -- exactly the rows that sequences over the set lead to from the first row
    abbrev pub RowsReached : ℕ → Type 0
    RowsReached = RowsReachedFrom 0
