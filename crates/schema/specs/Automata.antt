-- Schema automata, and the trees that they accept. Assumes nothing.
use Rattle.std.specs.Prelude.{ℕ, Bool, true, false, ◌&&◌, List, [], ◌∷◌, Some, None, Option}
use Rattle.codec.specs.Trees.{Tree, node, Children, none, child, word}

-- next q a: the state under symbol a; step q r a: the row after row r; ends q r: a sequence may end
-- at row r; has q v: the domain of q has the value v
pub record Automaton : Type 0 where
  pub next : ℕ → ℕ → Option ℕ
  pub step : ℕ → ℕ → ℕ → Option ℕ
  pub ends : ℕ → ℕ → Bool
  pub has : ℕ → ℕ → Bool

-- what is there passes the test
abbrev pub passes : Option ℕ → (ℕ → Bool) → Bool
passes (Some x) test = test x
passes None test = false

-- something is there
abbrev pub present : Option ℕ → Bool
present (Some x) = true
present None = false

module _ (A : Automaton) where
  -- the sequence runs from row r of state q to a row where it may end
  abbrev pub row_runs : ℕ → ℕ → List ℕ → Bool
  row_runs q r [] = A.ends q r
  row_runs q r (a ∷ w) = passes (A.step q r a) (λ s. row_runs q s w)

  -- each symbol of the sequence has a next state
  abbrev pub has_next : ℕ → List ℕ → Bool
  has_next q [] = true
  has_next q (a ∷ w) = present (A.next q a) && has_next q w

  -- a sequence is allowed at q: it runs from the first row to a row where it may end, and each
  -- symbol has a next state
  abbrev pub allowed : ℕ → List ℕ → Bool
  allowed q w = row_runs q 0 w && has_next q w

  -- q accepts a tree: its domain has the root's value, the children's symbols are allowed, and each
  -- child is accepted by the next state under its symbol
  abbrev mutual
    pub accepts : ℕ → Tree → Bool
    accepts q (node v cs) = A.has q v && (allowed q (word cs) && accepts_all q cs)

    pub accepts_all : ℕ → Children → Bool
    accepts_all q none = true
    accepts_all q (child a t cs) = passes (A.next q a) (λ s. accepts s t) && accepts_all q cs
