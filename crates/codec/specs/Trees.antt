-- Finite trees: a value at each node, and children in order, each under a symbol. Assumes nothing.
use Rattle.std.specs.Prelude.{ℕ, suc, ◌+◌, max, List, [], ◌∷◌}

-- a tree is a node with its value and its children, and children come one after the other, each
-- with its symbol
mutual
  pub data Tree : Type 0 where
    node : ℕ → Children → Tree

  pub data Children : Type 0 where
    none : Children
    child : ℕ → Tree → Children → Children

-- the symbols of the children, in order
abbrev pub word : Children → List ℕ
word none = []
word (child a t cs) = a ∷ word cs

-- how many children there are
abbrev pub many : Children → ℕ
many none = 0
many (child a t cs) = suc (many cs)

-- a single node has height 0
abbrev mutual
  pub height : Tree → ℕ
  height (node v cs) = heights cs

  pub heights : Children → ℕ
  heights none = 0
  heights (child a t cs) = max (height t + 1) (heights cs)
