-- Nodes bound to states: the law of acceptance in words that mention no search. Assumes nothing.
use Rattle.std.specs.Prelude.{◌≡◌, ℕ, true, ◌⊎◌, Some}
use Rattle.codec.specs.Trees.{Tree, node, Children, none, child, word}
use Rattle.schema.specs.Automata.{Automaton, allowed, accepts}

-- a state for each node of a tree
mutual
  pub data States : Type 0 where
    at : ℕ → StatesBelow → States

  pub data StatesBelow : Type 0 where
    leaf : StatesBelow
    beside : States → StatesBelow → StatesBelow

-- the state of the root
abbrev pub root : States → ℕ
root (at q bs) = q

-- some node is bound to the state
abbrev mutual
  pub Occurs : ℕ → States → Type 0
  Occurs q (at p bs) = (p ≡ q) ⊎ OccursBelow q bs

  pub OccursBelow : ℕ → StatesBelow → Type 0
  OccursBelow q leaf = ⊥
  OccursBelow q (beside b bs) = Occurs q b ⊎ OccursBelow q bs

module _ (A : Automaton) where
  -- each node's value is in its state's domain, its children's symbols are allowed there, and each
  -- child is bound to the next state under its symbol
  abbrev mutual
    pub Bound : Tree → States → Type 0
    Bound (node v cs) (at q bs) = (A.has q v ≡ true) × (allowed A q (word cs) ≡ true) × BoundAll q cs bs

    pub BoundAll : ℕ → Children → StatesBelow → Type 0
    BoundAll q none leaf = Unit {0}
    BoundAll q none (beside b bs) = ⊥
    BoundAll q (child a t cs) leaf = ⊥
    BoundAll q (child a t cs) (beside b bs) = (A.next q a ≡ Some (root b)) × Bound t b × BoundAll q cs bs

-- a state accepts a tree exactly when the nodes can be bound to states, the root to that one, and
-- then in one way only
pub record AcceptedIsBound : Type 0 where
  pub bound :
      (A : Automaton) (q : ℕ) (t : Tree) → accepts A q t ≡ true
      → (b : States) × (root b ≡ q) × Bound A t b
  pub accepted : (A : Automaton) (t : Tree) (b : States) → Bound A t b → accepts A (root b) t ≡ true
  pub one : (A : Automaton) (t : Tree) (b c : States) → root b ≡ root c → Bound A t b → Bound A t c → b ≡ c
