-- Permitted symbols: a schema as if the others had no next state, and trees that hold no other.
-- Assumes nothing.
use Rattle.std.specs.Prelude.{ℕ, Bool, true, cond, ◌&&◌, None}
use Rattle.codec.specs.Trees.{Tree, node, Children, none, child}
use Rattle.bits.specs.Bits.{bit}
use Rattle.schema.specs.declared.tables.Schema.{Schema}
use Rattle.schema.specs.Automata.{Automaton}
use Rattle.schema.specs.Tables.{automaton_of}

module _ (permitted : ℕ → Bool) where
  -- the automaton in which only permitted symbols have a next state
  abbrev pub permit : Automaton → Automaton
  permit A = record A { next = λ q a. cond (permitted a) (A.next q a) None }

  -- each child of the tree, at every node, stands under a permitted symbol
  abbrev mutual
    pub over : Tree → Bool
    over (node v cs) = over_all cs

    pub over_all : Children → Bool
    over_all none = true
    over_all (child a t cs) = permitted a && (over t && over_all cs)

-- the automaton of a schema over the symbols of a mask
abbrev pub automaton_over : {D : Type 0} → ℕ → (D → ℕ → Bool) → Schema D → Automaton
automaton_over mask holds s = permit (bit mask) (automaton_of holds s)
