-- Which states trimming keeps. Assumes nothing.
use Rattle.std.specs.Prelude.{◌≡◌, ℕ, Bool, true, List, Some, Decides}
use Rattle.bits.specs.Bits.{bit}
use Rattle.codec.specs.Trees.{Tree}
use Rattle.schema.specs.Automata.{Automaton}
use Rattle.schema.specs.Bindings.{States, root, Bound, Occurs}
use Rattle.schema.specs.Live.{Live, LivePath}
use Rattle.schema.specs.Permitted.{permit, over}

-- a symbol of the set leads from one state to another
abbrev pub LedTo : Automaton → (ℕ → Bool) → ℕ → ℕ → ℕ → Type 0
LedTo A set p a s = (set a ≡ true) × (A.next p a ≡ Some s)

module _ (A : Automaton) (permitted : ℕ → Bool) where
  -- state 0 is live over the permitted symbols, and live symbols among them lead from it to the
  -- state
  abbrev pub Kept : ℕ → Type 0
  Kept q = Live (permit permitted A) 0 × ((w : List ℕ) × LivePath (permit permitted A) 0 w q)

  -- bit q of the mask is set exactly for the states that are kept
  abbrev pub KeptMask : ℕ → Type 0
  KeptMask mask = (q : ℕ) → Decides (bit mask q) (Kept q)

  -- some tree over the permitted symbols is accepted with one of its nodes bound to the state
  pub record Used (q : ℕ) : Type 0 where
    pub tree : Tree
    pub states : States
    pub start : root states ≡ 0
    pub bound : Bound A tree states
    pub within : over permitted tree ≡ true
    pub there : Occurs q states
