-- Pairs of states: what breaks one, what a set of unbroken pairs says of the trees, and which tree
-- a broken pair tells of. Assumes nothing.
use Rattle.std.specs.Prelude.{◌≡◌, ℕ, Bool, true, false, List, Some}
use Rattle.codec.specs.Trees.{Tree}
use Rattle.schema.specs.Automata.{Automaton, allowed, accepts}
use Rattle.schema.specs.Live.{Live, LiveSequence, LiveSymbol}
use Rattle.compare.specs.declared.phase.Kind.{Kind}
use Rattle.compare.specs.declared.phase.Kind.TheVariants.{Value, Content}

module _ (A B : Automaton) where
  -- broken in value: a value is in the first state's domain alone; in content: a sequence live at
  -- the first state is not allowed at the second
  abbrev pub Broken : Kind → ℕ → ℕ → Type 0
  Broken Value p q = (v : ℕ) × (A.has p v ≡ true) × (B.has q v ≡ false)
  Broken Content p q = (w : List ℕ) × LiveSequence A p w × (allowed B q w ≡ false)

  -- broken in neither way
  pub record Unbroken (p q : ℕ) : Type 0 where
    pub values : (v : ℕ) → A.has p v ≡ true → B.has q v ≡ true
    pub contents : (w : List ℕ) → LiveSequence A p w → allowed B q w ≡ true

  -- the pairs are unbroken, and hold with a pair the pair of next states under each symbol live at
  -- its first state
  pub record Closed (P : ℕ → ℕ → Bool) : Type 0 where
    pub unbroken : (p q : ℕ) → P p q ≡ true → Unbroken p q
    pub onward : (p q a s : ℕ) → P p q ≡ true → LiveSymbol A p a → A.next p a ≡ Some s
        → (u : ℕ) × (B.next q a ≡ Some u) × (P s u ≡ true)

  -- some tree is accepted by the first automaton at p and refused by the second at q
  abbrev pub ToldApart : ℕ → ℕ → Type 0
  ToldApart p q = (t : Tree) × (accepts A p t ≡ true) × (accepts B q t ≡ false)

-- a closed set of unbroken pairs carries acceptance from the first automaton to the second
abbrev pub ClosedCarries : Type 0
ClosedCarries =
    (A B : Automaton) (P : ℕ → ℕ → Bool) → Closed A B P → (p q : ℕ) → P p q ≡ true → (t : Tree)
    → accepts A p t ≡ true → accepts B q t ≡ true

-- a broken pair whose first state is live is told apart by a tree
abbrev pub BrokenTells : Type 0
BrokenTells = (A B : Automaton) (k : Kind) (p q : ℕ) → Live A p → Broken A B k p q → ToldApart A B p q

-- where a symbol live at the first state leads to two states that a tree tells apart, a tree tells
-- the states apart that it leaves
abbrev pub OnwardTells : Type 0
OnwardTells =
    (A B : Automaton) (p q a s u : ℕ) → Live A p → LiveSymbol A p a → A.next p a ≡ Some s
    → B.next q a ≡ Some u → ToldApart A B s u → ToldApart A B p q

-- in an unbroken pair every symbol live at the first state has a next state at the second
abbrev pub UnbrokenOnward : Type 0
UnbrokenOnward =
    (A B : Automaton) (p q a : ℕ) → Unbroken A B p q → LiveSymbol A p a → (u : ℕ) × (B.next q a ≡ Some u)
