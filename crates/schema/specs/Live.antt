-- Live states: those that accept some finite tree. Assumes nothing.
use Rattle.std.specs.Prelude.{◌≡◌, ℕ, ◌<◌, ◌≤◌, Bool, true, false, List, [], ◌∷◌, ◌++◌, Some, None, Option, Decides}
use Rattle.std.specs.List.{AllByRecursion, slice_get}
use Rattle.codec.specs.Trees.{Tree, height}
use Rattle.bits.specs.Bits.{bit}
use Rattle.schema.specs.Automata.{Automaton, passes, allowed, accepts}
use Rattle.schema.specs.Rows.{RunsOver}

module _ (A : Automaton) where
  -- a state is live when it accepts a finite tree
  abbrev pub Live : ℕ → Type 0
  Live q = (t : Tree) × (accepts A q t ≡ true)

  -- a sequence is live at a state when it is allowed there and leads only to live states
  abbrev pub LiveSequence : ℕ → List ℕ → Type 0
  LiveSequence q w = (allowed A q w ≡ true) × AllByRecursion (λ a. (s : ℕ) × (A.next q a ≡ Some s) × Live s) w

  -- a symbol is live at a state when a live sequence holds it
  abbrev pub LiveSymbol : ℕ → ℕ → Type 0
  LiveSymbol q a = (u v : List ℕ) × LiveSequence q (u ++ a ∷ v)

  -- the symbols lead from one state to another, each live at the state that it leaves
  abbrev pub LivePath : ℕ → List ℕ → ℕ → Type 0
  LivePath p [] q = p ≡ q
  LivePath p (a ∷ w) q = LiveSymbol p a × ((s : ℕ) × (A.next p a ≡ Some s) × LivePath s w q)

  -- the state has a value and a sequence whose symbols all lead into the set of states
  abbrev pub FoundOver : (ℕ → Bool) → ℕ → Type 0
  FoundOver states q = ((v : ℕ) × (A.has q v ≡ true)) × RunsOver A q (λ a. passes (A.next q a) states)

  -- not in the set yet, and found over it
  abbrev pub NewlyFound : (ℕ → Bool) → ℕ → Type 0
  NewlyFound states q = (states q ≡ false) × FoundOver states q

  -- bit q of the mask is set exactly for the live states below n
  abbrev pub LiveMask : ℕ → ℕ → Type 0
  LiveMask n mask = (q : ℕ) → Decides (bit mask q) ((q < n) × Live q)

  -- the rank of a state: the least height of a tree that it accepts
  abbrev pub Rank : ℕ → ℕ → Type 0
  Rank q m =
      ((t : Tree) × (accepts A q t ≡ true) × (height t ≡ m))
      × ((t : Tree) → accepts A q t ≡ true → m ≤ height t)

  -- bit q of the mask is set exactly for the states below n that have a rank, which is below 64
  abbrev pub RankMask : ℕ → ℕ → Type 0
  RankMask n mask = (q : ℕ) → Decides (bit mask q) ((q < n) × ((m : ℕ) × (m < 64) × Rank q m))

  -- the mask is that of the live states below n; at each of them its rank is noted, which is below
  -- 64, and none at every other number below 64
  pub record Ranked (n mask : ℕ) (ranks : List (Option ℕ)) : Type 0 where
    pub live : LiveMask n mask
    pub noted :
        (q : ℕ) → bit mask q ≡ true
        → (m : ℕ) × (slice_get ranks q ≡ Some (Some m)) × (m < 64) × Rank q m
    pub others : (q : ℕ) → q < 64 → bit mask q ≡ false → slice_get ranks q ≡ Some None
