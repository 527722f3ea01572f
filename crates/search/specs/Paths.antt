-- Entries that were each found from one before it: the path to an entry, its word, and the order of
-- a search breadth first. Assumes nothing.
use Rattle.std.specs.Prelude.{◌≡◌, ℕ, zero, suc, ◌+◌, ◌<◌, ◌⊎◌, cond, List, [], ◌∷◌, map, reverse, Some, None, Option, nat_lt}
use Rattle.std.specs.List.{slice_get}

-- what an entry tells: the place of the entry that it was found from, and the symbol that led from
-- there
pub record Links (E : Type 0) : Type 0 where
  pub parent : E → ℕ
  pub symbol : E → ℕ

-- symbol a is tried at entry i before symbol b is tried at entry k
abbrev pub Sooner : ℕ → ℕ → ℕ → ℕ → Type 0
Sooner i a k b = (i < k) ⊎ ((i ≡ k) × (a < b))

module _ {E : Type 0} (L : Links E) where
  -- the word of a path: the symbols of its entries
  abbrev pub word_of : List E → List ℕ
  word_of path = map L.symbol path

  -- what is there, where its parent stands before i
  abbrev pub with_parent_before : Option E → ℕ → Option E
  with_parent_before (Some e) i = cond (nat_lt (L.parent e) i) (Some e) None
  with_parent_before None i = None

  -- the symbol of what is there, and those that go on from its parent
  abbrev pub down_from : Option E → (ℕ → List ℕ) → List ℕ
  down_from (Some e) on = L.symbol e ∷ on (L.parent e)
  down_from None on = []

  module _ (es : List E) where
    -- from entry i along the parents to the first entry: the entries on the path but the first, the
    -- last one first
    abbrev pub PathBack : ℕ → List E → Type 0
    PathBack i [] = i ≡ 0
    PathBack i (e ∷ back) = (slice_get es i ≡ Some e) × (L.parent e < i) × PathBack (L.parent e) back

    -- the path from the first entry to entry i: the entries on it but the first, in order
    abbrev pub Path : ℕ → List E → Type 0
    Path i path = PathBack i (reverse path)

    -- the word of entry i: that of its path
    abbrev pub Spells : ℕ → List ℕ → Type 0
    Spells i w = (path : List E) × Path i path × (word_of path ≡ w)

    -- the entry at i, where its parent stands before it
    abbrev pub found_from : ℕ → Option E
    found_from i = with_parent_before (slice_get es i) i

    -- the symbols from entry i on down along the parents, k at most
    unfoldable pub downwards : ℕ → ℕ → List ℕ
    downwards zero i = []
    downwards (suc k) i = down_from (found_from i) (downwards k)

    -- the symbols that led to entry i, the last one first; there are no more than entries before it
    abbrev pub descent : ℕ → List ℕ
    descent i = downwards i i

    -- breadth first: the entries after the first one stand in the order of the entries that they
    -- were found from, and of their symbols there
    abbrev pub BreadthFirst : Type 0
    BreadthFirst =
        (i j : ℕ) (e f : E) → 0 < i → i < j → slice_get es i ≡ Some e → slice_get es j ≡ Some f
        → Sooner (L.parent e) (L.symbol e) (L.parent f) (L.symbol f)

    -- a place that was met when symbol a was tried at entry i, or before: it is that of an entry
    pub record Met {N : Type 0} (place : E → N) (i a : ℕ) (n : N) : Type 0 where
      pub at : ℕ
      pub entry : E
      pub is : slice_get es at ≡ Some entry
      pub same : place entry ≡ n
      pub from : 0 < at → Sooner (L.parent entry) (L.symbol entry) i (a + 1)
