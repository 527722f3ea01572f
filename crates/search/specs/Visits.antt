-- The listed pairs, and what listing one more leaves. Assumes nothing.
use Rattle.std.specs.Prelude.{◌≡◌, ℕ, ◌<◌, Bool, true, false, ◌&&◌, ◌||◌, [], ◌∷◌, ◌++◌, length, Some, None, Option, ◌==◌, slice_index}
use Rattle.codec.specs.Piles.{slots, Stack}
use Rattle.bits.specs.Bits.{bit}
use Rattle.search.specs.declared.visited.Visited.{Visited}
use Rattle.schema.specs.declared.faults.TheConstants.{STATE_ROWS}
use Rattle.search.specs.declared.pairs.RowPair.{RowPair}

-- with a mask of the watcher's states for each row, the pair is listed
abbrev pub is_visited : Visited → ℕ → ℕ → Bool
is_visited l r s = bit (slice_index l.masks r) s

-- a pair that was not listed is listed and put on the pile, where a slot is left
pub record NewlyVisited
    (p : RowPair) (l : Visited) (pile : Stack RowPair) (i : ℕ) (l' : Visited)
    (pile' : Stack RowPair) : Type 0 where
  pub new : is_visited l p.row p.watch ≡ false
  pub place : i ≡ length pile.entries
  pub visited :
      p.row < STATE_ROWS → p.watch < 64 → (r s : ℕ)
      → is_visited l' r s ≡ (is_visited l r s || (p.row == r && p.watch == s))
  pub long : slots pile' ≡ slots pile
  pub pushed : length pile.entries < slots pile → pile'.entries ≡ pile.entries ++ p ∷ []

-- a pair that was listed changes nothing
pub record AlreadyVisited
    (p : RowPair) (l : Visited) (pile : Stack RowPair) (l' : Visited) (pile' : Stack RowPair) : Type 0
  where
    pub old : is_visited l p.row p.watch ≡ true
    pub same_list : l' ≡ l
    pub same_pile : pile' ≡ pile

-- a pair, with the place where it was put if it was not listed yet
abbrev pub Visits : RowPair → Visited → Stack RowPair → Option ℕ → Visited → Stack RowPair → Type 0
Visits p l pile (Some i) l' pile' = NewlyVisited p l pile i l' pile'
Visits p l pile None l' pile' = AlreadyVisited p l pile l' pile'
