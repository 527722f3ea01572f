-- Piles: the entries, the last of them on top, and the slots that are left above them. Assumes
-- nothing.
use Rattle.std.specs.Prelude.{◌≡◌, ℕ, ◌+◌, ◌-◌, Bool, cond, List, [], ◌∷◌, ◌++◌, length, take, drop, Option, nat_lt, slice_set}
use Rattle.std.specs.List.{slice_get}

-- a pile's entries, the bottom one first, and the slots left above them, as they are
pub record Stack (X : Type 0) : Type 0 where
  pub entries : List X
  pub free : List X

-- how many slots there are
abbrev pub slots : {X : Type 0} → Stack X → ℕ
slots p = length p.entries + length p.free

-- the entry on top
abbrev pub topmost : {X : Type 0} → List X → Option X
topmost entries = slice_get entries (length entries - 1)

-- an entry is put on top where a slot is left; no other slot changes
pub record Pushed
    {X : Type 0} (before : Stack X) (x : X) (r : Bool) (after : Stack X) : Type 0 where
  pub room : r ≡ nat_lt 0 (length before.free)
  pub entries : after.entries ≡ cond r (before.entries ++ x ∷ []) before.entries
  pub free : after.free ≡ cond r (drop 1 before.free) before.free

-- the entry on top is taken off, and its slot, as it is, is the first one left; no slot changes
pub record Popped {X : Type 0} (before : Stack X) (r : Option X) (after : Stack X) : Type 0 where
  pub top : r ≡ topmost before.entries
  pub entries : after.entries ≡ take (length before.entries - 1) before.entries
  pub free : after.free ≡ drop (length before.entries - 1) before.entries ++ before.free

-- the entry on top is replaced, where there is one; no other slot changes
pub record Replaced {X : Type 0} (before : Stack X) (x : X) (after : Stack X) : Type 0 where
  pub entries : after.entries ≡ slice_set before.entries (length before.entries - 1) x
  pub free : after.free ≡ before.free
