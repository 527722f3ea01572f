-- What a reader hands out: a value with its child count, a symbol, or a node's end. Assumes
-- nothing.
use Rattle.std.specs.Prelude.{◌≡◌, ℕ, ◌-◌, ◌<◌, ◌≤◌, Bool, true, false, ◌⊎◌, List, [], ◌∷◌, ◌++◌, length, Some, None, Ok, Err, Option, Result}
use Rattle.refusal.specs.declared.fault.Fault.TheVariants as fault
use Rattle.refusal.specs.declared.fault.Refusal.{Refusal}
use Rattle.codec.specs.declared.item.Item.{Item}
use Rattle.codec.specs.declared.item.Item.TheVariants.{Value, Symbol, End}
use Rattle.codec.specs.declared.item.Level.{Level}
use Rattle.codec.specs.Numbers.{Got, got, stop, read_number}
use Rattle.codec.specs.Piles.{Stack, slots, topmost, Replaced}
use Rattle.codec.specs.Reading.{then}

-- a reader on its way: the bytes left, whether a node comes next, and the levels of the nodes it is
-- in, the root's first
pub record Midway (S : Type 0) : Type 0 where
  pub left : List ℕ
  pub fresh : Bool
  pub levels : List (Level S)

-- the number at the front, and the number after it
abbrev pub read_two : ℕ → List ℕ → Got (ℕ × ℕ)
read_two end bs =
    then (read_number end bs) (λ v rest. then (read_number end rest) (λ n rest. got (v, n) rest))

-- an input of length `end`, a pile of `room` levels, and what to keep beside the children of a node
-- that opens
module _ {S : Type 0} (end room : ℕ) (at : S) where
  -- a node opens: its value and its child count, and a level for it
  pub record Opens (b : Midway S) (v n : ℕ) (bytes : List ℕ) (a : Midway S) : Type 0 where
    pub due : b.fresh ≡ true
    pub space : length b.levels < room
    pub reads : read_two end b.left ≡ got (v, n) a.left
    pub slice : b.left ≡ bytes ++ a.left
    pub some : 0 < length bytes
    pub inside : a.fresh ≡ false
    pub deeper : a.levels ≡ b.levels ++ (record { left = n; at = at }) ∷ []

  -- a child's symbol: one child fewer is left on the top level, and a node comes next
  pub record Names (b : Midway S) (s : ℕ) (bytes : List ℕ) (a : Midway S) : Type 0 where
    pub due : b.fresh ≡ false
    pub below : List (Level S)
    pub top : Level S
    pub on : b.levels ≡ below ++ top ∷ []
    pub more : 0 < top.left
    pub reads : read_number end b.left ≡ got s a.left
    pub slice : b.left ≡ bytes ++ a.left
    pub some : 0 < length bytes
    pub next : a.fresh ≡ true
    pub fewer : a.levels ≡ below ++ (record { left = top.left - 1; at = top.at }) ∷ []

  -- the top node has no child left and ends
  pub record Closes (b a : Midway S) : Type 0 where
    pub due : b.fresh ≡ false
    pub top : Level S
    pub on : b.levels ≡ a.levels ++ top ∷ []
    pub done : top.left ≡ 0
    pub same : a.left ≡ b.left
    pub inside : a.fresh ≡ false

  -- the tree has ended, and nothing changes
  pub record Over (b a : Midway S) : Type 0 where
    pub due : b.fresh ≡ false
    pub none : b.levels ≡ []
    pub same : a ≡ b

  -- no level is left for a node, or a number of it can't be read
  pub record NodeFault (b : Midway S) (e : Refusal) : Type 0 where
    pub due : b.fresh ≡ true
    pub fault :
        ((room ≤ length b.levels) × (e ≡ record { fault = fault.Deep; place = end - length b.left }))
        ⊎ ((length b.levels < room) × (read_two end b.left ≡ stop e))

  -- a symbol can't be read
  pub record SymbolFault (b : Midway S) (e : Refusal) : Type 0 where
    pub due : b.fresh ≡ false
    pub below : List (Level S)
    pub top : Level S
    pub on : b.levels ≡ below ++ top ∷ []
    pub more : 0 < top.left
    pub reads : read_number end b.left ≡ stop e

  -- what is handed out, by what it is; after a refusal nothing has changed
  abbrev pub Hands : Midway S → Result (Option Item) Refusal → Midway S → Type 0
  Hands b (Ok (Some (Value v n bytes))) a = Opens b v n bytes.now a
  Hands b (Ok (Some (Symbol s bytes))) a = Names b s bytes.now a
  Hands b (Ok (Some End)) a = Closes b a
  Hands b (Ok None) a = Over b a
  Hands b (Err e) a = (NodeFault b e ⊎ SymbolFault b e) × (a ≡ b)

-- a reader: the bytes read and those left, whether a node comes next, and the pile of the levels of
-- the nodes it is in
pub record Progress (S : Type 0) : Type 0 where
  pub read : List ℕ
  pub left : List ℕ
  pub fresh : Bool
  pub levels : Stack (Level S)

-- all bytes of its input
abbrev pub input : {S : Type 0} → Progress S → List ℕ
input p = p.read ++ p.left

-- where it is, by what is left to do
abbrev pub midway : {S : Type 0} → Progress S → Midway S
midway p = record { left = p.left; fresh = p.fresh; levels = p.levels.entries }

-- one step of a reader; the input stays, and so does the number of levels that there are room for
pub record Walks
    {S : Type 0} (at : S) (before : Progress S) (r : Result (Option Item) Refusal)
    (after : Progress S) : Type 0 where
  pub hands : Hands (length (input before)) (slots before.levels) at (midway before) r (midway after)
  pub same_input : input after ≡ input before
  pub same_room : slots after.levels ≡ slots before.levels

-- what is kept beside the children of the node on top changes, where there is one
abbrev pub kept : {S : Type 0} → S → Option (Level S) → Stack (Level S) → Stack (Level S) → Type 0
kept at (Some top) before after = Replaced before (record { left = top.left; at = at }) after
kept at None before after = after ≡ before

-- that and nothing else changes
pub record Keeps {S : Type 0} (at : S) (before after : Progress S) : Type 0 where
  pub levels : kept at (topmost before.levels.entries) before.levels after.levels
  pub read : after.read ≡ before.read
  pub left : after.left ≡ before.left
  pub fresh : after.fresh ≡ before.fresh
