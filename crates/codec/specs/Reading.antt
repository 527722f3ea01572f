-- Reading one tree off bytes, with its faults in the order met. Assumes nothing.
use Rattle.std.specs.Prelude.{◌≡◌, ℕ, zero, suc, ◌-◌, cond, List, [], ◌∷◌, length, nat_lt}
use Rattle.refusal.specs.declared.fault.Fault.TheVariants as fault
use Rattle.codec.specs.Numbers.{Got, got, stop, stop_at, read_number}
use Rattle.codec.specs.Trees.{Tree, node, Children, none, child}

-- what is read next, if nothing stopped the reading
abbrev pub then : {X Y : Type 0} → Got X → (X → List ℕ → Got Y) → Got Y
then (got x rest) f = f x rest
then (stop e) f = stop e

-- an input of length `end`, over symbols below `symbols`
module _ (end symbols : ℕ) where
  -- a symbol, which must be the schema's, and the bytes after it
  abbrev pub read_symbol : List ℕ → Got ℕ
  read_symbol bs =
      then (read_number end bs)
      (λ a rest. cond (nat_lt a symbols) (got a rest) (stop_at fault.Symbol (end - length bs)))

  -- that many children, each a symbol and a tree, where `tree` reads a tree
  abbrev pub read_children : (List ℕ → Got Tree) → ℕ → List ℕ → Got Children
  read_children tree zero bs = got none bs
  read_children tree (suc n) bs =
      then (read_symbol bs) (λ a rest. then (tree rest) (λ t rest.
      then (read_children tree n rest) (λ cs rest. got (child a t cs) rest)))

  -- a tree of at most that many levels: its value, its child count and its children. No level left
  -- is found before its first byte
  abbrev pub read_tree : ℕ → List ℕ → Got Tree
  read_tree zero bs = stop_at fault.Deep (end - length bs)
  read_tree (suc levels) bs =
      then (read_number end bs) (λ v rest. then (read_number end rest) (λ n rest.
      then (read_children (read_tree levels) n rest) (λ cs rest. got (node v cs) rest)))

  -- one tree and nothing after it
  abbrev pub whole : Got Tree → Got Tree
  whole (got t []) = got t []
  whole (got t (b ∷ bs)) = stop_at fault.Rest (end - length (b ∷ bs))
  whole (stop e) = stop e

-- some bytes read as one tree with nothing after it, over so many symbols and with so many levels
abbrev pub read_all : ℕ → ℕ → List ℕ → Got Tree
read_all symbols levels bs = whole (length bs) symbols (read_tree (length bs) symbols levels bs)

-- examples: two trees, and each fault where it is met
pub record ReadingExamples : Type 0 where
  pub one_node : read_all 2 1 (0 ∷ 0 ∷ []) ≡ got (node 0 none) []
  pub one_child : read_all 2 2 (5 ∷ 1 ∷ 0 ∷ 6 ∷ 0 ∷ []) ≡ got (node 5 (child 0 (node 6 none) none)) []
  pub no_byte : read_all 2 1 [] ≡ stop_at fault.Short 0
  pub no_count : read_all 2 1 (0 ∷ []) ≡ stop_at fault.Short 1
  pub no_child : read_all 2 2 (0 ∷ 1 ∷ 0 ∷ []) ≡ stop_at fault.Short 3
  pub wrong_value : read_all 2 1 (128 ∷ 0 ∷ []) ≡ stop_at fault.Number 0
  pub wrong_count : read_all 2 1 (0 ∷ 128 ∷ 0 ∷ []) ≡ stop_at fault.Number 1
  pub other_symbol : read_all 2 2 (0 ∷ 1 ∷ 2 ∷ 0 ∷ 0 ∷ []) ≡ stop_at fault.Symbol 2
  pub too_deep : read_all 2 1 (0 ∷ 1 ∷ 0 ∷ 0 ∷ 0 ∷ []) ≡ stop_at fault.Deep 3
  pub deep_before_short : read_all 2 1 (0 ∷ 1 ∷ 0 ∷ []) ≡ stop_at fault.Deep 3
  pub symbol_before_deep : read_all 2 1 (0 ∷ 1 ∷ 2 ∷ []) ≡ stop_at fault.Symbol 2
  pub left_over : read_all 2 1 (0 ∷ 0 ∷ 7 ∷ []) ≡ stop_at fault.Rest 2
