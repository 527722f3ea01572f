-- The bytes of a tree, and the law of reading: it accepts exactly the encodings of trees. Assumes
-- nothing.
use Rattle.std.specs.Prelude.{◌≡◌, ℕ, ◌^◌, ◌<◌, ◌≤◌, List, [], ◌++◌}
use Rattle.std.specs.List.{AllByRecursion}
use Rattle.codec.specs.Numbers.{got, number_bytes}
use Rattle.codec.specs.Reading.{ReadingExamples, read_tree}
use Rattle.codec.specs.Trees.{Tree, node, Children, none, child, many, height}

-- the bytes of a tree: its value, its child count, and for each child its symbol and its tree
abbrev mutual
  pub tree_bytes : Tree → List ℕ
  tree_bytes (node v cs) = number_bytes v ++ (number_bytes (many cs) ++ children_bytes cs)

  pub children_bytes : Children → List ℕ
  children_bytes none = []
  children_bytes (child a t cs) = number_bytes a ++ (tree_bytes t ++ children_bytes cs)

-- a tree over symbols below s whose values and child counts have 32 bits
abbrev mutual
  pub Proper : ℕ → Tree → Type 0
  Proper s (node v cs) = (v < 2 ^ 32) × (many cs < 2 ^ 32) × ProperAll s cs

  pub ProperAll : ℕ → Children → Type 0
  ProperAll s none = Unit {0}
  ProperAll s (child a t cs) = (a < s) × Proper s t × ProperAll s cs

-- the bytes begin with the encoding of the tree, which is proper and has at most as many levels of
-- nodes as there are; the rest follows
pub record Encodes (s levels : ℕ) (t : Tree) (bs rest : List ℕ) : Type 0 where
  pub bytes : bs ≡ tree_bytes t ++ rest
  pub proper : Proper s t
  pub fits : height t < levels

-- reading gives a tree exactly where the bytes begin with its encoding, whatever the input's length
-- is said to be; with examples, which show the faults too
pub record ReadsEncodings : Type 0 where
  pub back :
      (end s levels : ℕ) (t : Tree) (bs rest : List ℕ) → s ≤ 2 ^ 32 → Encodes s levels t bs rest
      → read_tree end s levels bs ≡ got t rest
  pub only :
      (end s levels : ℕ) (t : Tree) (bs rest : List ℕ) → AllByRecursion (λ b. b < 256) bs
      → read_tree end s levels bs ≡ got t rest → Encodes s levels t bs rest
  pub one :
      (t u : Tree) → Proper (2 ^ 32) t → Proper (2 ^ 32) u → tree_bytes t ≡ tree_bytes u → t ≡ u
  pub examples : ReadingExamples
