-- How many bytes trees and children have, and counting them up to a limit. Assumes nothing.
use Rattle.std.proofs.Common.{◌≡◌, ℕ, ◌+◌, List, ◌++◌, length, refl, ap, ◌∙◌, arith}
use Rattle.std.proofs.lemmas.List.{length-append}
use Rattle.codec.specs.Encoding.{tree_bytes, children_bytes}
use Rattle.codec.specs.Numbers.{number_bytes}
use Rattle.codec.specs.Trees.{Tree, node, Children, none, child, word, many}

-- there are as many children as symbols
pub many_symbols : (cs : Children) → many cs ≡ length (word cs)
many_symbols none = refl
many_symbols (child a t cs) = omega (arith, many_symbols cs)

-- the length of three lists joined
pub length_three : (x y z : List ℕ) → length (x ++ (y ++ z)) ≡ length x + (length y + length z)
length_three x y z = omega (arith, length-append x (y ++ z), length-append y z)

-- a tree's bytes are its value's, its child count's and its children's
pub tree_length : (v : ℕ) (cs : Children) → length (tree_bytes (node v cs)) ≡ length (number_bytes v) + (length (number_bytes (length (word cs))) + length (children_bytes cs))
tree_length v cs = length_three (number_bytes v) (number_bytes (many cs)) (children_bytes cs) ∙ ap (λ (n : ℕ). length (number_bytes v) + (length (number_bytes n) + length (children_bytes cs))) (many_symbols cs)

-- children's bytes are the first one's symbol's and tree's, and those of the others
pub child_length : (a : ℕ) (t : Tree) (cs : Children) → length (children_bytes (child a t cs)) ≡ length (number_bytes a) + (length (tree_bytes t) + length (children_bytes cs))
child_length a t cs = length_three (number_bytes a) (tree_bytes t) (children_bytes cs)
