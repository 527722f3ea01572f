-- How many bytes trees, children and contexts have, and counting them up to TOO_LONG. Assumes nothing.
use Rattle.std.proofs.Common.{◌≡◌, ℕ, ◌+◌, List, ◌∷◌, ◌++◌, length, min, ap, ◌∙◌, arith}
use Rattle.std.proofs.lemmas.List.{length-append}
use Rattle.codec.specs.Encoding.{tree_bytes, children_bytes}
use Rattle.codec.specs.Numbers.{number_bytes}
use Rattle.codec.specs.Trees.{Tree, word}
use Rattle.schema.specs.Automata.{Automaton}
use Rattle.compare.specs.declared.pairs.Listed.{Listed}
use Rattle.document.specs.Contexts.{Context, bytes_before, bytes_after}
use Rattle.samples.specs.declared.size.TheConstants.{TOO_LONG}
use Rattle.samples.specs.Kept.{needed}
use Rattle.samples.proofs.Lengths.{length_three}
use Rattle.document.proofs.Filling.{filled}
use Rattle.document.proofs.Splitting.{filled_bytes}

-- what was counted up to TOO_LONG may be added to a number and counted again
pub capped_right : (a b : ℕ) → min (a + min b TOO_LONG) TOO_LONG ≡ min (a + b) TOO_LONG
capped_right a b = omega arith

module _ (A B : Automaton) {p q : ℕ} {e : Listed} (f : Context A B p q e) where
  -- the bytes of a context but for the part: its value's, its child count's, those of the children before, of the symbol, and of the children
  -- after
  pub context_length : length (bytes_before A B f) + length (bytes_after A B f) ≡ length (number_bytes f.value) + (length (number_bytes (length (word f.before ++ e.symbol ∷ word f.after))) + (length (children_bytes f.before) + (length (number_bytes e.symbol) + length (children_bytes f.after))))
  context_length = by (number_bytes f.value) (number_bytes (length (word f.before ++ e.symbol ∷ word f.after))) (children_bytes f.before) (number_bytes e.symbol) (children_bytes f.after)
    where
      by : (v n b a x : List ℕ) → length (v ++ (n ++ (b ++ a))) + length x ≡ length v + (length n + (length b + (length a + length x)))
      by v n b a x = omega (arith, length_three v n (b ++ a), length-append b a)

  -- with the part there are the part's more
  pub filled_length : (part : Tree) → length (tree_bytes (filled A B f part)) ≡ length (tree_bytes part) + (length (bytes_before A B f) + length (bytes_after A B f))
  filled_length part = ap length (filled_bytes A B f part) ∙ by (bytes_before A B f) (tree_bytes part) (bytes_after A B f)
    where
      by : (h t x : List ℕ) → length (h ++ (t ++ x)) ≡ length t + (length h + length x)
      by h t x = omega (arith, length_three h t x)

  -- which holds too of what is counted up to TOO_LONG
  pub needed_filled : (part : Tree) → needed (filled A B f part) ≡ min (needed part + (length (bytes_before A B f) + length (bytes_after A B f))) TOO_LONG
  needed_filled part = by (length (tree_bytes (filled A B f part))) (length (tree_bytes part)) (length (bytes_before A B f) + length (bytes_after A B f)) (filled_length part)
    where
      by : (n m k : ℕ) → n ≡ m + k → min n TOO_LONG ≡ min (min m TOO_LONG + k) TOO_LONG
      by n m k is = omega (arith, is)
