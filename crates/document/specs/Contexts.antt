-- Contexts: nodes on the path before its end, where one child goes on and the others are samples;
-- and the bytes around that child. Assumes nothing.
use Rattle.std.specs.Prelude.{ℕ, ◌+◌, List, ◌∷◌, ◌++◌, length, min}
use Rattle.codec.specs.Encoding.{children_bytes}
use Rattle.codec.specs.Numbers.{number_bytes}
use Rattle.codec.specs.Trees.{Children, word}
use Rattle.schema.specs.Automata.{Automaton}
use Rattle.search.specs.Watching.{Holds}
use Rattle.compare.specs.declared.pairs.Listed.{Listed}
use Rattle.document.specs.Documents.{OnPath, LeadsTo}
use Rattle.samples.specs.declared.size.TheConstants.{TOO_LONG}
use Rattle.samples.specs.Samples.{Samples}

module _ (A B : Automaton) where
  -- a node from whose states p and q the path goes on to a listed pair: its value, and the children
  -- before and after the one that goes on, which is the first under the pair's symbol
  pub record Context (p q : ℕ) (e : Listed) : Type 0 where
    pub value : ℕ
    pub before : Children
    pub after : Children
    pub on_path : OnPath A B p e.symbol value (word before ++ e.symbol ∷ word after)
    pub leads : LeadsTo A B p q e
    pub first : Holds e.symbol (word before) → ⊥
    pub samples_before : Samples A p before
    pub samples_after : Samples A p after

  module _ {p q : ℕ} {e : Listed} (f : Context p q e) where
    -- the bytes before the part's: value, child count, the children before, and the symbol
    abbrev pub bytes_before : List ℕ
    bytes_before =
        number_bytes f.value
        ++ (number_bytes (length (word f.before ++ e.symbol ∷ word f.after))
        ++ (children_bytes f.before ++ number_bytes e.symbol))

    -- the bytes after the part's: the children after
    abbrev pub bytes_after : List ℕ
    bytes_after = children_bytes f.after

  -- how many bytes there are before and after the part, up to TOO_LONG
  abbrev pub context_bytes : {p q : ℕ} {e : Listed} → Context p q e → ℕ
  context_bytes f = min (length (bytes_before f) + length (bytes_after f)) TOO_LONG
