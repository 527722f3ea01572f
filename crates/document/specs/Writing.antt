-- The call that writes a document: its refusals in their order, and its one outcome. Assumes
-- nothing.
use Rattle.std.specs.Prelude.{◌≡◌, ℕ, ◌<◌, ◌≤◌, Bool, false, cond, ◌⊎◌, List, [], ◌∷◌, length, Some, None, Ok, Err, Option, Result, nat_lt}
use Rattle.refusal.specs.declared.fault.Fault.TheVariants.{Schemas, Scratch, Room}
use Rattle.refusal.specs.declared.fault.Refusal.{Refusal}
use Rattle.refusal.specs.Order.{first_of}
use Rattle.codec.specs.Encoding.{tree_bytes}
use Rattle.codec.specs.Numbers.{overwritten}
use Rattle.codec.specs.Trees.{Tree}
use Rattle.schema.specs.Automata.{Automaton}
use Rattle.schema.specs.Faults.{either_fault}
use Rattle.schema.specs.Tables.{Tables, automaton}
use Rattle.compare.specs.declared.area.Area.{Area}
use Rattle.compare.specs.declared.claim.Numbers.{Numbers}
use Rattle.compare.specs.declared.pairs.Listed.{Listed}
use Rattle.compare.specs.declared.phase.Kind.{Kind}
use Rattle.compare.specs.declared.phase.Phase.TheVariants as phase
use Rattle.compare.specs.NotHolder.{is_holder, refusal_with_schemas}
use Rattle.compare.specs.Trailing.{broken_index}
use Rattle.compare.specs.View.{View, view}
use Rattle.compare.specs.Writing.{write_kept_from}
use Rattle.document.specs.Documents.{DocumentOf}
use Rattle.document.specs.declared.document.TheConstants.{LEVELS}
use Rattle.samples.specs.declared.size.TheConstants.{LONGEST, TOO_LONG}
use Rattle.samples.specs.Kept.{needed}

-- `scratch`: too few levels are lent; its place is how many are needed
abbrev pub short_levels : ℕ → Option Refusal
short_levels levels = cond (nat_lt levels LEVELS) (Some (record { fault = Scratch; place = LEVELS })) None

-- what keeps sound schemas from a document of the claim with these numbers, which lends so many row
-- pairs and levels
abbrev pub document_kept_from : View → Tables → Tables → Numbers → ℕ → ℕ → Option Refusal
document_kept_from w T U claim slots levels =
    first_of (write_kept_from w T U claim slots ∷ short_levels levels ∷ [])

-- the refusal before any document is looked for, in the order of the tests
abbrev pub early_refusal : View → Tables → Tables → Numbers → ℕ → ℕ → Option Refusal
early_refusal w T U claim slots levels =
    first_of (either_fault T U ∷ document_kept_from w T U claim slots levels ∷ [])

-- the tree is the document of the area's broken pair on two automata, along this path
abbrev pub DocumentIn : Automaton → Automaton → View → List Listed → Tree → Type 0
DocumentIn A B w path t =
    (k : Kind) × (w.phase ≡ phase.Apart k) × DocumentOf A B k w.pairs (broken_index w) path t

-- `schemas`: the automata have no document along the trail, since they do not lead along it through
-- the listed pairs, or lack a value or a sequence that it needs
abbrev pub NoDocument : Automaton → Automaton → View → Type 0
NoDocument A B w = (path : List Listed) (t : Tree) → DocumentIn A B w path t → ⊥

-- there is a document
pub record FoundDocument (A B : Automaton) (w : View) : Type 0 where
  pub path : List Listed
  pub tree : Tree
  pub document : DocumentIn A B w path tree

-- the tree's bytes stand at the output's front and the rest is as found, and their number is told
abbrev pub TreeWritten : Tree → List ℕ → ℕ → List ℕ → Type 0
TreeWritten t output n output' =
    (n ≡ length (tree_bytes t)) × (n ≤ LONGEST) × (n ≤ length output)
    × (output' ≡ overwritten output 0 (tree_bytes t))

-- `room`: the tree's bytes are too many for the output, or for any; the place is how many are needed
abbrev pub TreeTooLong : Tree → List ℕ → Refusal → Type 0
TreeTooLong t output e =
    ((length output < needed t) ⊎ (needed t ≡ TOO_LONG)) × (e ≡ record { fault = Room; place = needed t })

-- what is answered of a tree: it is written, or `room`, and the output as found
abbrev pub TreeAnswer : Tree → List ℕ → Result ℕ Refusal → List ℕ → Type 0
TreeAnswer t output (Ok n) output' = TreeWritten t output n output'
TreeAnswer t output (Err e) output' = TreeTooLong t output e × (output' ≡ output)

-- what is answered where nothing is refused before: what is answered of the document; or `schemas`,
-- and the output as found
abbrev pub DocumentAnswer : Automaton → Automaton → View → List ℕ → Result ℕ Refusal → List ℕ → Type 0
DocumentAnswer A B w output (Ok n) output' = (d : FoundDocument A B w) × TreeWritten d.tree output n output'
DocumentAnswer A B w output (Err e) output' =
    ((NoDocument A B w × (e ≡ record { fault = Schemas; place = w.serial }))
    ⊎ ((d : FoundDocument A B w) × TreeTooLong d.tree output e))
    × (output' ≡ output)

-- the one outcome: the first refusal, which leaves the output as found, or what is answered of the
-- document
abbrev pub Documenting :
    Tables → Tables → List (ℕ → Bool) → List (ℕ → Bool) → Numbers → ℕ → ℕ → Area → List ℕ
    → Result ℕ Refusal → List ℕ → Type 0
Documenting T U sets others claim slots levels a output r output' =
    ((e : Refusal) × (early_refusal (view a) T U claim slots levels ≡ Some e) × (r ≡ Err e)
    × (output' ≡ output))
    ⊎ ((early_refusal (view a) T U claim slots levels ≡ None)
    × DocumentAnswer (automaton T sets) (automaton U others) (view a) output r output')

-- the call has one answer, and leaves one output
unfoldable pub OneDocumenting : Type 0
OneDocumenting =
    (T U : Tables) (sets others : List (ℕ → Bool)) (claim : Numbers) (slots levels : ℕ) (a : Area)
    (output : List ℕ)
    (r s : Result ℕ Refusal) (one other : List ℕ)
    → Documenting T U sets others claim slots levels a output r one
    → Documenting T U sets others claim slots levels a output s other
    → (r ≡ s) × (one ≡ other)

-- with numbers that are not the holder's it is refused: by a fault of the schemas, by `symbols`, or
-- as one that is not the holder's; the output stays as it was
unfoldable pub DocumentByNotHolder : Type 0
DocumentByNotHolder =
    (T U : Tables) (sets others : List (ℕ → Bool)) (claim : Numbers) (slots levels : ℕ) (a : Area)
    (output : List ℕ)
    (r : Result ℕ Refusal) (output' : List ℕ)
    → Documenting T U sets others claim slots levels a output r output' → is_holder (view a) claim ≡ false
    → (e : Refusal) × (r ≡ Err e)
    × (refusal_with_schemas (view a) T U claim ≡ Some e)
    × (output' ≡ output)
