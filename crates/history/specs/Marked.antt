-- The marked cases: three small schemas, and what the definitions say of them, of some bytes, of a
-- joint domain and of ranges. Assumes nothing.
use Rattle.std.specs.Prelude.{◌≡◌, ℕ, Bool, true, false, List, [], ◌∷◌, Some, Ok, Err, Decides}
use Rattle.refusal.specs.declared.fault.Refusal.{Refusal}
use Rattle.refusal.specs.Faults.{number}
use Rattle.codec.specs.Encoding.{tree_bytes}
use Rattle.codec.specs.Trees.{Tree}
use Rattle.domain.specs.declared.coverage.Range.{Range}
use Rattle.domain.specs.Kinds.{has_keyword, has_letter, joined}
use Rattle.domain.specs.Making.{coverage_of, Makes}
use Rattle.domain.specs.Sets.{Smallest, alone}
use Rattle.schema.specs.Automata.{Automaton}
use Rattle.schema.specs.Examples.{no_child, any_of_first, one_of_two}
use Rattle.schema.specs.Live.{Live}
use Rattle.schema.specs.Tables.{Tables, automaton}
use Rattle.checking.specs.Checking.{checked}
use Rattle.compare.specs.declared.phase.Kind.TheVariants.{Content}
use Rattle.compare.specs.declared.phase.Phase.TheVariants.{Ready}
use Rattle.compare.specs.declared.phase.Verdict.{Verdict}
use Rattle.compare.specs.declared.phase.Verdict.TheVariants.{Included, Apart}
use Rattle.compare.specs.declared.step.TheConstants.{MOST_STEPS}
use Rattle.compare.specs.Stepping.{Stepped}
use Rattle.compare.specs.Pairs.{start}
use Rattle.compare.specs.View.{View, begun}
use Rattle.document.specs.Documents.{DocumentOf}

-- the keyword domain {0}, of each schema below
abbrev pub zero_alone : List (ℕ → Bool)
zero_alone = has_keyword (record { bits = 1 }) ∷ []

-- two symbols and one state, which allows no child
abbrev pub U : Tables
U = no_child

-- any number of children under symbol 0, back to the one state
abbrev pub V : Tables
V = any_of_first

-- exactly one child, under symbol 0 or 1, back to the one state
abbrev pub W : Tables
W = one_of_two

-- the automaton of one of them
abbrev pub over_zero : Tables → Automaton
over_zero T = automaton T zero_alone

-- a comparison of the two schemas, begun in the first area and stepped as far as one step goes,
-- comes to the second
pub record Compares (S T : Tables) (w w' : View) : Type 0 where
  pub live : Bool
  pub decides : Decides live (Live (over_zero S) 0)
  pub stepped : Stepped (over_zero S) (over_zero T) MOST_STEPS (begun w S T live) w'

-- such a comparison, begun anywhere, comes to something, and to nothing but the verdict, with so
-- many pairs examined
pub record ComesTo (S T : Tables) (v : Verdict) (n : ℕ) : Type 0 where
  pub some : (w : View) → (w' : View) × Compares S T w w'
  pub verdict : (w w' : View) → Compares S T w w' → w'.phase ≡ Ready v
  pub count : (w w' : View) → Compares S T w w' → w'.examined ≡ n

-- the bytes are those of the document for the pair (0, 0), broken in content
pub record DocumentBytes (S T : Tables) (bytes : List ℕ) : Type 0 where
  pub tree : Tree
  pub document : DocumentOf (over_zero S) (over_zero T) Content (start ∷ []) 0 [] tree
  pub written : tree_bytes tree ≡ bytes

-- a range of code points
abbrev pub from_to : ℕ → ℕ → Range
from_to a b = record { first = a; last = b }

-- no keyword on the left, and the code points of one range on the right
abbrev pub just_letters : Range → ℕ → Bool
just_letters range = joined (has_keyword (record { bits = 0 })) (has_letter (coverage_of (range ∷ [])))

-- two ranges with nothing between, and two with a code point between
abbrev pub touching_ranges : List Range
touching_ranges = from_to 65 90 ∷ from_to 91 95 ∷ []

abbrev pub parted_ranges : List Range
parted_ranges = from_to 65 90 ∷ from_to 92 95 ∷ []

-- the refusal has this number and this place
abbrev pub IsRefusal : ℕ → ℕ → Refusal → Type 0
IsRefusal n place e = (number e.fault ≡ n) × (e.place ≡ place)

-- all the marked cases
pub record MarkedCases : Type 0 where
  -- U accepts a node alone, and no node with a child
  pub u_alone : checked U zero_alone (0 ∷ 0 ∷ []) 1 ≡ Ok true
  pub u_child : checked U zero_alone (0 ∷ 1 ∷ 0 ∷ 0 ∷ 0 ∷ []) 2 ≡ Ok false
  -- U against V is included, 1 pair; V against U is apart in content
  pub u_v : ComesTo U V Included 1
  pub v_u : ComesTo V U (Apart Content) 1
  -- W against U is included, 0 pairs; U against W is apart in content
  pub w_u : ComesTo W U Included 0
  pub u_w : ComesTo U W (Apart Content) 1
  -- the documents of the two that are apart
  pub v_u_document : DocumentBytes V U (0 ∷ 1 ∷ 0 ∷ 0 ∷ 0 ∷ [])
  pub u_w_document : DocumentBytes U W (0 ∷ 0 ∷ [])
  -- the bytes 128, 0 are no number
  pub no_number : (e : Refusal) × (checked U zero_alone (128 ∷ 0 ∷ []) 1 ≡ Err e) × IsRefusal 16 0 e
  -- the gap of the letters 65 to 90 against 65 to 89, each on the right of nothing
  pub joint_gap :
      Smallest (alone (just_letters (from_to 65 90)) (just_letters (from_to 65 89))) (Some 2147483738)
  -- ranges with nothing between are refused, and with a code point between are taken
  pub touching : (e : Refusal) × Makes touching_ranges (Err e) × IsRefusal 5 1 e
  pub parted : Makes parted_ranges (Ok (coverage_of parted_ranges))
