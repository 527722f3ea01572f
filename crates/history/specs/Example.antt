-- An example of a history: what the law speaks of comes about. Assumes nothing.
use Rattle.std.specs.Prelude.{◌≡◌, ℕ, false, List, [], ◌∷◌, Ok, Err}
use Rattle.refusal.specs.declared.fault.Fault.TheVariants.{Ousted}
use Rattle.schema.specs.Tables.{Tables}
use Rattle.search.specs.declared.pairs.TheConstants.{ROW_PAIRS}
use Rattle.compare.specs.declared.area.Area.{Area}
use Rattle.compare.specs.declared.claim.Lease.{Lease}
use Rattle.compare.specs.declared.claim.Numbers.{Numbers}
use Rattle.compare.specs.declared.conclude.Concluded.TheVariants as concluded
use Rattle.compare.specs.declared.phase.Kind.TheVariants.{Content}
use Rattle.compare.specs.declared.step.TheConstants.{MOST_STEPS}
use Rattle.compare.specs.View.{view, free}
use Rattle.document.specs.declared.document.TheConstants.{LEVELS}
use Rattle.history.specs.Calls.{Handed, Call, take_up, oust, step, conclude, trail, document, give_up, Runs}
use Rattle.history.specs.Marked.{zero_alone, U, V}

-- two of the marked schemas, over the keyword domain {0}
abbrev pub two_schemas : Tables → Tables → Handed
two_schemas S T = record { first = S; second = T; first_sets = zero_alone; second_sets = zero_alone }

-- the numbers of the claims of area 7
abbrev pub numbers : ℕ → Numbers
numbers serial = record { area = 7; serial = serial }

-- a claim with them
abbrev pub claim : {S : Type 0} → ℕ → Lease S
claim serial = record { numbers = numbers serial; spent = false; at = record {} }

-- an output of six bytes
abbrev pub room_for_six : List ℕ
room_for_six = 9 ∷ 9 ∷ 9 ∷ 9 ∷ 9 ∷ 9 ∷ []

-- U against V is taken up; V against U ousts it, so that a step of the first is refused; the second
-- is stepped and concluded apart; its trail has no symbol, and its document is 0 1 0 0 0; the first
-- claim is given up to no effect, and the second frees the area; U against V is taken up again,
-- stepped, and concluded included
abbrev pub example : List Call
example =
    take_up (two_schemas U V) (Ok (claim 1))
    ∷ oust (two_schemas V U) (Ok (claim 2))
    ∷ step (numbers 1) (two_schemas U V) 1 ROW_PAIRS (Err (record { fault = Ousted; place = 2 }))
    ∷ step (numbers 2) (two_schemas V U) MOST_STEPS ROW_PAIRS (Ok (1, 1))
    ∷ conclude (claim 2) (Ok (concluded.Apart Content 1 (claim 2)))
    ∷ trail (numbers 2) (9 ∷ []) (Ok 0) (9 ∷ [])
    ∷ document (numbers 2) (two_schemas V U) ROW_PAIRS LEVELS room_for_six (Ok 5) (0 ∷ 1 ∷ 0 ∷ 0 ∷ 0 ∷ 9 ∷ [])
    ∷ give_up (numbers 1) (Ok 0)
    ∷ give_up (numbers 2) (Ok 1)
    ∷ take_up (two_schemas U V) (Ok (claim 3))
    ∷ step (numbers 3) (two_schemas U V) 1 ROW_PAIRS (Ok (1, 1))
    ∷ conclude (claim 3) (Ok (concluded.Included 1))
    ∷ []

-- the example is a history of area 7, as it is when made
pub record ExampleRuns : Type 0 where
  pub runs : (a : Area) → view a ≡ free 7 0 → (last : Area) × Runs example a last
