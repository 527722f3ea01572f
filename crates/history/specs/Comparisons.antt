-- Comparisons on an area, and what the law asks of one: how it was stepped, whether it ended, and
-- what is asked of it now. Assumes nothing.
use Rattle.std.specs.Prelude.{◌≡◌, ℕ, ◌*◌, ◌≤◌, Bool, true, false, ◌⊎◌, List, None, Ok, Err}
use Rattle.std.specs.List.{AllByRecursion, list_any}
use Rattle.refusal.specs.declared.fault.Refusal.{Refusal}
use Rattle.search.specs.declared.pairs.TheConstants.{ROW_PAIRS}
use Rattle.compare.specs.declared.area.Area.{Area}
use Rattle.compare.specs.declared.claim.Comparing.{Comparing}
use Rattle.compare.specs.declared.claim.Lease.{Lease}
use Rattle.compare.specs.declared.claim.Numbers.{Numbers}
use Rattle.compare.specs.declared.conclude.Concluded.{Concluded}
use Rattle.compare.specs.declared.event.Event.TheVariants.{Conclude}
use Rattle.compare.specs.Concluding.{claim_refusal, Conclusion}
use Rattle.compare.specs.NotHolder.{is_holder}
use Rattle.compare.specs.View.{view}
use Rattle.document.specs.declared.document.TheConstants.{LEVELS}
use Rattle.history.specs.Calls.{Handed, Same, Call, document, Does, Runs, is_made_with, some_own, is_beginning, Starts, is_ousting, is_conclusion, is_parting, is_giving_up, granted, StepsOver}

-- a comparison on an area
pub record Comparison (a : Area) : Type 0 where
  -- the calls before it, and the area as they left it
  pub before : List Call
  pub at : Area
  pub reached : Runs before a at
  -- the call that began it, with its schemas and its claim's numbers
  pub call : Call
  pub begun : Area
  pub begins : Does call at begun
  pub schemas : Handed
  pub claim : Numbers
  pub starts : Starts call schemas claim
  -- the calls since, and the area now
  pub since : List Call
  pub now : Area
  pub goes_on : Runs since begun now

module _ {a : Area} (c : Comparison a) where
  -- some call of its own passes the test
  abbrev pub own_call : (Call → Bool) → Bool
  own_call test = some_own c.claim test c.since

  -- its own accepted steps were handed the schemas that it began with
  abbrev pub StepsOverItsOwn : Type 0
  StepsOverItsOwn = AllByRecursion (StepsOver c.claim c.schemas) c.since

  -- it was granted at least as many steps as the product of the state counts
  abbrev pub GrantedAllPairs : Type 0
  GrantedAllPairs = c.schemas.first.states * c.schemas.second.states ≤ granted c.claim c.since

  -- its claim is the holder
  abbrev pub IsHolder : Type 0
  IsHolder = is_holder (view c.now) c.claim ≡ true

  -- neither ousted nor given up
  pub record NeitherOustedNorGivenUp : Type 0 where
    pub unousted : list_any is_ousting c.since ≡ false
    pub kept : own_call is_giving_up ≡ false

  -- concluded apart, and its claim is the holder
  pub record ApartAndHolder : Type 0 where
    pub parted : own_call is_parting ≡ true
    pub holder : IsHolder

  -- its conclude has been accepted, or would be now
  abbrev pub HasVerdict : Type 0
  HasVerdict = (own_call is_conclusion ≡ true) ⊎ (claim_refusal (view c.now) c.claim Conclude ≡ None)

  -- its conclude is accepted now, with this conclusion
  pub record ConcludesNow (v : Concluded) : Type 0 where
    pub claim : Lease Comparing
    pub own : claim.numbers ≡ c.claim
    pub after : Area
    pub does : Conclusion c.now claim (Ok v) after

  -- a document of its schemas, asked for now with its numbers and scratch enough, is refused
  pub record DocumentRefused (e : Refusal) : Type 0 where
    pub handed : Handed
    pub same : Same c.schemas handed
    pub slots : ℕ
    pub enough_slots : ROW_PAIRS ≤ slots
    pub levels : ℕ
    pub enough_levels : LEVELS ≤ levels
    pub output : List ℕ
    pub left : List ℕ
    pub after : Area
    pub does : Does (document c.claim handed slots levels output (Err e) left) c.now after

  -- another comparison has begun on the area since
  abbrev pub AnotherBegan : Type 0
  AnotherBegan = list_any is_beginning c.since ≡ true

  -- the call is made now, with its claim or its numbers, and leaves the area so
  pub record OwnNow (d : Call) (after : Area) : Type 0 where
    pub own : is_made_with c.claim d ≡ true
    pub does : Does d c.now after
