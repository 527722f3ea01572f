-- Examining pairs: what one pair leads to, and what a step answers. Assumes nothing.
use Rattle.std.specs.Prelude.{◌≡◌, ℕ, zero, suc, ◌+◌, ◌-◌, ◌≤◌, Bool, true, false, cond, ◌⊎◌, List, [], ◌∷◌, length, Some, None, Ok, Err, Decides, Option, Result, ◌==◌}
use Rattle.std.specs.List.{slice_get}
use Rattle.refusal.specs.declared.fault.Refusal.{Refusal}
use Rattle.refusal.specs.Order.{first_of}
use Rattle.schema.specs.Automata.{Automaton}
use Rattle.schema.specs.Faults.{either_fault}
use Rattle.schema.specs.Live.{LiveSymbol}
use Rattle.schema.specs.Tables.{Tables, automaton}
use Rattle.search.specs.Scratch.{short_scratch}
use Rattle.compare.specs.declared.area.Area.{Area}
use Rattle.compare.specs.declared.claim.Numbers.{Numbers}
use Rattle.compare.specs.declared.pairs.Listed.{Listed}
use Rattle.compare.specs.declared.phase.Kind.{Kind}
use Rattle.compare.specs.declared.phase.Phase.{Phase}
use Rattle.compare.specs.declared.phase.Phase.TheVariants as phase
use Rattle.compare.specs.declared.phase.Verdict.TheVariants as verdict
use Rattle.compare.specs.Breaking.{Broken, Unbroken}
use Rattle.compare.specs.Pairs.{with_pair}
use Rattle.compare.specs.Refusals.{held_kept_from, wrong_steps}
use Rattle.compare.specs.View.{View, view, in_phase}

-- the pair of two next states, where both are there and the symbol is live; i is the place of the
-- pair that led to it
abbrev pub next_pair : ℕ → ℕ → Bool → Option ℕ → Option ℕ → Option Listed
next_pair i a true (Some s) (Some u) = Some (record { first = s; second = u; parent = i; symbol = a })
next_pair i a live o p = None

-- the list with the pair that is there, if one is
abbrev pub with_found : Option Listed → List Listed → List Listed
with_found (Some e) es = with_pair es e
with_found None es = es

-- the list with the pair of two next states, where both are there and the symbol is live
abbrev pub with_next : ℕ → ℕ → Bool → Option ℕ → Option ℕ → List Listed → List Listed
with_next i a live s u es = with_found (next_pair i a live s u) es

module _ (A B : Automaton) where
  -- the list with the pairs of next states of (p, q) under the live symbols below n, ascending; (p,
  -- q) is at place i
  abbrev pub with_nexts : (ℕ → Bool) → ℕ → ℕ → ℕ → ℕ → List Listed → List Listed
  with_nexts live p q i zero es = es
  with_nexts live p q i (suc a) es =
      with_next i a (live a) (A.next p a) (B.next q a) (with_nexts live p q i a es)

-- the area with one pair more examined, these pairs listed, and another phase
abbrev pub examined_to : View → List Listed → Phase → View
examined_to w es p = record w { phase = p; pairs = es; examined = w.examined + 1 }

-- ready with included where every listed pair is examined, and running where not
abbrev pub going_on : ℕ → List Listed → Phase
going_on examined es = cond (examined == length es) (phase.Ready verdict.Included) phase.Running

-- the area with these pairs listed and another phase
abbrev pub listed_to : View → List Listed → Phase → View
listed_to w es p = record w { phase = p; pairs = es }

module _ (A B : Automaton) where
  -- the area's list with the pairs of next states of a pair at place i under its live symbols
  abbrev pub with_all_nexts : View → Listed → ℕ → (ℕ → Bool) → List Listed
  with_all_nexts w e i live = with_nexts A B live e.first e.second i w.symbols w.pairs

  -- the area after a broken pair was examined
  abbrev pub after_broken : View → Kind → View
  after_broken w k = examined_to w w.pairs (phase.Ready (verdict.Apart k))

  -- and after an unbroken one
  abbrev pub after_unbroken : View → Listed → (ℕ → Bool) → View
  after_unbroken w e live =
      let es = with_all_nexts w e w.examined live in
      examined_to w es (going_on (w.examined + 1) es)

  -- the test says which symbols are live at a state
  abbrev pub SaysLive : ℕ → (ℕ → Bool) → Type 0
  SaysLive p live = (a : ℕ) → Decides (live a) (LiveSymbol A p a)

  -- the pairs of next states of a pair under its live symbols are listed; it is at place i
  pub record GoesOn (w : View) (pair : Listed) (i : ℕ) (w' : View) : Type 0 where
    pub live : ℕ → Bool
    pub exact : SaysLive pair.first live
    pub after :
        let es = with_all_nexts w pair i live in
        w' ≡ listed_to w es (going_on (i + 1) es)

  -- examining a broken pair makes the area ready with apart
  abbrev pub ExaminesBroken : View → Listed → View → Type 0
  ExaminesBroken w e w' = (k : Kind) × Broken A B k e.first e.second × (w' ≡ after_broken w k)

  -- examining an unbroken one lists its pairs of next states, and where no pair is left to examine
  -- the area is ready with included
  abbrev pub ExaminesUnbroken : View → Listed → View → Type 0
  ExaminesUnbroken w e w' =
      Unbroken A B e.first e.second
      × ((live : ℕ → Bool) × SaysLive e.first live × (w' ≡ after_unbroken w e live))

  -- the next pair in the list is examined
  pub record Examines (w w' : View) : Type 0 where
    pub pair : Listed
    pub at : slice_get w.pairs w.examined ≡ Some pair
    pub outcome : ExaminesBroken w pair w' ⊎ ExaminesUnbroken w pair w'

  -- one turn: the next pair is examined; where none is left, the area is ready with included
  abbrev pub Turn : View → View → Type 0
  Turn w w' =
      ((slice_get w.pairs w.examined ≡ None) × (w' ≡ in_phase w (phase.Ready verdict.Included)))
      ⊎ Examines w w'

  -- so many turns, each of a running area
  abbrev pub Turns : ℕ → View → View → Type 0
  Turns zero w w' = w' ≡ w
  Turns (suc k) w w' = (v : View) × Turns k w v × (v.phase ≡ phase.Running) × Turn v w'

  -- at most n turns, and as many as that where the area still runs
  pub record Stepped (n : ℕ) (w w' : View) : Type 0 where
    pub taken : ℕ
    pub few : taken ≤ n
    pub turns : Turns taken w w'
    pub until : w'.phase ≡ phase.Running → taken ≡ n

-- the area runs
abbrev pub is_running : Phase → Bool
is_running phase.Running = true
is_running p = false

-- what keeps sound schemas from a step of the claim with these numbers, which asks for n pairs and
-- lends so many slots
abbrev pub step_kept_from : View → Tables → Tables → Numbers → ℕ → ℕ → Option Refusal
step_kept_from w T U claim n slots =
    first_of (held_kept_from w T U claim ∷ wrong_steps w n ∷ short_scratch slots ∷ [])

-- the refusal of a step, in the order of the tests
abbrev pub step_refusal : View → Tables → Tables → Numbers → ℕ → ℕ → Option Refusal
step_refusal w T U claim n slots = first_of (either_fault T U ∷ step_kept_from w T U claim n slots ∷ [])

-- up to n pairs were examined: how many, and 1 where the verdict stands, else 0
pub record StepsOn (A B : Automaton) (n : ℕ) (w : View) (answer : ℕ × ℕ) (w' : View) : Type 0 where
  pub stepped : Stepped A B n w w'
  pub count : answer.0 ≡ w'.examined - w.examined
  pub mark : answer.1 ≡ cond (is_running w'.phase) 0 1

-- the one outcome: the pairs are examined, or the first refusal leaves the whole area as found
abbrev pub Stepping : Tables → Tables → List (ℕ → Bool) → List (ℕ → Bool) → Numbers → ℕ → ℕ → Area
    → Result (ℕ × ℕ) Refusal → Area → Type 0
Stepping T U sets others claim n slots a (Ok answer) a' =
    (step_refusal (view a) T U claim n slots ≡ None)
    × StepsOn (automaton T sets) (automaton U others) n (view a) answer (view a')
Stepping T U sets others claim n slots a (Err e) a' =
    (step_refusal (view a) T U claim n slots ≡ Some e) × (a' ≡ a)
