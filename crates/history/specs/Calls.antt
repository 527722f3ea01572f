-- The calls that handle an area, each with what was handed over and what came of it, and lists of
-- them. Assumes nothing.
use Rattle.std.specs.Prelude.{◌≡◌, ℕ, ◌+◌, ◌^◌, ◌<◌, Bool, true, false, cond, ◌&&◌, List, [], ◌∷◌, Ok, Result, ◌==◌}
use Rattle.std.specs.List.{list_any}
use Rattle.refusal.specs.declared.fault.Refusal.{Refusal}
use Rattle.schema.specs.Automata.{Automaton}
use Rattle.schema.specs.Tables.{Tables, automaton}
use Rattle.compare.specs.declared.area.Area.{Area}
use Rattle.compare.specs.declared.claim.Comparing.{Comparing}
use Rattle.compare.specs.declared.claim.Lease.{Lease}
use Rattle.compare.specs.declared.claim.Numbers.{Numbers}
use Rattle.compare.specs.declared.conclude.Concluded.{Concluded}
use Rattle.compare.specs.declared.conclude.Concluded.TheVariants as concluded
use Rattle.compare.specs.declared.event.Event.TheVariants.{Take, Oust}
use Rattle.compare.specs.Beginning.{Beginning}
use Rattle.compare.specs.Concluding.{Conclusion, GivingUp}
use Rattle.compare.specs.Stepping.{Stepping}
use Rattle.compare.specs.Trailing.{Trailing}
use Rattle.document.specs.Writing.{Documenting}

-- two schemas as they are handed over: their tables, and their domains as sets of values
pub record Handed : Type 0 where
  pub first : Tables
  pub second : Tables
  pub first_sets : List (ℕ → Bool)
  pub second_sets : List (ℕ → Bool)

-- the automaton of the first schema, and of the second
abbrev pub first_automaton : Handed → Automaton
first_automaton h = automaton h.first h.first_sets

abbrev pub second_automaton : Handed → Automaton
second_automaton h = automaton h.second h.second_sets

-- the domains are, place by place, the same sets of values
abbrev pub SameSets : List (ℕ → Bool) → List (ℕ → Bool) → Type 0
SameSets [] [] = Unit {0}
SameSets (s ∷ ss) (t ∷ ts) = ((v : ℕ) → v < 2 ^ 32 → s v ≡ t v) × SameSets ss ts
SameSets ss ts = ⊥

-- the same two schemas: equal tables, and the same sets
pub record Same (h g : Handed) : Type 0 where
  pub first : h.first ≡ g.first
  pub second : h.second ≡ g.second
  pub first_sets : SameSets h.first_sets g.first_sets
  pub second_sets : SameSets h.second_sets g.second_sets

-- a call, with what was handed over, what was answered, and what an output holds before and after.
-- A claim is told by its two numbers, whatever its kind; conclude's is handed over whole. A step is
-- told how many pairs; scratch is lent in so many row pairs, and levels
pub data Call : Type 0 where
  take_up : Handed → Result (Lease Comparing) Refusal → Call
  oust : Handed → Result (Lease Comparing) Refusal → Call
  step : Numbers → Handed → ℕ → ℕ → Result (ℕ × ℕ) Refusal → Call
  conclude : Lease Comparing → Result Concluded (Refusal × Lease Comparing) → Call
  trail : Numbers → List ℕ → Result ℕ Refusal → List ℕ → Call
  document : Numbers → Handed → ℕ → ℕ → List ℕ → Result ℕ Refusal → List ℕ → Call
  give_up : Numbers → Result ℕ Refusal → Call

-- what the call does with an area: just what the contract of the call says
abbrev pub Does : Call → Area → Area → Type 0
Does (take_up h r) a a' = Beginning Take h.first h.second h.first_sets a r a'
Does (oust h r) a a' = Beginning Oust h.first h.second h.first_sets a r a'
Does (step n h steps slots r) a a' = Stepping h.first h.second h.first_sets h.second_sets n steps slots a r a'
Does (conclude c r) a a' = Conclusion a c r a'
Does (trail n o r o') a a' = Trailing a n o r o' × (a' ≡ a)
Does (document n h slots levels o r o') a a' =
    Documenting h.first h.second h.first_sets h.second_sets n slots levels a o r o' × (a' ≡ a)
Does (give_up n r) a a' = GivingUp a n r a'

-- a list of calls, each taking over the area as those before left it
abbrev pub Runs : List Call → Area → Area → Type 0
Runs [] a a' = a' ≡ a
Runs (c ∷ cs) a a' = (m : Area) × Does c a m × Runs cs m a'

-- the two numbers are these
abbrev pub same_numbers : Numbers → Numbers → Bool
same_numbers n m = m.area == n.area && m.serial == n.serial

-- the call is made with the claim of these numbers, or told them
abbrev pub is_made_with : Numbers → Call → Bool
is_made_with n (take_up h r) = false
is_made_with n (oust h r) = false
is_made_with n (step m h steps slots r) = same_numbers n m
is_made_with n (conclude c r) = same_numbers n c.numbers
is_made_with n (trail m o r o') = same_numbers n m
is_made_with n (document m h slots levels o r o') = same_numbers n m
is_made_with n (give_up m r) = same_numbers n m

-- some call of the list that is made with the claim of these numbers passes the test
abbrev pub some_own : Numbers → (Call → Bool) → List Call → Bool
some_own n test cs = list_any (λ d. is_made_with n d && test d) cs

-- the call is an accepted take or oust: it begins a comparison
abbrev pub is_beginning : Call → Bool
is_beginning (take_up h (Ok c)) = true
is_beginning (oust h (Ok c)) = true
is_beginning d = false

-- the call begins a comparison of these schemas, and its claim has these numbers
abbrev pub Starts : Call → Handed → Numbers → Type 0
Starts (take_up h (Ok c)) g n = (g ≡ h) × (n ≡ c.numbers)
Starts (oust h (Ok c)) g n = (g ≡ h) × (n ≡ c.numbers)
Starts d g n = ⊥

-- the call is an accepted oust
abbrev pub is_ousting : Call → Bool
is_ousting (oust h (Ok c)) = true
is_ousting d = false

-- the call is an accepted conclude
abbrev pub is_conclusion : Call → Bool
is_conclusion (conclude c (Ok v)) = true
is_conclusion d = false

-- the call is an accepted conclude that answers included
abbrev pub is_inclusion : Call → Bool
is_inclusion (conclude c (Ok (concluded.Included n))) = true
is_inclusion d = false

-- the call is an accepted conclude that answers apart
abbrev pub is_parting : Call → Bool
is_parting (conclude c (Ok (concluded.Apart k n claim))) = true
is_parting d = false

-- the call is an accepted trail or document
abbrev pub is_writing : Call → Bool
is_writing (trail m o (Ok size) o') = true
is_writing (document m h slots levels o (Ok size) o') = true
is_writing d = false

-- the call is an accepted give up
abbrev pub is_giving_up : Call → Bool
is_giving_up (give_up m (Ok n)) = true
is_giving_up d = false

-- how many steps the call grants: the number that it asks for, where it is an accepted step told
-- these numbers
abbrev pub granted_by : Numbers → Call → ℕ
granted_by n (step m h steps slots (Ok answer)) = cond (same_numbers n m) steps 0
granted_by n d = 0

-- the steps granted, added up
abbrev pub granted : Numbers → List Call → ℕ
granted n [] = 0
granted n (c ∷ cs) = granted_by n c + granted n cs

-- how many pairs the call tells that it examined: the first number that an accepted step answers
-- which is told these numbers
abbrev pub told_by : Numbers → Call → ℕ
told_by n (step m h steps slots (Ok answer)) = cond (same_numbers n m) answer.0 0
told_by n d = 0

-- the pairs told, added up
abbrev pub told : Numbers → List Call → ℕ
told n [] = 0
told n (c ∷ cs) = told_by n c + told n cs

-- an accepted step told these numbers was handed these schemas; nothing is said of other calls
abbrev pub StepsOver : Numbers → Handed → Call → Type 0
StepsOver n g (step m h steps slots (Ok answer)) = same_numbers n m ≡ true → Same g h
StepsOver n g d = Unit {0}
