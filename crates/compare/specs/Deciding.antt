-- What an accepted call does is what the table of phases and events decides, and where the phase
-- makes a call come too early. Assumes nothing.
use Rattle.std.specs.Prelude.{◌≡◌, ℕ, suc, Bool, cond, ◌⊎◌, List, Ok, Err, ◌==◌}
use Rattle.refusal.specs.declared.fault.Fault.TheVariants.{Early}
use Rattle.refusal.specs.declared.fault.Refusal.{Refusal}
use Rattle.schema.specs.Automata.{Automaton}
use Rattle.schema.specs.Tables.{Tables, automaton}
use Rattle.compare.specs.declared.area.Area.{Area}
use Rattle.compare.specs.declared.claim.Comparing.{Comparing}
use Rattle.compare.specs.declared.claim.Lease.{Lease}
use Rattle.compare.specs.declared.claim.Numbers.{Numbers}
use Rattle.compare.specs.declared.conclude.Concluded.{Concluded}
use Rattle.compare.specs.declared.conclude.Concluded.TheVariants.{Included, Apart}
use Rattle.compare.specs.declared.event.Decision.{Decision}
use Rattle.compare.specs.declared.event.Decision.TheVariants.{Begin, Examine, Release, Part, Stay}
use Rattle.compare.specs.declared.event.Event.{Event}
use Rattle.compare.specs.declared.event.Event.TheVariants.{Step, Conclude, Write, GiveUp}
use Rattle.compare.specs.declared.phase.Kind.{Kind}
use Rattle.compare.specs.declared.phase.Phase.TheVariants as phase
use Rattle.compare.specs.Beginning.{Beginning}
use Rattle.compare.specs.Concluding.{Conclusion, Frees, GivingUp}
use Rattle.compare.specs.Phases.{decided}
use Rattle.compare.specs.Stepping.{Turns, Stepping}
use Rattle.compare.specs.Trailing.{Trailing}
use Rattle.compare.specs.View.{view, free, in_phase}

-- a comparison is begun where the table begins one, and nowhere else
unfoldable pub BeginsAsDecided : Event → Type 0
BeginsAsDecided e =
    (T U : Tables) (sets : List (ℕ → Bool)) (a : Area) (claim : Lease Comparing) (a' : Area)
    → Beginning e T U sets a (Ok claim) a' → decided a.phase e ≡ Begin

-- what an accepted step does by a decision: it examines, in one turn at least; or the area stays as
-- it was, and 0 pairs and a standing verdict are answered
abbrev pub StepsBy : Automaton → Automaton → Decision → Area → ℕ × ℕ → Area → Type 0
StepsBy A B Examine a answer a' = (k : ℕ) × Turns A B (suc k) (view a) (view a')
StepsBy A B Stay a answer a' = (answer ≡ (0, 1)) × (a' ≡ a)
StepsBy A B d a answer a' = ⊥

-- an accepted step does what the table decides
unfoldable pub StepsAsDecided : Type 0
StepsAsDecided =
    (T U : Tables) (sets others : List (ℕ → Bool)) (claim : Numbers) (n slots : ℕ)
    (a : Area) (answer : ℕ × ℕ) (a' : Area)
    → Stepping T U sets others claim n slots a (Ok answer) a'
    → StepsBy (automaton T sets) (automaton U others) (decided a.phase Step) a answer a'

-- what an accepted conclusion comes to by a decision: released, it is included, and the area is
-- free; parted by a kind, it is apart by that kind, and so is the area
abbrev pub ConcludesBy : Decision → Area → Concluded → Area → Type 0
ConcludesBy Release a (Included n) a' = view a' ≡ free a.number a.serial
ConcludesBy (Part k) a (Apart l n claim) a' = (l ≡ k) × (view a' ≡ in_phase (view a) (phase.Apart k))
ConcludesBy d a c a' = ⊥

-- an accepted conclusion comes to what the table decides
unfoldable pub ConcludesAsDecided : Type 0
ConcludesAsDecided =
    (a : Area) (claim : Lease Comparing) (c : Concluded) (a' : Area) → Conclusion a claim (Ok c) a'
    → ConcludesBy (decided a.phase Conclude) a c a'

-- a trail is written where the table lets the area stay, and nowhere else
unfoldable pub TrailsAsDecided : Type 0
TrailsAsDecided =
    (a : Area) (claim : Numbers) (output : List ℕ) (n : ℕ) (output' : List ℕ)
    → Trailing a claim output (Ok n) output' → decided a.phase Write ≡ Stay

-- what giving up a claim with that serial does by a decision: released, the area is free and 1 is
-- answered, where the serial is the area's; and else it stays as it was, and 0 is answered
abbrev pub GivesUpBy : Decision → Area → ℕ → ℕ → Area → Type 0
GivesUpBy Release a serial n a' = cond (serial == a.serial) (Frees a n a') ((n ≡ 0) × (a' ≡ a))
GivesUpBy Stay a serial n a' = (n ≡ 0) × (a' ≡ a)
GivesUpBy d a serial n a' = ⊥

-- an accepted giving up does what the table decides
unfoldable pub GivesUpAsDecided : Type 0
GivesUpAsDecided =
    (a : Area) (claim : Numbers) (n : ℕ) (a' : Area)
    → GivingUp a claim (Ok n) a' → GivesUpBy (decided a.phase GiveUp) a claim.serial n a'

-- no trail meets `early` in an area that is apart
unfoldable pub TrailNotEarly : Type 0
TrailNotEarly =
    (a : Area) (claim : Numbers) (output : List ℕ) (e : Refusal) (output' : List ℕ)
    → Trailing a claim output (Err e) output' → e.fault ≡ Early → (k : Kind) → a.phase ≡ phase.Apart k → ⊥

-- a conclusion meets `early` in an area that runs or is apart, and in no other
unfoldable pub ConclusionEarly : Type 0
ConclusionEarly =
    (a : Area) (claim : Lease Comparing) (e : Refusal × Lease Comparing) (a' : Area)
    → Conclusion a claim (Err e) a' → e.0.fault ≡ Early
    → (a.phase ≡ phase.Running) ⊎ ((k : Kind) × (a.phase ≡ phase.Apart k))
