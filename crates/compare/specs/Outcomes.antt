-- Each call has one outcome: what it does follows from what it is handed, a claim by its numbers.
-- Assumes nothing.
use Rattle.std.specs.Prelude.{◌≡◌, ℕ, Bool, ◌⊎◌, List, Ok, Err, Result}
use Rattle.refusal.specs.declared.fault.Refusal.{Refusal}
use Rattle.schema.specs.Automata.{Automaton}
use Rattle.schema.specs.Tables.{Tables, automaton}
use Rattle.compare.specs.declared.area.Area.{Area}
use Rattle.compare.specs.declared.claim.Comparing.{Comparing}
use Rattle.compare.specs.declared.claim.Lease.{Lease}
use Rattle.compare.specs.declared.claim.Numbers.{Numbers}
use Rattle.compare.specs.declared.conclude.Concluded.{Concluded}
use Rattle.compare.specs.declared.conclude.Concluded.TheVariants as concluded
use Rattle.compare.specs.declared.event.Event.{Event}
use Rattle.compare.specs.declared.phase.Kind.{Kind}
use Rattle.compare.specs.declared.phase.Phase.TheVariants as phase
use Rattle.compare.specs.declared.phase.Verdict.TheVariants as verdict
use Rattle.compare.specs.Beginning.{Beginning}
use Rattle.compare.specs.Concluding.{Conclusion, GivingUp}
use Rattle.compare.specs.Invariant.{LastBroken}
use Rattle.compare.specs.Stepping.{Stepping}
use Rattle.compare.specs.Trailing.{Trailing}
use Rattle.compare.specs.View.{View, view, in_phase}

-- the same is answered, where a relation says when two values are the same; refusals are equal, and
-- what goes back with them too
abbrev pub SameAnswer : {X E : Type 0} → (X → X → Type 0) → Result X E → Result X E → Type 0
SameAnswer Same (Ok x) (Ok y) = Same x y
SameAnswer Same (Err e) (Err f) = e ≡ f
SameAnswer Same r s = ⊥

-- two claims of one kind with the same numbers
abbrev pub SameClaim : {S : Type 0} → Lease S → Lease S → Type 0
SameClaim c d = c.numbers ≡ d.numbers

-- the same conclusion: kind, count, and the claim's numbers
abbrev pub SameConclusion : Concluded → Concluded → Type 0
SameConclusion (concluded.Included n) (concluded.Included m) = n ≡ m
SameConclusion (concluded.Apart k n c) (concluded.Apart l m d) = (k ≡ l) × (n ≡ m) × SameClaim c d
SameConclusion c d = ⊥

-- two areas have one view; or both are ready with apart, and differ at most in the kind: then
-- the pair examined last is broken in both ways
abbrev pub ButForKind : Automaton → Automaton → View → View → Type 0
ButForKind A B w v =
    (v ≡ w)
    ⊎ ((k l : Kind)
    × (w.phase ≡ phase.Ready (verdict.Apart k))
    × (v ≡ in_phase w (phase.Ready (verdict.Apart l)))
    × LastBroken A B w k
    × LastBroken A B w l)

-- a beginning has one answer, and leaves one area
unfoldable pub OneBeginning : Type 0
OneBeginning =
    (e : Event) (T U : Tables) (sets : List (ℕ → Bool))
    (a : Area) (r s : Result (Lease Comparing) Refusal) (b c : Area)
    → Beginning e T U sets a r b → Beginning e T U sets a s c → SameAnswer SameClaim r s × (b ≡ c)

-- a step has one answer, and leaves one area, but for the kind of a pair that is broken in both
-- ways
unfoldable pub OneStepping : Type 0
OneStepping =
    (T U : Tables) (sets others : List (ℕ → Bool)) (claim : Numbers) (n slots : ℕ)
    (a : Area) (r s : Result (ℕ × ℕ) Refusal) (b c : Area)
    → Stepping T U sets others claim n slots a r b → Stepping T U sets others claim n slots a s c
    → (r ≡ s) × ButForKind (automaton T sets) (automaton U others) (view b) (view c)

-- a conclusion has one answer, and leaves one area
unfoldable pub OneConclusion : Type 0
OneConclusion =
    (a : Area) (claim : Lease Comparing) (r s : Result Concluded (Refusal × Lease Comparing)) (b c : Area)
    → Conclusion a claim r b → Conclusion a claim s c → SameAnswer SameConclusion r s × (b ≡ c)

-- giving up has one answer, and leaves one area
unfoldable pub OneGivingUp : Type 0
OneGivingUp =
    (a : Area) (claim : Numbers) (r s : Result ℕ Refusal) (b c : Area)
    → GivingUp a claim r b → GivingUp a claim s c → (r ≡ s) × (b ≡ c)

-- a trail has one answer, and leaves one output
unfoldable pub OneTrailing : Type 0
OneTrailing =
    (a : Area) (claim : Numbers) (output : List ℕ) (r s : Result ℕ Refusal) (one other : List ℕ)
    → Trailing a claim output r one → Trailing a claim output s other → (r ≡ s) × (one ≡ other)
