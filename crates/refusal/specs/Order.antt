-- Tests in order: the first that finds something decides. Assumes nothing.
use Rattle.std.specs.Prelude.{◌≡◌, List, [], ◌∷◌, Some, None, Ok, Err, Option, Result}
use Rattle.refusal.specs.declared.fault.Refusal.{Refusal}

-- the first thing that is there
abbrev pub first_of : {X : Type 0} → List (Option X) → Option X
first_of [] = None
first_of (Some x ∷ os) = Some x
first_of (None ∷ os) = first_of os

-- the answer of a test: it passes where there is no refusal, and else the refusal is given
abbrev pub Refuses : {X : Type 0} → Option Refusal → Result X Refusal → Type 0
Refuses o (Ok x) = o ≡ None
Refuses o (Err e) = o ≡ Some e
