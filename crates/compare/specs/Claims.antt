-- Answers that carry a claim: what they say without it, and that the very claim comes back. Assumes
-- nothing.
use Rattle.std.specs.Prelude.{◌≡◌, Ok, Err, Result}
use Rattle.refusal.specs.declared.fault.Refusal.{Refusal}
use Rattle.compare.specs.declared.claim.Lease.{Lease}

-- an answer, or a refusal, that carries a claim: the same without the claim
abbrev pub less_claim : {X S : Type 0} → Result (X × Lease S) (Refusal × Lease S) → Result X Refusal
less_claim (Ok r) = Ok r.0
less_claim (Err e) = Err e.0

-- an answer, or a refusal that carries a claim: the same without the claim
abbrev pub less_refused : {X C : Type 0} → Result X (Refusal × C) → Result X Refusal
less_refused (Ok x) = Ok x
less_refused (Err e) = Err e.0

-- the claim comes back, with an answer and with a refusal
abbrev pub ComesBack : {X S : Type 0} → Lease S → Result (X × Lease S) (Refusal × Lease S) → Type 0
ComesBack claim (Ok r) = r.1 ≡ claim
ComesBack claim (Err e) = e.1 ≡ claim

-- the claim comes back with a refusal
abbrev pub RefusedBack : {X C : Type 0} → C → Result X (Refusal × C) → Type 0
RefusedBack claim (Ok x) = Unit {0}
RefusedBack claim (Err e) = e.1 ≡ claim
