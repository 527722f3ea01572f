-- What the tests of the tables tell, and schemas as they were handed over. Assumes nothing.
use Rattle.std.proofs.Common.{◌≡◌, false, [], ◌∷◌, Some, None, Option, refl, ap, ◌∙◌, subst}
use Rattle.refusal.specs.declared.fault.Refusal.{Refusal}
use Rattle.refusal.specs.Order.{first_of}
use Rattle.schema.specs.Faults.{faulty, either_fault}
use Rattle.schema.specs.Tables.{Tables}
use Rattle.schema.proofs.Either.{either_none}

-- of schemas without a fault, what keeps them from the work is the refusal
pub past_either : (T U : Tables) (k o : Option Refusal) → faulty T ≡ false → faulty U ≡ false → k ≡ o → first_of (either_fault T U ∷ k ∷ []) ≡ o
past_either T U k o fine also is = ap (λ p. first_of (p ∷ k ∷ [])) (either_none T U fine also) ∙ ap (λ p. first_of (p ∷ [])) is ∙ last o
  where
    last : (o : Option Refusal) → first_of (o ∷ []) ≡ o
    last (Some x) = refl
    last None = refl

-- what holds of two things holds of two that are the same
pub in_both : {X : Type 0} (P : X → X → Type 0) {a b c d : X} → a ≡ b → c ≡ d → P a c → P b d
in_both P {a} {b} {c} {d} first second is = subst (λ x. P x d) first (subst (P a) second is)
