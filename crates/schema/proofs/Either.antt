-- The fault of two schemas, kind by kind. Assumes nothing.
use Rattle.std.proofs.Common.{◌≡◌, false, List, ◌∷◌, None, Option, ap, ◌∙◌}
use Rattle.refusal.specs.declared.fault.Fault.TheVariants.{State, Row, Domain}
use Rattle.refusal.specs.declared.fault.Refusal.{Refusal}
use Rattle.refusal.specs.Order.{first_of}
use Rattle.schema.specs.Faults.{size_fault, at_lowest, faulty, either_at_lowest, either_fault}
use Rattle.schema.specs.Tables.{Tables}
use Rattle.schema.proofs.Sizes.{sound_tables}
use Rattle.schema.proofs.Sound.{first_none}

skip : (o : Option Refusal) (os : List (Option Refusal)) → o ≡ None → first_of (o ∷ os) ≡ first_of os
skip o os none = ap (λ p. first_of (p ∷ os)) none

-- two schemas without a fault have none together
pub either_none : (T U : Tables) → faulty T ≡ false → faulty U ≡ false → either_fault T U ≡ None
either_none T U fine also =
    let t = first_none (size_fault T) _ (sound_tables T fine) in
    let u = first_none (size_fault U) _ (sound_tables U also) in
    let t-states = first_none (at_lowest T State) _ t.1 in
    let u-states = first_none (at_lowest U State) _ u.1 in
    let t-rows = first_none (at_lowest T Row) _ t-states.1 in
    let u-rows = first_none (at_lowest U Row) _ u-states.1 in
    let t-domains = first_none (at_lowest T Domain) _ t-rows.1 in
    let u-domains = first_none (at_lowest U Domain) _ u-rows.1 in
    skip (size_fault T) _ t.0 ∙ skip (size_fault U) _ u.0
    ∙ skip (either_at_lowest T U State) _ (skip (at_lowest T State) _ t-states.0 ∙ skip (at_lowest U State) _ u-states.0)
    ∙ skip (either_at_lowest T U Row) _ (skip (at_lowest T Row) _ t-rows.0 ∙ skip (at_lowest U Row) _ u-rows.0)
    ∙ skip (either_at_lowest T U Domain) _ (skip (at_lowest T Domain) _ t-domains.0 ∙ skip (at_lowest U Domain) _ u-domains.0)
