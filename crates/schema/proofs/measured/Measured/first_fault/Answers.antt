-- Each state is tried. Assumes nothing.
use Rattle.std.proofs.Common.{rules, Some, sym, ap, ◌∙◌}
use Rattle.std.specs.Option.{option_map}
use Rattle.schema.specs.Faults.{wrong_at}
use Rattle.schema.specs.Tables.{tables}
use Rattle.schema.proofs.Chains.{lowest_from_find}
use Rattle.schema.proofs.measured.Measured.first_fault.Goals as goal

pub returns-in-Some : goal.returns-in-Some
returns-in-Some g c =
    let T = tables c.args.self.now.schema in
    let lowest = lowest_from_find _ _ c.find.result T.states (wrong_at T c.args.fault) c.find.ensures.ran (λ x b q k. search rules) ∙ c.in-Some.is in
    ap (option_map (λ q. record { fault = c.args.fault; place = q })) lowest ∙ ap Some (sym c.at.ensures)

pub returns-in-None : goal.returns-in-None
returns-in-None g c =
    let T = tables c.args.self.now.schema in
    let lowest = lowest_from_find _ _ c.find.result T.states (wrong_at T c.args.fault) c.find.ensures.ran (λ x b q k. search rules) ∙ c.in-None.is in
    ap (option_map (λ q. record { fault = c.args.fault; place = q })) lowest
