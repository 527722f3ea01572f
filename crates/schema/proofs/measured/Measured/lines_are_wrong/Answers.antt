-- Each row of the state is tried. Assumes nothing.
use Rattle.std.proofs.Common.{rules, ap, ◌∙◌}
use Rattle.schema.specs.Below.{some_below}
use Rattle.schema.specs.Faults.{line_wrong}
use Rattle.schema.specs.Tables.{tables}
use Rattle.schema.proofs.Chains.{some_below_from_any}
use Rattle.schema.proofs.measured.Measured.lines_are_wrong.Goals as goal

pub returns : goal.returns
returns g c =
    let test = line_wrong (tables c.args.self.now.schema) c.args.state in
    some_below_from_any _ _ c.any.result c.state_byte.result test c.any.ensures.ran (λ x b q k. search rules) ∙ ap (λ n. some_below n test) c.state_byte.ensures
