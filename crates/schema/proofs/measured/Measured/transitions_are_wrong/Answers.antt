-- Each symbol's transition is tried. Assumes nothing.
use Rattle.std.proofs.Common.{rules}
use Rattle.schema.specs.Faults.{stray}
use Rattle.schema.specs.Tables.{tables, transition_byte}
use Rattle.schema.proofs.Chains.{some_below_from_any}
use Rattle.schema.proofs.measured.Measured.transitions_are_wrong.Goals as goal

pub returns : goal.returns
returns g c =
    let s = c.args.self.now.schema in
    some_below_from_any _ _ c.any.result s.symbols (λ a. stray s.states (transition_byte (tables s) c.args.state a)) c.any.ensures.ran (λ x b q k. search rules)
