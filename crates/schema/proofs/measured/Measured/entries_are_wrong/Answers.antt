-- Each symbol's entry is tried. Assumes nothing.
use Rattle.std.proofs.Common.{rules}
use Rattle.schema.specs.Faults.{stray}
use Rattle.schema.specs.Tables.{tables, row_count, row_byte}
use Rattle.schema.proofs.Chains.{some_below_from_any}
use Rattle.schema.proofs.measured.Measured.entries_are_wrong.Goals as goal

pub returns : goal.returns
returns g c =
    let T = tables c.args.self.now.schema in
    some_below_from_any _ _ c.any.result T.symbols (λ a. stray (row_count T c.args.state) (row_byte T c.args.state c.args.row a)) c.any.ensures.ran (λ x b q k. search rules)
