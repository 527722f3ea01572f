use Rattle.std.proofs.Common.{ltb, rules, ap, ◌∙◌}
use Rattle.schema.specs.Automata.{passes}
use Rattle.schema.proofs.Chains.{passes_from_is_some_and}
use Rattle.samples.proofs.samples.is_below.Goals as goal

pub returns : goal.returns
returns c = passes_from_is_some_and c.rank_at.result c.is_some_and.result (λ m. ltb m c.args.rank) c.is_some_and.ensures (λ x told. search rules) ∙ ap (λ o. passes o (λ m. ltb m c.args.rank)) c.rank_at.ensures
