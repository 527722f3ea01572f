-- As many symbols as the way down has. Assumes nothing.
use Rattle.std.proofs.Common.{refl, ◌∙◌}
use Rattle.std.proofs.lemmas.Iterator.Consumers.{YieldsList-from_first, count_from_yields_List}
use Rattle.search.specs.Pairs.{row_links}
use Rattle.search.specs.Paths.{descent}
use Rattle.search.specs.declared.reading.Descent.{Descent}
use Rattle.search.proofs.Tracing.{counted}
use Rattle.search.proofs.reading.length.Goals as goal

pub returns : goal.returns
returns c = λ w spells.
    count_from_yields_List _ _ c.count.ensures.ran (YieldsList-from_first (λ x. x) (λ (t : Descent). descent row_links t.pile.now.entries t.at) _ refl) ∙ counted row_links c.args.pile.now.entries c.args.index w spells
