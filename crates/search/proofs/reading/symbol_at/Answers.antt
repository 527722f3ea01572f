-- Counted from the end, the symbol at the position stands on the way down. Assumes nothing.
use Rattle.std.proofs.Common.{sym, refl, ◌∙◌}
use Rattle.std.proofs.lemmas.Iterator.Adapters.{option_map_id}
use Rattle.std.proofs.lemmas.Iterator.Consumers.{YieldsList-from_first, nth_from_yields_List}
use Rattle.search.specs.Pairs.{row_links}
use Rattle.search.specs.Paths.{descent}
use Rattle.search.specs.declared.reading.Descent.{Descent}
use Rattle.search.proofs.Tracing.{symbol_there}
use Rattle.search.proofs.reading.symbol_at.Goals as goal

pub returns : goal.returns
returns c = λ w spells.
    let es = c.args.pile.now.entries in
    let long = c.length-count.ensures w spells in
    let at = nth_from_yields_List _ c.nth.new.self _ c.nth.ensures.ran (YieldsList-from_first (λ x. x) (λ (t : Descent). descent row_links t.pile.now.entries t.at) _ refl) in
    sym (option_map_id c.nth.result) ∙ at ∙ symbol_there row_links es c.args.index w spells c.length-count.result c.args.position long c.if-position-count.false
