-- It waits for the symbol. Assumes nothing.
use Rattle.search.proofs.Meanings.{wants_held}
use Rattle.search.proofs.watchers.Holding.new.Goals as goal

pub returns-clause-means : goal.returns-clause-means
returns-clause-means c = wants_held c.args.symbol
