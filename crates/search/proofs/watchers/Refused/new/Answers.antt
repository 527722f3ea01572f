-- It follows the rows of the state until they are gone. Assumes nothing.
use Rattle.search.proofs.Meanings.{wants_refused}
use Rattle.search.proofs.Underway.{fenced}
use Rattle.search.proofs.watchers.Refused.new.Goals as goal

pub returns-clause-means : goal.returns-clause-means
returns-clause-means g c = λ low. wants_refused _ _ _ _ (fenced g.D.Domain.holds c.args.tested.now c.args.state low)
