-- The state has the values of the domain with its number. Assumes nothing.
use Rattle.schema.proofs.Domains.{values_found}
use Rattle.schema.proofs.tested.Tested.domain.Goals as goal

pub returns-clause-values : goal.returns-clause-values
returns-clause-values g c = values_found g.D.Domain.holds c.args.self.now.measured.schema c.args.state c.state_byte.result c.get.result c.state_byte.ensures c.get.ensures.lookup
