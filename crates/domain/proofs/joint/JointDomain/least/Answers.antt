-- The smallest value of the two halves, at the sets of the two domains. Assumes nothing.
use Rattle.domain.proofs.joint.JointDomain.least.Goals as goal

pub returns : goal.returns
returns g c = c.lower.ensures _ _ c.least.ensures c.least-2.ensures
