-- Children that are samples have levels enough. Assumes nothing.
use Rattle.std.proofs.Common.{arith}
use Rattle.document.proofs.PathNodes.{children_fit}
use Rattle.document.proofs.counterexample.Counterexample.write_samples.Goals as goal

pub returns-clause-written : goal.returns-clause-written
returns-clause-written g c = λ ready space within low cs samples is.
    c.write_children.ensures.written ready.samples cs low samples is (omega (arith, children_fit g.D.Domain.holds c.args.self.now ready c.args.state cs low samples, space)) within
