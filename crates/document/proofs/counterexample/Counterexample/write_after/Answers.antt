-- The children after. Assumes nothing.
use Rattle.std.proofs.Common.{◌≡◌, ℕ, sym, ap, ◌∙◌, subst}
use Rattle.schema.specs.Meaning.{meaning, IsState}
use Rattle.samples.specs.Samples.{Samples}
use Rattle.document.specs.declared.write.PathNode.{PathNode}
use Rattle.document.proofs.PathNodes.{sides, states_listed}
use Rattle.document.proofs.counterexample.Counterexample.write_after.Goals as goal

pub returns-clause-written : goal.returns-clause-written
returns-clause-written g c = λ ready space within s is.
    let t = c.args.self.now.compared.first.now in
    let state : c.args.path_node.now.state ≡ s.from.first = ap (λ (r : PathNode). r.state) is in
    let low : IsState t c.args.path_node.now.state = subst (IsState t) (sym state) (states_listed g.D.Domain.holds c.args.self.now ready s.pair.parent s.from s.led.parent).0 in
    let around = c.in_ok-after.ensures in
    let after = (sides s c.args.path_node.now is c.in_ok-after.field-0-0.now c.in_ok-after.after.now (sym c.as_slice.ensures.all ∙ around.0) around.1).1 in
    c.write_samples.ensures.written ready space within low s.context.after (subst (λ (r : ℕ). Samples (meaning g.D.Domain.holds t) r s.context.after) (sym state) s.context.samples_after) after
