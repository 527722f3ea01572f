-- The value, the count, the children before and the symbol, one behind the other. Assumes nothing.
use Rattle.std.proofs.Common.{◌≡◌, ℕ, sym, ap, ◌∙◌, subst}
use Rattle.codec.specs.Numbers.{number_bytes}
use Rattle.codec.specs.Trees.{word}
use Rattle.schema.specs.Meaning.{meaning, IsState}
use Rattle.samples.specs.Outputs.{Appends}
use Rattle.samples.specs.Samples.{Samples}
use Rattle.samples.proofs.Outputs.{added_within}
use Rattle.document.specs.declared.write.PathNode.{PathNode}
use Rattle.document.specs.Nodes.{Ready}
use Rattle.document.specs.PathNodes.{path_node_of}
use Rattle.document.specs.Steps.{PathStep}
use Rattle.compare.specs.Listing.{entries_of}
use Rattle.document.proofs.PathNodes.{leaves_adds, sides, states_listed, appends_before, crowded_children}
use Rattle.document.proofs.counterexample.Counterexample.write_before.Given as given
use Rattle.document.proofs.counterexample.Counterexample.write_before.Goals as goal
use Rattle.document.proofs.counterexample.Counterexample.write_before.Goals.{In_ok-before}

module _ (g : given.Over) (c : In_ok-before g) (ready : Ready g.D.Domain.holds c.args.self.now) (s : PathStep (meaning g.D.Domain.holds c.args.self.now.compared.first.now) (meaning g.D.Domain.holds c.args.self.now.compared.second.now) (entries_of c.args.self.now.pairs.now)) (is : c.args.path_node.now ≡ path_node_of s) where
  state : c.args.path_node.now.state ≡ s.from.first
  state = ap (λ (r : PathNode). r.state) is

  low : IsState c.args.self.now.compared.first.now c.args.path_node.now.state
  low = subst (IsState c.args.self.now.compared.first.now) (sym state) (states_listed g.D.Domain.holds c.args.self.now ready s.pair.parent s.from s.led.parent).0

  samples : Samples (meaning g.D.Domain.holds c.args.self.now.compared.first.now) c.args.path_node.now.state s.context.before
  samples = subst (λ (r : ℕ). Samples (meaning g.D.Domain.holds c.args.self.now.compared.first.now) r s.context.before) (sym state) s.context.samples_before

  before : word s.context.before ≡ c.in_ok-before.before.now
  before = (sides s c.args.path_node.now is c.in_ok-before.before.now c.in_ok-before.field-0-1.now (sym c.as_slice.ensures.all ∙ c.in_ok-before.ensures.0) c.in_ok-before.ensures.1).0

pub returns-in_err-write_samples-clause-written : goal.returns-in_err-write_samples-clause-written
returns-in_err-write_samples-clause-written g c = λ ready space s is.
    let at = (goal.at.returns-in_err-write_samples-clause-written g c).In_ok-before in
    let short = c.in_err-write_samples.ensures.written ready space (added_within _ _ _ c.in_ok-head.ensures) (low g at ready s is) s.context.before (samples g at ready s is) (before g at ready s is) in
    rw c.from_residual-in_err-write_samples.ensures (crowded_children s c.args.path_node.now is c.len.result c.len.ensures.count c.args.output.now c.head.new.self c.in_ok-head.ensures short)

pub returns-clause-written : goal.returns-clause-written
returns-clause-written g c = λ ready space s is.
    let at = (goal.at.returns-clause-written g c).In_ok-before in
    let children = c.in_ok-write_samples.ensures.written ready space (added_within _ _ _ c.in_ok-head.ensures) (low g at ready s is) s.context.before (samples g at ready s is) (before g at ready s is) in
    let symbol = subst (λ (a : ℕ). Appends (number_bytes a) c.write_samples.new.output c.number.result c.number.new.self) c.from.ensures c.number.ensures in
    leaves_adds _ _ c.args.output.now _ c.number.result _
    (appends_before s c.args.path_node.now is c.len.result c.len.ensures.count c.args.output.now c.head.new.self c.in_ok-head.ensures c.write_samples.new.output c.number.new.self c.number.result children.0 symbol) children.1
