-- The node that is found has the tree's value and the symbols of its children. Assumes nothing.
use Rattle.std.proofs.Common.{◌≡◌, ℕ, ◌+◌, ◌<◌, List, [], ◌++◌, length, Some, sym, ap, ◌∙◌, subst}
use Rattle.std.proofs.lemmas.Option.{same_Some}
use Rattle.std.specs.List.{slice_get}
use Rattle.codec.specs.Encoding.{tree_bytes, children_bytes}
use Rattle.codec.specs.Numbers.{number_bytes}
use Rattle.codec.specs.Trees.{Tree, node, word, many}
use Rattle.compare.specs.declared.pairs.Listed.{Listed}
use Rattle.schema.specs.Meaning.{meaning}
use Rattle.compare.specs.Schemas.{StatePair}
use Rattle.compare.specs.Listing.{entries_of}
use Rattle.document.specs.Documents.{AtEnd, Built}
use Rattle.document.specs.Nodes.{Ready}
use Rattle.samples.specs.Samples.{Samples}
use Rattle.samples.specs.Writing.{head_bytes, Leaves}
use Rattle.document.proofs.PathNodes.{states_listed}
use Rattle.document.proofs.Unique.{one_end}
use Rattle.samples.proofs.Outputs.{added_within, crowded_front}
use Rattle.samples.proofs.Lengths.{many_symbols}
use Rattle.samples.proofs.Turning.{AsNode, as_node, node_whole, leaves_more}
use Rattle.document.proofs.counterexample.Counterexample.write_end.Given as given
use Rattle.document.proofs.counterexample.Counterexample.write_end.Goals as goal
use Rattle.document.proofs.counterexample.Counterexample.write_end.Goals.{After-node_at_end}

-- the pair, and what a tree at the end says of it
record Ending (g : given.Over) (c : After-node_at_end g) (t : Tree) : Type 0 where
  as_node : AsNode t
  low : StatePair c.args.self.now.compared c.in_ok-pair.pair.first c.in_ok-pair.pair.second
  end : AtEnd (meaning g.D.Domain.holds c.args.self.now.compared.first.now) (meaning g.D.Domain.holds c.args.self.now.compared.second.now) c.args.self.now.kind c.in_ok-pair.pair.first c.in_ok-pair.pair.second as_node.value (word as_node.children)
  samples : Samples (meaning g.D.Domain.holds c.args.self.now.compared.first.now) c.in_ok-pair.pair.first as_node.children

ending : (g : given.Over) (c : After-node_at_end g) (x : Listed) (t : Tree) → Ready g.D.Domain.holds c.args.self.now → slice_get (entries_of c.args.self.now.pairs.now) c.args.place ≡ Some x → Built (meaning g.D.Domain.holds c.args.self.now.compared.first.now) (meaning g.D.Domain.holds c.args.self.now.compared.second.now) c.args.self.now.kind x.first x.second [] t → Ending g c t
ending g c x t ready there built =
    let self = c.args.self.now in
    let A = meaning g.D.Domain.holds self.compared.first.now in
    let B = meaning g.D.Domain.holds self.compared.second.now in
    let pair : c.in_ok-pair.pair ≡ x = same_Some _ _ (c.in_ok-pair.ensures.answer ∙ there) in
    let r = as_node t in
    let so : Built A B self.kind c.in_ok-pair.pair.first c.in_ok-pair.pair.second [] (node r.value r.children) = subst (λ (y : Listed). Built A B self.kind y.first y.second [] (node r.value r.children)) (sym pair) (subst (Built A B self.kind x.first x.second []) r.is built) in
    record {
      as_node = r;
      low = states_listed g.D.Domain.holds self ready c.args.place c.in_ok-pair.pair (sym c.in_ok-pair.ensures.answer);
      end = so.0;
      samples = so.1;
    }

pub returns-in_err-node-clause-written : goal.returns-in_err-node-clause-written
returns-in_err-node-clause-written g c = λ ready space x t there built.
    let e = ending g (goal.at.returns-in_err-node-clause-written g c).After-node_at_end x t ready there built in
    absurd (c.in_err-node.ensures ready e.low e.as_node.value (word e.as_node.children) e.end)

-- the bytes of the tree, as they are written
whole : (t : Tree) (r : AsNode t) (value count : ℕ) → value ≡ r.value → count ≡ length (word r.children) → (number_bytes value ++ number_bytes count) ++ children_bytes r.children ≡ tree_bytes t
whole t r value count same counted =
    let many : count ≡ many r.children = counted ∙ sym (many_symbols r.children) in
    let head : number_bytes value ++ number_bytes count ≡ head_bytes r.value r.children = λ i. number_bytes (same i) ++ number_bytes (many i) in
    ap (λ (l : List ℕ). l ++ children_bytes r.children) head ∙ node_whole r.value r.children ∙ ap tree_bytes (sym r.is)

pub returns-in_err-head-clause-written : goal.returns-in_err-head-clause-written
returns-in_err-head-clause-written g c = λ ready space x t there built.
    let A = meaning g.D.Domain.holds c.args.self.now.compared.first.now in
    let B = meaning g.D.Domain.holds c.args.self.now.compared.second.now in
    let before = c.args.output.now in
    let node = c.in_ok-node.node in
    let e = ending g (goal.at.returns-in_err-head-clause-written g c).After-node_at_end x t ready there built in
    let same = one_end A B c.args.self.now.kind c.in_ok-pair.pair.first c.in_ok-pair.pair.second node.value e.as_node.value node.word (word e.as_node.children) (c.in_ok-node.ensures ready e.low) e.end in
    let bytes = whole t e.as_node node.value c.len.result same.0 (c.len.ensures.count ∙ ap length same.1) in
    rw c.from_residual-in_err-head.ensures
    (subst (λ (l : List ℕ). length before.bytes.now < before.place + length l) bytes (crowded_front (number_bytes node.value ++ number_bytes c.len.result) (children_bytes e.as_node.children) before c.in_err-head.ensures))

pub returns-clause-written : goal.returns-clause-written
returns-clause-written g c = λ ready space x t there built.
    let self = c.args.self.now in
    let A = meaning g.D.Domain.holds self.compared.first.now in
    let B = meaning g.D.Domain.holds self.compared.second.now in
    let before = c.args.output.now in
    let node = c.in_ok-node.node in
    let e = ending g (goal.at.returns-clause-written g c).After-node_at_end x t ready there built in
    let cs = e.as_node.children in
    let same = one_end A B self.kind c.in_ok-pair.pair.first c.in_ok-pair.pair.second node.value e.as_node.value node.word (word cs) (c.in_ok-node.ensures ready e.low) e.end in
    let head = number_bytes node.value ++ number_bytes c.len.result in
    let bytes : head ++ children_bytes cs ≡ tree_bytes t = whole t e.as_node node.value c.len.result same.0 (c.len.ensures.count ∙ ap length same.1) in
    let children = c.write_samples.ensures.written ready space (added_within head before c.head.new.self c.in_ok-head.ensures) e.low.0 cs e.samples (sym same.1 ∙ sym c.as_slice.ensures.all) in
    subst (λ (l : List ℕ). Leaves l c.args.levels.now.entries before c.write_samples.result c.write_samples.new.levels c.write_samples.new.output) bytes
    (leaves_more head (children_bytes cs) c.args.levels.now.entries before c.head.new.self c.write_samples.new.output c.write_samples.result c.write_samples.new.levels c.in_ok-head.ensures children)
