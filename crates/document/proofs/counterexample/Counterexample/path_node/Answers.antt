-- What is found for the node is what its context says. Assumes nothing.
use Rattle.std.proofs.Common.{◌≡◌, ℕ, ◌∷◌, ◌++◌, Some, sym, ap, ◌∙◌, subst}
use Rattle.std.proofs.lemmas.Option.{same_Some}
use Rattle.std.specs.List.{slice_get}
use Rattle.codec.specs.declared.item.Level.{Level}
use Rattle.codec.specs.Trees.{word}
use Rattle.schema.specs.Meaning.{meaning, IsState}
use Rattle.samples.specs.declared.node.NodeKey.{NodeKey}
use Rattle.samples.specs.declared.node.NodeKey.TheVariants.{Pair}
use Rattle.compare.specs.declared.pairs.Listed.{Listed}
use Rattle.compare.specs.Listing.{entries_of}
use Rattle.document.specs.Documents.{OnPath}
use Rattle.document.specs.Nodes.{Ready}
use Rattle.document.specs.Steps.{LedFrom}
use Rattle.document.proofs.PathNodes.{states_listed}
use Rattle.document.proofs.Places.{context_says}
use Rattle.document.proofs.counterexample.Counterexample.path_node.Given as given
use Rattle.document.proofs.counterexample.Counterexample.path_node.Goals as goal
use Rattle.document.proofs.counterexample.Counterexample.path_node.Goals.{After-node_on_path}

-- the pair is the level's, and the one that it is led from is its parent, a state of the first schema with another
record Met (g : given.Over) (c : After-node_on_path g) (e x : Listed) : Type 0 where
  pair : c.in_ok-pair.pair ≡ e
  from : c.in_ok-from.from ≡ x
  low : IsState c.args.self.now.compared.first.now c.in_ok-from.from.first

met : (g : given.Over) (c : After-node_on_path g) (i : ℕ) (e x : Listed) → Ready g.D.Domain.holds c.args.self.now → c.args.level.at ≡ Pair i → LedFrom (entries_of c.args.self.now.pairs.now) i e x → Met g c e x
met g c i e x ready is led =
    let es = entries_of c.args.self.now.pairs.now in
    let key : ◌≡◌ {A = NodeKey} (Pair c.in-Pair.place) (Pair i) = sym c.in-Pair.is ∙ is in
    let place : c.in-Pair.place ≡ i = cc in
    let pair : c.in_ok-pair.pair ≡ e = same_Some _ _ (c.in_ok-pair.ensures.answer ∙ ap (slice_get es) (c.from.ensures ∙ place) ∙ led.there) in
    let at = ap (slice_get es) (c.from-2.ensures ∙ ap {B = ℕ} (λ (l : Listed). l.parent) pair) in
    let from : c.in_ok-from.from ≡ x = same_Some _ _ (c.in_ok-from.ensures.answer ∙ at ∙ led.parent) in
    record {
      pair = pair;
      from = from;
      low = (states_listed g.D.Domain.holds c.args.self.now ready c.from-2.result c.in_ok-from.from (sym c.in_ok-from.ensures.answer)).0;
    }

pub returns-in_err-node : goal.returns-in_err-node
returns-in_err-node g c = λ ready s is.
    let A = meaning g.D.Domain.holds c.args.self.now.compared.first.now in
    let B = meaning g.D.Domain.holds c.args.self.now.compared.second.now in
    let f = s.context in
    let m = met g (goal.at.returns-in_err-node g c).After-node_on_path s.place s.pair s.from ready (ap (λ (l : Level NodeKey). l.at) is) s.led in
    let w = word f.before ++ s.pair.symbol ∷ word f.after in
    absurd (c.in_err-node.ensures ready m.low f.value w (subst (λ (y : Listed). OnPath A B y.first c.in_ok-pair.pair.symbol f.value w) (sym m.from) (subst (λ (y : Listed). OnPath A B s.from.first y.symbol f.value w) (sym m.pair) f.on_path)))

pub returns : goal.returns
returns g c = λ ready s is.
    let A = meaning g.D.Domain.holds c.args.self.now.compared.first.now in
    let B = meaning g.D.Domain.holds c.args.self.now.compared.second.now in
    let m = met g (goal.at.returns g c).After-node_on_path s.place s.pair s.from ready (ap (λ (l : Level NodeKey). l.at) is) s.led in
    let node = c.in_ok-node.node in
    let found = subst (λ (y : Listed). OnPath A B s.from.first y.symbol node.value node.word) m.pair (subst (λ (y : Listed). OnPath A B y.first c.in_ok-pair.pair.symbol node.value node.word) m.from (c.in_ok-node.ensures ready m.low)) in
    let says = context_says A B s.context node.value node.word found in
    λ j. Some (record { state = (m.from j).first; symbol = (m.pair j).symbol; node = record { value = sym says.0 j; word = sym says.1 j } })
