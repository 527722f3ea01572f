-- The node's tree, with children for its sequence; or there is none. Assumes nothing.
use Rattle.std.proofs.Common.{sym, ◌∙◌}
use Rattle.std.proofs.lemmas.Option.{none-some}
use Rattle.schema.specs.Meaning.{meaning, states_of}
use Rattle.samples.proofs.Sizing.{kept_rooted}
use Rattle.samples.proofs.Tested.{next_inside}
use Rattle.compare.specs.Listing.{entries_of}
use Rattle.document.proofs.PathNodes.{states_listed}
use Rattle.document.proofs.Splitting.{end_children}
use Rattle.document.proofs.Tracing.{ends, ends_nowhere}
use Rattle.document.proofs.counterexample.Counterexample.end.Goals as goal

pub returns-in_err-pair : goal.returns-in_err-pair
returns-in_err-pair g c = λ ready. rw c.from_residual.ensures (λ x t there built. none-some x (c.in_err-pair.ensures.answer ∙ there))

pub returns-in_err-node : goal.returns-in_err-node
returns-in_err-node g c = λ ready.
    let self = c.args.self.now in
    let pair = c.in_ok-pair.pair in
    let there = sym c.in_ok-pair.ensures.answer in
    rw c.from_residual-in_err-node.ensures
    (ends_nowhere (meaning g.D.Domain.holds self.compared.first.now) (meaning g.D.Domain.holds self.compared.second.now) self.kind (entries_of self.pairs.now) c.args.place pair there
    (c.in_err-node.ensures ready (states_listed g.D.Domain.holds self ready c.args.place pair there)))

pub returns : goal.returns
returns g c = λ ready.
    let self = c.args.self.now in
    let t = self.compared.first.now in
    let A = meaning g.D.Domain.holds t in
    let B = meaning g.D.Domain.holds self.compared.second.now in
    let pair = c.in_ok-pair.pair in
    let node = c.in_ok-node.node in
    let there = sym c.in_ok-pair.ensures.answer in
    let low = states_listed g.D.Domain.holds self ready c.args.place pair there in
    let end = c.in_ok-node.ensures ready low in
    let cs = end_children A B (states_of t) (next_inside g.D.Domain.holds t) (kept_rooted A (states_of t) self.samples ready.samples) self.kind pair.first pair.second node.value node.word low.0 end in
    ends A B self.kind (entries_of self.pairs.now) c.args.place pair there node.value c.end_size.result node.word end cs (c.end_size.ensures ready low.0 cs.0 cs.2 cs.1)
