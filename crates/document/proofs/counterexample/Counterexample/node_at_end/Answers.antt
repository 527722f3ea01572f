-- The node by the kind; the watcher wants the sequences that the second state does not allow. Assumes nothing.
use Rattle.std.proofs.Common.{◌≡◌, false}
use Rattle.schema.specs.Automata.{allowed}
use Rattle.schema.specs.Meaning.{meaning}
use Rattle.search.specs.Watching.{wanted, refusing}
use Rattle.document.proofs.Finding.{answered, says_not}
use Rattle.document.proofs.counterexample.Counterexample.node_at_end.Goals as goal

pub returns-in-Value : goal.returns-in-Value
returns-in-Value g c = λ ready there. rw c.in-Value.is (c.gap_node.ensures ready there)

pub returns-in-Content : goal.returns-in-Content
returns-in-Content g c = λ ready there.
    let A = meaning g.D.Domain.holds c.args.self.now.compared.first.now in
    let B = meaning g.D.Domain.holds c.args.self.now.compared.second.now in
    let q = c.args.pair.second in
    let r = c.new-watcher.result in
    let W = refusing (meaning g.D.Domain.holds r.tested.now) r.state in
    rw c.in-Content.is
    (answered A c.args.pair.first (wanted W) (λ w. allowed B q w ≡ false) (λ w. says_not (wanted W w) (allowed B q w) (c.new-watcher.ensures.means there.1 w)) c.least_with.result (c.least_with.ensures ready there.0))
