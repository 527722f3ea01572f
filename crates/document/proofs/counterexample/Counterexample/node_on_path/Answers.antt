-- The watcher wants the sequences that hold the symbol. Assumes nothing.
use Rattle.schema.specs.Meaning.{meaning}
use Rattle.search.specs.Watching.{wanted, holding, Holds}
use Rattle.document.proofs.Finding.{answered}
use Rattle.document.proofs.counterexample.Counterexample.node_on_path.Goals as goal

pub returns : goal.returns
returns g c = λ ready low.
    let a = c.args.symbol in
    answered (meaning g.D.Domain.holds c.args.self.now.compared.first.now) c.args.state (wanted (holding c.new.result.symbol)) (Holds a) c.new.ensures.means c.least_with.result (c.least_with.ensures ready low)
