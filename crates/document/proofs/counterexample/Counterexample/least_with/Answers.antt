-- The search finds the first of the live sequences that are wanted, and it is short enough to be kept. Assumes nothing.
use Rattle.std.proofs.Common.{arith}
use Rattle.bits.specs.Bits.{bit}
use Rattle.schema.specs.Meaning.{meaning, states_of}
use Rattle.samples.proofs.Tested.{next_inside}
use Rattle.document.proofs.Finding.{shortest_live, none_live}
use Rattle.document.proofs.counterexample.Counterexample.least_with.Goals as goal

pub returns-in_err-word : goal.returns-in_err-word
returns-in_err-word g c = λ ready low.
    let t = c.args.self.now.compared.first.now in
    let none = c.in_err-word.ensures.answer low (omega (arith, g.met.W.Watcher.few)) in
    rw c.from_residual-in_err-word.ensures
    (none_live (meaning g.D.Domain.holds t) (states_of t) c.args.self.now.compared.live c.args.state low (next_inside g.D.Domain.holds t) ready.live (bit c.symbols_into.result) c.symbols_into.ensures (g.W.Watcher.watching c.args.watcher.now) none)

pub returns : goal.returns
returns g c = λ ready low.
    let t = c.args.self.now.compared.first.now in
    let found = c.in_ok-word.ensures.answer low (omega (arith, g.met.W.Watcher.few)) in
    (c.in_ok-value.ensures, shortest_live (meaning g.D.Domain.holds t) (states_of t) c.args.self.now.compared.live c.args.state low (next_inside g.D.Domain.holds t) ready.live (bit c.symbols_into.result) c.symbols_into.ensures (g.W.Watcher.watching c.args.watcher.now) c.in_ok-word.word found)
