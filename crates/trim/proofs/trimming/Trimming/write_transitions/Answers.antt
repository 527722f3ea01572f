-- Symbol by symbol. Assumes nothing.
use Rattle.std.proofs.Common.{arith}
use Rattle.trim.specs.Trimming.{old_tables, new_transition_of}
use Rattle.trim.proofs.Lines.{filled}
use Rattle.trim.proofs.trimming.Trimming.write_transitions.Goals as goal

pub returns : goal.returns
returns g c =
    let t = c.args.self.now in
    filled (new_transition_of t c.args.state) (old_tables t).symbols c.loop-symbol.line (omega (arith, c.loop-symbol.auto.line, c.requires)) (λ k low. c.loop-symbol.invariant k (omega (arith, c.loop-symbol.auto.line, c.requires, c.loop-symbol-test.false)))
