-- Each symbol adds its bytes and those of its sample.
use Rattle.std.proofs.Common.{sym, ap, ◌∙◌, min, List, ℕ}
use Rattle.schema.specs.Meaning.{meaning, states_of}
use Rattle.samples.specs.declared.size.TheConstants.{TOO_LONG}
use Rattle.samples.specs.Kept.{bytes_below, child_bytes}
use Rattle.samples.proofs.Sizing.{counted_more, counted_all, children_counted, samples_sized}
use Rattle.samples.proofs.Tested.{next_inside}
use Rattle.samples.proofs.samples.Samples.children_size.Goals as goal

pub loop-symbol-preserved : goal.loop-symbol-preserved
loop-symbol-preserved g c =
    let f = child_bytes (meaning g.D.Domain.holds c.args.tested.now) c.args.self.now.sizes c.args.state in
    counted_more f c.args.word.now c.loop-symbol.symbol-index c.loop-symbol.size c.child_size.result c.add-size.result c.loop-symbol-test.true c.loop-symbol.invariant c.child_size.ensures c.add-size.ensures.sum

pub returns-clause-noted : goal.returns-clause-noted
returns-clause-noted g c =
    let f = child_bytes (meaning g.D.Domain.holds c.args.tested.now) c.args.self.now.sizes c.args.state in
    counted_all f c.args.word.now c.loop-symbol.symbol-index c.loop-symbol.size c.loop-symbol-test.false c.loop-symbol.invariant

pub returns-clause-samples : goal.returns-clause-samples
returns-clause-samples g c = λ sampled low cs samples is.
    let self = c.args.self.now in
    let t = c.args.tested.now in
    let A = meaning g.D.Domain.holds t in
    let f = child_bytes A self.sizes c.args.state in
    let all = samples_sized A self.sizes c.args.state (states_of t) sampled.sized (next_inside g.D.Domain.holds t) low cs samples in
    counted_all f c.args.word.now c.loop-symbol.symbol-index c.loop-symbol.size c.loop-symbol-test.false c.loop-symbol.invariant ∙ ap (λ (w : List ℕ). min (bytes_below A self.sizes c.args.state w) TOO_LONG) (sym is) ∙ children_counted A self.sizes c.args.state cs all
