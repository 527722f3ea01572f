-- The sample begins, each turn writes what the levels have left, and down at the levels that were there before all of it is written.
-- Assumes nothing.
use Rattle.std.proofs.Common.{ℕ, ◌+◌, ◌<◌, List, length, sym, refl, ap, ◌∙◌, subst, arith}
use Rattle.codec.specs.Encoding.{tree_bytes, children_bytes}
use Rattle.codec.specs.Trees.{Tree, height}
use Rattle.schema.specs.Meaning.{meaning, states_of}
use Rattle.samples.specs.Samples.{Sample}
use Rattle.samples.specs.Writing.{head_bytes}
use Rattle.samples.proofs.Growing.{Inside}
use Rattle.samples.proofs.Outputs.{crowded_front}
use Rattle.samples.proofs.Turning.{as_node, node_whole}
use Rattle.samples.proofs.Underway.{Underway, begun, finished, going, turned, crowded}
use Rattle.samples.proofs.Tested.{next_inside}
use Rattle.samples.proofs.writing.write_sample.Given as given
use Rattle.samples.proofs.writing.write_sample.Goals as goal
use Rattle.samples.proofs.writing.write_sample.Goals.{Start, After-begin}

inside : (g : given.Over) (c : Start g) → Inside (meaning g.D.Domain.holds c.args.tested.now) (states_of c.args.tested.now)
inside g c = next_inside g.D.Domain.holds c.args.tested.now

pub returns-in_err-begin-clause-written : goal.returns-in_err-begin-clause-written
returns-in_err-begin-clause-written g c = λ has t low s fits.
    let A = meaning g.D.Domain.holds c.args.tested.now in
    let before = c.args.output.now in
    let n = as_node t in
    let short = c.in_err-begin.ensures.begins A _ n.value n.children has low (subst (Sample A c.args.state) n.is s) (omega (arith, fits)) in
    rw c.from_residual.ensures
    (
    subst (λ (u : Tree). length before.bytes.now < before.place + length (tree_bytes u)) (sym n.is)
    (subst (λ (l : List ℕ). length before.bytes.now < before.place + length l) (node_whole n.value n.children) (crowded_front (head_bytes n.value n.children) (children_bytes n.children) before short))
    )

pub loop-levels-init : goal.loop-levels-init
loop-levels-init g c =
    let A = meaning g.D.Domain.holds c.args.tested.now in
    let before = c.args.output.now in
    record {
      slots = c.begin.ensures.slots;
      underway = λ has t low s fits.
          let n = as_node t in
          let sample = subst (Sample A c.args.state) n.is s in
          let start = c.in_ok-begin.ensures.begins A _ n.value n.children has low sample (omega (arith, fits)) in
          subst (λ (u : Tree). Underway A (states_of c.args.tested.now) c.args.levels.now.entries before (tree_bytes u) c.begin.new.levels c.begin.new.output) (sym n.is)
          (begun A _ c.args.levels.now.entries c.args.state n.value n.children low sample before c.begin.new.output c.args.levels.now c.begin.new.levels refl (omega (arith, ap height n.is, fits)) c.begin.ensures.slots start.0 start.1);
    }

pub loop-levels-preserved : goal.loop-levels-preserved
loop-levels-preserved g c =
    let A = meaning g.D.Domain.holds c.args.tested.now in
    let n = states_of c.args.tested.now in
    let high : length c.args.levels.now.entries < length c.loop-levels.levels.entries = omega (arith, c.loop-levels-test.true, c.len.ensures, c.len-base.ensures) in
    record {
      slots = c.turn.ensures.slots ∙ c.loop-levels.invariant.slots;
      underway = λ has t low s fits.
          let in_now = inside g (goal.at.loop-levels-preserved g c).Start in
          let u = c.loop-levels.invariant.underway has t low s fits in
          let top = going A n c.args.levels.now.entries in_now c.args.output.now (tree_bytes t) c.loop-levels.levels c.loop-levels.output u high in
          turned A n c.args.levels.now.entries in_now c.args.output.now (tree_bytes t) c.loop-levels.levels c.loop-levels.output u top _ _ c.turn.ensures.slots
          (c.in_ok-turn.ensures.turns has top.below top.state top.children top.on top.inside top.last top.fits);
    }

pub returns-in_err-turn-clause-written : goal.returns-in_err-turn-clause-written
returns-in_err-turn-clause-written g c = λ has t low s fits.
    let A = meaning g.D.Domain.holds c.args.tested.now in
    let n = states_of c.args.tested.now in
    let high : length c.args.levels.now.entries < length c.loop-levels.levels.entries = omega (arith, c.loop-levels-test.true, c.len.ensures, c.len-base.ensures) in
    let in_now = inside g (goal.at.returns-in_err-turn-clause-written g c).Start in
    let u = c.loop-levels.invariant.underway has t low s fits in
    let top = going A n c.args.levels.now.entries in_now c.args.output.now (tree_bytes t) c.loop-levels.levels c.loop-levels.output u high in
    rw c.from_residual-in_err-turn.ensures
    (
    crowded A n c.args.levels.now.entries in_now c.args.output.now (tree_bytes t) c.loop-levels.levels c.loop-levels.output u top _ _
    (c.in_err-turn.ensures.turns has top.below top.state top.children top.on top.inside top.last top.fits)
    )

pub returns-clause-written : goal.returns-clause-written
returns-clause-written g c = λ has t low s fits.
    let in_now = inside g (goal.at.returns-clause-written g c).Start in
    finished (meaning g.D.Domain.holds c.args.tested.now) (states_of c.args.tested.now) c.args.levels.now.entries in_now c.args.output.now (tree_bytes t) c.loop-levels.levels c.loop-levels.output
    (c.loop-levels.invariant.underway has t low s fits) (omega (arith, c.loop-levels-test.false, c.len.ensures, c.len-base.ensures))
