-- Each symbol of the sequence is the next child's, whose sample is written behind it. Assumes nothing.
use Rattle.std.proofs.Common.{◌≡◌, ℕ, ◌+◌, ◌<◌, ◌≤◌, length, Some, sym, refl, ap, ◌∙◌, subst, arith}
use Rattle.std.proofs.lemmas.Option.{none-some, same_Some}
use Rattle.codec.specs.Encoding.{children_bytes}
use Rattle.codec.specs.Numbers.{number_bytes}
use Rattle.codec.specs.Trees.{Children, word, heights}
use Rattle.schema.specs.Tables.{sets}
use Rattle.schema.specs.Meaning.{meaning, states_of}
use Rattle.samples.specs.Samples.{Sample, Samples}
use Rattle.samples.specs.Kept.{HasSamples}
use Rattle.samples.specs.Outputs.{Within, Appended}
use Rattle.samples.proofs.Brothers.{Partly, Next, unwritten, all_written, next, crowded_symbol, crowded_tree, one_more}
use Rattle.samples.proofs.Tested.{next_inside}
use Rattle.samples.proofs.writing.write_children.Given as given
use Rattle.samples.proofs.writing.write_children.Goals as goal
use Rattle.samples.proofs.writing.write_children.Goals.{After-next_state}

-- the next child, and the state that is found for it
record Coming (g : given.Over) (c : After-next_state g) (cs : Children) : Type 0 where
  partly : Partly (meaning g.D.Domain.holds c.args.tested.now) c.args.state c.args.word.now (length c.args.levels.now.free) c.args.output.now (children_bytes cs) c.loop-symbol.symbol-index c.loop-symbol.output
  next : Next (meaning g.D.Domain.holds c.args.tested.now) c.args.state c.args.word.now (length c.args.levels.now.free) c.args.output.now (children_bytes cs) c.loop-symbol.symbol-index c.loop-symbol.output partly
  found : c.next_state.result ≡ Some next.state
  inside : next.state < states_of c.args.tested.now
  levels : c.loop-symbol.levels.entries ≡ c.args.levels.now.entries
  free : length c.loop-symbol.levels.free ≡ length c.args.levels.now.free

coming : (g : given.Over) (c : After-next_state g) → HasSamples g.D.Domain.holds c.args.tested.now c.args.samples.now → (cs : Children) → c.args.state < states_of c.args.tested.now → Samples (meaning g.D.Domain.holds c.args.tested.now) c.args.state cs → word cs ≡ c.args.word.now → heights cs ≤ length c.args.levels.now.free → Within c.args.output.now → Coming g c cs
coming g c has cs low s symbols fits within =
    let A = meaning g.D.Domain.holds c.args.tested.now in
    let schema = c.args.tested.now.measured.schema in
    let so = c.loop-symbol.invariant.written has cs low s symbols fits within in
    let n = next A c.args.state c.args.word.now (length c.args.levels.now.free) c.args.output.now (children_bytes cs) c.loop-symbol.symbol-index c.loop-symbol.output so.0 (omega (arith, c.loop-symbol-test.true)) in
    record {
      partly = so.0;
      next = n;
      found = c.next_state.ensures (sets g.D.Domain.holds schema) ∙ n.leads;
      inside = next_inside g.D.Domain.holds c.args.tested.now c.args.state _ n.state low n.leads;
      levels = so.1;
      free = omega (arith, c.loop-symbol.invariant.slots, ap length so.1);
    }

pub loop-symbol-init : goal.loop-symbol-init
loop-symbol-init g c =
    record {
      slots = refl;
      written = λ has cs low s symbols fits within. (unwritten _ _ _ _ _ _ cs s symbols fits within refl, refl);
    }

pub returns-in_err-next-clause-written : goal.returns-in_err-next-clause-written
returns-in_err-next-clause-written g c = λ has cs low s symbols fits within.
    let n = coming g (goal.at.returns-in_err-next-clause-written g c).After-next_state has cs low s symbols fits within in
    absurd (none-some _ (sym c.in_err-next.was ∙ n.found))

pub returns-in_err-number-clause-written : goal.returns-in_err-number-clause-written
returns-in_err-number-clause-written g c = λ has cs low s symbols fits within.
    let n = coming g (goal.at.returns-in_err-number-clause-written g c).After-next_state has cs low s symbols fits within in
    let output = c.loop-symbol.output in
    let short = subst (λ (a : ℕ). length output.bytes.now < output.place + length (number_bytes a)) c.from.ensures c.in_err-number.ensures in
    rw c.from_residual-in_err-number.ensures (crowded_symbol _ _ _ _ _ _ _ _ n.partly n.next short)

pub returns-in_err-write_sample-clause-written : goal.returns-in_err-write_sample-clause-written
returns-in_err-write_sample-clause-written g c = λ has cs low s symbols fits within.
    let A = meaning g.D.Domain.holds c.args.tested.now in
    let n = coming g (goal.at.returns-in_err-write_sample-clause-written g c).After-next_state has cs low s symbols fits within in
    let same : c.in_ok-next.next ≡ n.next.state = same_Some _ _ (sym c.in_ok-next.was ∙ n.found) in
    let symbol = subst (λ (a : ℕ). Appended (number_bytes a) c.loop-symbol.output c.number.new.self) c.from.ensures c.in_ok-number.ensures in
    let short = c.in_err-write_sample.ensures.written has n.next.tree (omega (arith, same, n.inside)) (subst (λ (p : ℕ). Sample A p n.next.tree) (sym same) n.next.sample) (omega (arith, n.next.fits, n.free)) in
    rw c.from_residual-in_err-write_sample.ensures (crowded_tree _ _ _ _ _ _ _ _ n.partly n.next c.number.new.self symbol short)

pub loop-symbol-preserved : goal.loop-symbol-preserved
loop-symbol-preserved g c =
    record {
      slots = c.write_sample.ensures.slots ∙ c.loop-symbol.invariant.slots;
      written = λ has cs low s symbols fits within.
          let A = meaning g.D.Domain.holds c.args.tested.now in
          let n = coming g (goal.at.loop-symbol-preserved g c).After-next_state has cs low s symbols fits within in
          let same : c.in_ok-next.next ≡ n.next.state = same_Some _ _ (sym c.in_ok-next.was ∙ n.found) in
          let symbol = subst (λ (a : ℕ). Appended (number_bytes a) c.loop-symbol.output c.number.new.self) c.from.ensures c.in_ok-number.ensures in
          let tree = c.in_ok-write_sample.ensures.written has n.next.tree (omega (arith, same, n.inside)) (subst (λ (p : ℕ). Sample A p n.next.tree) (sym same) n.next.sample) (omega (arith, n.next.fits, n.free)) in
          (one_more _ _ _ _ _ _ _ _ n.partly n.next c.number.new.self symbol c.write_sample.new.output tree.0, tree.1 ∙ n.levels);
    }

pub returns-clause-written : goal.returns-clause-written
returns-clause-written g c = λ has cs low s symbols fits within.
    let so = c.loop-symbol.invariant.written has cs low s symbols fits within in
    (all_written _ _ _ _ _ _ c.loop-symbol.symbol-index c.loop-symbol.output (omega (arith, c.loop-symbol-test.false)) so.0, so.1)
