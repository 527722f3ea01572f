-- Step by step back to the first pair. Assumes nothing.
use Rattle.std.proofs.Common.{◌≡◌, ℕ, ◌+◌, ◌<◌, List, length, min, Some, Decides, sym, refl, ap, ◌∙◌, subst, arith}
use Rattle.std.specs.List.{slice_get}
use Rattle.std.proofs.lemmas.Bool.{eqb-true, eq-eqb}
use Rattle.std.proofs.lemmas.Option.{none-some, slice_get_within}
use Rattle.std.proofs.lemmas.List.{length-map}
use Rattle.codec.specs.declared.item.Level.{Level}
use Rattle.schema.specs.Meaning.{meaning}
use Rattle.samples.specs.declared.size.TheConstants.{TOO_LONG}
use Rattle.compare.specs.Listing.{entries_of}
use Rattle.compare.proofs.Views.{kept_of, many_of}
use Rattle.samples.specs.declared.node.NodeKey.{NodeKey}
use Rattle.samples.specs.declared.node.NodeKey.TheVariants.{Pair}
use Rattle.document.specs.Steps.{path_level}
use Rattle.document.proofs.Tracing.{pushed_on, pushed_slots, Point, begins, goes_back, no_end, no_path_back, ends_at_first}
use Rattle.document.proofs.counterexample.Counterexample.trace.Goals as goal
use Rattle.document.proofs.counterexample.Counterexample.trace.Goals.{then-start-eq0, else-start-eq0}

pub returns-in_err-size-clause-traced : goal.returns-in_err-size-clause-traced
returns-in_err-size-clause-traced g c = λ ready empty free.
    let t = c.args.self.now in
    rw c.from_residual.ensures (no_end (meaning g.D.Domain.holds t.compared.first.now) (meaning g.D.Domain.holds t.compared.second.now) t.kind (entries_of t.pairs.now) c.args.place (c.in_err-size.ensures ready))

pub loop-at-init : goal.loop-at-init
loop-at-init g c =
    record {
      slots = refl;
      point = λ ready empty free.
          let t = c.args.self.now in
          begins (meaning g.D.Domain.holds t.compared.first.now) (meaning g.D.Domain.holds t.compared.second.now) t.kind (entries_of t.pairs.now) c.args.place c.in_ok-size.size c.args.levels.now.entries (c.in_ok-size.ensures ready) empty;
    }

pub returns-in_err-step-clause-traced : goal.returns-in_err-step-clause-traced
returns-in_err-step-clause-traced g c = λ ready empty free.
    let t = c.args.self.now in
    let l = c.loop-at in
    rw c.from_residual-in_err-step.ensures
    (no_path_back (meaning g.D.Domain.holds t.compared.first.now) (meaning g.D.Domain.holds t.compared.second.now) t.kind (entries_of t.pairs.now) c.args.place l.at l.size l.levels.entries (l.invariant.point ready empty free) (omega arith) (c.in_err-step.ensures.back ready))

pub overflow_cast-at : goal.overflow_cast-at
overflow_cast-at g c = omega (arith, c.in_ok-step.ensures.low.1)

pub loop-at-smaller : goal.loop-at-smaller
loop-at-smaller g c = c.in_ok-step.ensures.low.0

pub loop-at-preserved : goal.loop-at-preserved
loop-at-preserved g c =
    record {
      slots = pushed_slots _ _ _ _ c.push.ensures ∙ c.loop-at.invariant.slots;
      point = λ ready empty free.
          let t = c.args.self.now in
          let A = meaning g.D.Domain.holds t.compared.first.now in
          let B = meaning g.D.Domain.holds t.compared.second.now in
          let pairs = t.pairs.now in
          let es = entries_of pairs in
          let i = c.args.place in
          let l = c.loop-at in
          let p = l.invariant.point ready empty free in
          let step = c.in_ok-step.step in
          let next = goes_back A B t.kind es i l.at l.size l.levels.entries step p (c.in_ok-step.ensures.back ready) in
          let inside = slice_get_within es i p.last p.listed in
          let long = ap length p.marked ∙ length-map p.steps (path_level {A = A} {B = B} {es = es}) in
          let some : 0 < length l.levels.free = omega (arith, l.invariant.slots, ap length empty, p.few, long, free, inside, many_of pairs, (kept_of pairs).short, c.loop-at-test.true) in
          let levels = pushed_on l.levels (record { left = step.left; at = Pair l.at }) c.push.result c.push.new.self c.push.ensures some in
          subst (λ (n : ℕ). Point A B t.kind es i step.at n c.push.new.self.entries) (sym c.add-size.ensures.sum) (subst (λ (ls : List (Level NodeKey)). Point A B t.kind es i step.at (min (l.size + step.size) TOO_LONG) ls) (sym levels) next);
    }

pub returns-in_err-start-clause-traced : goal.returns-in_err-start-clause-traced
returns-in_err-start-clause-traced g c = λ ready empty free.
    let p = c.loop-at.invariant.point ready empty free in
    let top : c.loop-at.at ≡ 0 = omega (arith, c.loop-at-test.false) in
    absurd (none-some p.pair (c.in_err-start.ensures.answer ∙ subst (λ (n : ℕ). slice_get (entries_of c.args.self.now.pairs.now) n ≡ Some p.pair) top p.there))

pub returns-clause-traced : goal.returns-clause-traced
returns-clause-traced g c = λ ready empty free.
    let t = c.args.self.now in
    let es = entries_of t.pairs.now in
    let A = meaning g.D.Domain.holds t.compared.first.now in
    let B = meaning g.D.Domain.holds t.compared.second.now in
    let start = c.in_ok-start.start in
    let l = c.loop-at in
    let top : l.at ≡ 0 = omega (arith, c.loop-at-test.false) in
    let p = subst (λ (n : ℕ). Point A B t.kind es c.args.place n l.size l.levels.entries) top (l.invariant.point ready empty free) in
    let tells : Decides c.if-start-eq0.then_some ((start.first ≡ 0) × (start.second ≡ 0)) = elim c.if-start-eq0.branch [
      | then-start-eq0 w ↦ (λ yes. (w.if-start-eq0.true, eqb-true start.second 0 (sym w.then_some-is ∙ yes)), λ both. w.then_some-is ∙ eq-eqb start.second 0 both.1)
      | else-start-eq0 w ↦ (λ yes. absurd (w.if-start-eq0.false (eqb-true start.first 0 (sym w.then_some-is ∙ yes))), λ both. absurd (w.if-start-eq0.false both.0))
    ] in
    ends_at_first A B t.kind es c.args.place start c.if-start-eq0.then_some l.size c.then_some.result l.levels.entries (sym c.in_ok-start.ensures.answer) tells p c.then_some.ensures
