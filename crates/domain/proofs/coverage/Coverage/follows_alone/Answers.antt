-- The smallest candidate of all the ranges. Assumes nothing.
use Rattle.std.proofs.Common.{ℕ, ◌+◌, eqb, List, take, sym, ap, ◌∙◌, subst, arith}
use Rattle.std.proofs.lemmas.List.{take_all}
use Rattle.std.proofs.lemmas.Bool.{ne_eqb}
use Rattle.domain.specs.declared.coverage.Range.{Range}
use Rattle.domain.specs.Kinds.{some, follows, has_letter}
use Rattle.domain.specs.Making.{at}
use Rattle.domain.specs.Sets.{Smallest, alone, either, both}
use Rattle.domain.proofs.Ranges.{both_more, both_none}
use Rattle.domain.proofs.Same.{smallest_of_same}
use Rattle.domain.proofs.coverage.Coverage.follows_alone.Goals as goal
use Rattle.domain.proofs.coverage.Coverage.follows_alone.Goals.{in-Some, in_default}

pub loop-range-preserved : goal.loop-range-preserved
loop-range-preserved c =
    let set = alone (has_letter c.args.self.now) (has_letter c.args.other.now) in
    let ranges = c.used-range-items.result.now in
    let i = c.loop-range.range-index in
    let more = λ (v : ℕ). both_more set follows ranges i _ v c.loop-range-test.true in
    elim c.match-checked_add.branch [
      | in-Some w ↦
          let next = w.in-Some.ensures.1 in
          subst (Smallest (both set (some follows (take (i + 1) ranges)))) (sym w.best-is)
          (smallest_of_same _ _ _ (λ v _. ap (λ (n : ℕ). either (both set (some follows (take i ranges))) (both set (eqb n)) v) next ∙ more v)
          (w.smaller-best.ensures _ _ c.loop-range.invariant w.only.ensures))
      | in_default w ↦
          subst (Smallest (both set (some follows (take (i + 1) ranges)))) (sym w.best-is)
          (smallest_of_same _ _ _ (λ v fits. both_none set (some follows (take i ranges)) (follows (at ranges i)) v (ne_eqb _ v (λ e. w.in_default.ensures (omega arith))) ∙ more v) c.loop-range.invariant)
    ]

pub returns : goal.returns
returns c =
    let all = take_all c.loop-range.range-index c.used-range-items.result.now c.loop-range-test.false in
    subst (λ (rs : List Range). Smallest (both (alone (has_letter c.args.self.now) (has_letter c.args.other.now)) (some follows rs)) c.loop-range.best) (all ∙ c.used-range-items.ensures) c.loop-range.invariant
