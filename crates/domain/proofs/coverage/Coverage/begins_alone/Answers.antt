-- The smallest candidate of all the ranges. Assumes nothing.
use Rattle.std.proofs.Common.{List, ◌∙◌, subst}
use Rattle.std.proofs.lemmas.List.{take_all}
use Rattle.domain.specs.declared.coverage.Range.{Range}
use Rattle.domain.specs.Kinds.{some, begins, has_letter}
use Rattle.domain.specs.Sets.{Smallest, alone, both}
use Rattle.domain.proofs.Ranges.{both_more}
use Rattle.domain.proofs.Same.{smallest_of_same}
use Rattle.domain.proofs.coverage.Coverage.begins_alone.Goals as goal

pub loop-range-preserved : goal.loop-range-preserved
loop-range-preserved c =
    smallest_of_same _ _ _ (λ v _. both_more (alone (has_letter c.args.self.now) (has_letter c.args.other.now)) begins c.used-range-items.result.now c.loop-range.range-index _ v c.loop-range-test.true)
    (c.smaller-best.ensures _ _ c.loop-range.invariant c.only.ensures)

pub returns : goal.returns
returns c =
    let all = take_all c.loop-range.range-index c.used-range-items.result.now c.loop-range-test.false in
    subst (λ (rs : List Range). Smallest (both (alone (has_letter c.args.self.now) (has_letter c.args.other.now)) (some begins rs)) c.loop-range.best) (all ∙ c.used-range-items.ensures) c.loop-range.invariant
