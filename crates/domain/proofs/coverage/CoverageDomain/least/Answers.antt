-- The smallest value of all ranges together. Assumes nothing.
use Rattle.std.proofs.Common.{List, sym, refl, ◌∙◌, subst}
use Rattle.std.proofs.lemmas.List.{take_all}
use Rattle.domain.specs.declared.coverage.Range.{Range}
use Rattle.domain.specs.Kinds.{some, in_range}
use Rattle.domain.specs.Sets.{Smallest}
use Rattle.domain.proofs.Ranges.{some_more}
use Rattle.domain.proofs.Same.{smallest_of_same}
use Rattle.domain.proofs.coverage.CoverageDomain.least.Goals as goal

pub loop-range-init : goal.loop-range-init
loop-range-init c = λ v h. refl

pub loop-range-preserved : goal.loop-range-preserved
loop-range-preserved c =
    smallest_of_same _ _ _ (λ v _. sym (some_more in_range c.used-range-items.result.now c.loop-range.range-index _ v c.loop-range-test.true))
    (c.smaller-best.ensures _ _ c.loop-range.invariant c.least.ensures)

pub returns : goal.returns
returns c =
    let all = take_all c.loop-range.range-index c.used-range-items.result.now c.loop-range-test.false in
    subst (λ (rs : List Range). Smallest (some in_range rs) c.loop-range.best) (all ∙ c.used-range-items.ensures) c.loop-range.invariant
