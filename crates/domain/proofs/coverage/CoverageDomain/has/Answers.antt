-- The loop asks each range in use. Assumes nothing.
use Rattle.std.proofs.Common.{List, sym, refl, ap, ◌∙◌}
use Rattle.std.proofs.lemmas.List.{take_all}
use Rattle.std.proofs.lemmas.Bool.{or_from}
use Rattle.domain.specs.declared.coverage.Range.{Range}
use Rattle.domain.specs.Kinds.{some, in_range}
use Rattle.domain.proofs.Ranges.{some_more, some_at}
use Rattle.domain.proofs.coverage.CoverageDomain.has.Goals as goal

pub loop-range-init : goal.loop-range-init
loop-range-init c = refl

pub returns-then-has : goal.returns-then-has
returns-then-has c =
    let found = some_at in_range c.used-range-items.result.now c.loop-range.range-index _ c.args.value c.loop-range-test.true (sym c.if-has.ensures) in
    sym found ∙ ap (λ (rs : List Range). some in_range rs c.args.value) c.used-range-items.ensures

pub loop-range-preserved : goal.loop-range-preserved
loop-range-preserved c =
    some_more in_range c.used-range-items.result.now c.loop-range.range-index _ c.args.value c.loop-range-test.true
    ∙ or_from _ _ c.loop-range.invariant (sym c.if-has.ensures)

pub returns : goal.returns
returns c =
    let all = take_all c.loop-range.range-index c.used-range-items.result.now c.loop-range-test.false in
    sym c.loop-range.invariant ∙ ap (λ (rs : List Range). some in_range rs c.args.value) (all ∙ c.used-range-items.ensures)
