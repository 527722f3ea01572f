-- Each number is tried. Assumes nothing.
use Rattle.std.proofs.Common.{◌+◌, sym, subst}
use Rattle.bits.specs.Gathering.{LedOnto}
use Rattle.bits.proofs.Leading.{led_more, led_nowhere, led_all}
use Rattle.bits.proofs.gathering.gather_onto.Goals as goal
use Rattle.bits.proofs.gathering.gather_onto.Goals.{in-Some, in_default}

pub loop-number-preserved : goal.loop-number-preserved
loop-number-preserved g c =
    elim c.match-lead.branch [
      | in-Some w ↦
          subst (LedOnto _ (c.loop-number.number + 1) c.args.before) (sym w.reached-is)
          (led_more _ c.args.before c.loop-number.number c.loop-number.reached w.with_member-reached.result c.lead.result w.in-Some.next c.loop-number.invariant c.lead.ensures w.in-Some.is w.with_member-reached.ensures.adds)
      | in_default w ↦
          subst (LedOnto _ (c.loop-number.number + 1) c.args.before) (sym w.reached-is)
          (led_nowhere _ c.args.before c.loop-number.number c.loop-number.reached c.lead.result c.loop-number.invariant c.lead.ensures w.in_default.is)
    ]

pub returns : goal.returns
returns g c = led_all _ c.args.before c.loop-number.number c.args.count c.loop-number.reached c.loop-number.auto.number-end c.loop-number-test.false c.loop-number.invariant
