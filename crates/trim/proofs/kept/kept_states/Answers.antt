-- States are done until none is left. Assumes nothing.
use Rattle.bits.specs.Bits.{bit}
use Rattle.schema.specs.Tables.{automaton_of}
use Rattle.trim.proofs.Keeping.{after_live, led_start, led_here, led_more, led_done}
use Rattle.trim.proofs.kept.kept_states.Goals as goal

pub loop-state-init : goal.loop-state-init
loop-state-init g c = λ mask. led_start g.D.Domain.holds c.args.tested.now c.args.permitted c.with_member-reached.result c.with_member-reached.ensures.adds

pub loop-state-preserved : goal.loop-state-preserved
loop-state-preserved g c = λ mask.
    let t = c.args.tested.now in
    let q = c.in-Some.state in
    let so = c.loop-state.invariant mask in
    let low = led_here g.D.Domain.holds t c.args.permitted c.loop-state.reached c.loop-state.done q so c.in-Some.ensures in
    led_more g.D.Domain.holds t c.args.permitted c.loop-state.reached c.loop-state.done q c.with_member-done.result c.states_after-reached.result so c.in-Some.ensures c.with_member-done.ensures.adds
    (after_live (automaton_of g.D.Domain.holds t.measured.schema) (bit c.args.permitted) (bit c.live_symbols-symbols.result) q c.loop-state.reached c.states_after-reached.result (c.live_symbols-symbols.ensures low mask) c.states_after-reached.ensures)

pub returns : goal.returns
returns g c = λ mask start q.
    let led = led_done g.D.Domain.holds c.args.tested.now c.args.permitted c.loop-state.reached c.loop-state.done (c.loop-state.invariant mask) c.in_default.ensures q in
    (λ h. (((mask 0).0 start).1, led.0 h), λ kept. led.1 kept.1)
