-- Byte by byte, from the lowest group on. Assumes nothing.
use Rattle.std.proofs.Common.{ℕ, ◌+◌, ◌<◌, length, get_or, set, subst, inl, inr, arith}
use Rattle.codec.specs.Numbers.{number_bytes}
use Rattle.codec.proofs.Spelling.{next_byte}
use Rattle.codec.proofs.Writing.{Upto, upto_more}
use Rattle.codec.proofs.number.spell.Goals as goal
use Rattle.codec.proofs.number.spell.Goals.{then-rest-lt128, else-rest-lt128}

pub loop-slot-preserved : goal.loop-slot-preserved
loop-slot-preserved c =
    let bytes = number_bytes c.args.value in
    let i = c.loop-slot.slot-index in
    let inside : i < length bytes = omega (arith, c.requires, c.loop-slot-test.true, c.loop-slot.auto.slot-index-end) in
    let on = next_byte c.args.value i c.loop-slot.rest c.if-rest-lt128.follows
    (elim c.if-rest-lt128.branch [ then-rest-lt128 w ↦ inl (w.if-rest-lt128.true, w.follows-is) | else-rest-lt128 w ↦ inr (w.if-rest-lt128.false, w.follows-is) ])
    inside (c.loop-slot.invariant.1 inside) in (
      subst (λ (b : ℕ). Upto c.args.slots.now 0 bytes (i + 1) (set c.loop-slot.slots i b)) on.0
          (subst (λ (n : ℕ). Upto c.args.slots.now 0 bytes (i + 1) (set c.loop-slot.slots n (get_or bytes i 0))) (omega arith)
          (upto_more c.args.slots.now 0 bytes i c.loop-slot.slots inside (omega (arith, c.requires)) c.loop-slot.invariant.0)),
      on.1,
    )
