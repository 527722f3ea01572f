-- It is written where it has room, which its size tells. Assumes nothing.
use Rattle.std.proofs.Common.{◌≡◌, ℕ, ◌<◌, ◌+◌, ◌⊎◌, length, sym, refl, ap, ◌∙◌, inl, inr, arith}
use Rattle.refusal.specs.declared.fault.Fault.TheVariants.{Room}
use Rattle.codec.specs.Encoding.{tree_bytes}
use Rattle.samples.specs.declared.size.TheConstants.{TOO_LONG}
use Rattle.samples.specs.Kept.{needed}
use Rattle.document.proofs.Calling.{ok_there, err_none, added_at, crowded_at}
use Rattle.document.proofs.counterexample.Counterexample.write_traced.Goals as goal
use Rattle.document.proofs.counterexample.Counterexample.write_traced.Goals.{then-size-gt-LONGEST-via-then-size-gt-LONGEST, then-size-gt-LONGEST-via-else-size-gt-LONGEST+then-bytes-size}

pub returns-then-size-gt-LONGEST : goal.returns-then-size-gt-LONGEST
returns-then-size-gt-LONGEST g c = λ ready space d.
    let long : (length c.args.bytes.now < needed d.tree) ⊎ (needed d.tree ≡ TOO_LONG) = elim c.then-size-gt-LONGEST.branch [
      | then-size-gt-LONGEST-via-then-size-gt-LONGEST w ↦ inr (omega (arith, d.bytes, w.if-size-gt-LONGEST.true))
      | then-size-gt-LONGEST-via-else-size-gt-LONGEST+then-bytes-size w ↦ inl (omega (arith, d.bytes, w.if-bytes-size.true))
    ] in
    ((long, c.at-room.ensures ∙ ap (λ (n : ℕ). record { fault = Room; place = n }) d.bytes), refl)

pub returns-in_err-ok_or : goal.returns-in_err-ok_or
returns-in_err-ok_or g c = λ ready space d.
    let wrote = c.write.ensures.written ready space (omega arith) c.args.size d in
    let none = err_none c.write.result c.at-room.result c.in_err-ok_or.field-0.0 (sym c.in_err-ok_or.was ∙ c.ok_or.ensures.value) in
    let short : length c.args.bytes.now < 0 + length (tree_bytes d.tree) = crowded_at (tree_bytes d.tree) _ _ c.write.new.output c.write.result c.write.new.levels wrote none.0 in
    absurd (omega (arith, short, d.bytes, c.if-size-gt-LONGEST.false, c.if-bytes-size.false))

pub returns : goal.returns
returns g c = λ ready space d.
    let wrote = c.write.ensures.written ready space (omega arith) c.args.size d in
    let added = added_at (tree_bytes d.tree) _ _ c.write.new.output c.write.result c.write.new.levels c.in_ok-ok_or.field-0 wrote (ok_there c.write.result c.at-room.result c.in_ok-ok_or.field-0 (sym c.in_ok-ok_or.was ∙ c.ok_or.ensures.value)) in
    let long : c.write.new.output.place ≡ length (tree_bytes d.tree) = omega (arith, added.written.next_place) in (
      long,
      omega (arith, long, d.bytes, c.if-size-gt-LONGEST.false),
      omega (arith, long, d.bytes, c.if-size-gt-LONGEST.false, c.if-bytes-size.false),
      grind (arith, sym added.lent, added.written.after),
    )
