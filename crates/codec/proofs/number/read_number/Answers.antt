-- Each byte is the next group, the last one, or wrong. Assumes nothing.
use Rattle.std.proofs.Common.{◌≡◌, ℕ, ◌+◌, ◌*◌, ◌%◌, ◌^◌, ◌<◌, ◌≤◌, false, List, length, drop, Some, refl, sym, ap, ◌∙◌, subst, slice_index_or, length-drop, arith}
use Rattle.std.specs.List.{slice_get}
use Rattle.std.proofs.lemmas.Option.{slice_get_past, slice_get_within}
use Rattle.codec.specs.Numbers.{got, stop, is_wrong_group}
use Rattle.codec.proofs.Entries.{rest_from_get, entry_of_rest}
use Rattle.codec.proofs.Groups.{Partial, Scaled, no_group, ends_short, wrong_group, scaled_group, last_group, next_group}
use Rattle.codec.proofs.number.read_number.Goals as goal
use Rattle.codec.proofs.number.read_number.Goals.{After-from}

-- a byte that may be the next group
record Right (input : List ℕ) (at value group b low : ℕ) : Type 0 where
  here : slice_get input at ≡ Some b
  right : is_wrong_group group b ≡ false
  byte : b < 256
  inside : at < length input
  same : low ≡ b % 128
  scaled : Scaled value (b % 128) group

right_byte : (c : After-from) → Right c.args.input.now (c.args.place + c.loop-group.group) c.loop-group.value c.loop-group.group (slice_index_or c.unwrap_or-rest.result.now c.loop-group.group 0) c.from.result
right_byte c =
    let input = c.args.input.now in
    let g = c.loop-group.group in
    let b = slice_index_or c.unwrap_or-rest.result.now g 0 in
    let here = entry_of_rest input c.unwrap_or-rest.result.now c.args.place g c.loop-group.invariant.0 c.loop-group-test.true in
    let byte : b < 256 = (c.type_inv.rest g).fits in
    let right = sym c.if-is_wrong.ensures in
    record {
      here = here;
      right = right;
      byte = byte;
      inside = slice_get_within input (c.args.place + g) b here;
      same = c.from.ensures;
      scaled = scaled_group input c.args.place c.loop-group.value (c.args.place + g) g c.loop-group.invariant.1 b here right byte;
    }

pub loop-group-init : goal.loop-group-init
loop-group-init c = (
  ap (λ x. x.now) c.unwrap_or-rest.ensures ∙ rest_from_get c.args.input.now c.args.place c.get.result _ refl c.get.ensures.lookup,
  subst (λ (n : ℕ). Partial c.args.input.now c.args.place 0 n 0) (omega arith) (no_group c.args.input.now c.args.place),
)

pub returns-then-is_wrong : goal.returns-then-is_wrong
returns-then-is_wrong c =
    let input = c.args.input.now in
    let p = c.args.place in
    let g = c.loop-group.group in
    let here = entry_of_rest input c.unwrap_or-rest.result.now p g c.loop-group.invariant.0 c.loop-group-test.true in
    wrong_group input p c.loop-group.value (p + g) g c.loop-group.invariant.1 _ here (sym c.if-is_wrong.ensures) ∙ ap stop (sym c.at.ensures)

pub overflow_mul-value : goal.overflow_mul-value
overflow_mul-value c = record { fits = omega (arith, c.loop-group.invariant.1.few) }

pub overflow_cast-value : goal.overflow_cast-value
overflow_cast-value c = record { fits = omega (arith, c.loop-group.invariant.1.few) }

pub overflow_shl-value : goal.overflow_shl-value
overflow_shl-value c = omega (arith, c.loop-group.invariant.1.few)

pub overflow_add-value : goal.overflow_add-value
overflow_add-value c =
    let r = right_byte c in
    let b = slice_index_or c.unwrap_or-rest.result.now c.loop-group.group 0 in
    let sum : c.loop-group.value + b % 128 * 2 ^ (7 * c.loop-group.group) % 4294967296 < 2 ^ 32 = omega (arith, r.scaled.whole, r.scaled.fits) in
    record { fits = subst (λ (n : ℕ). c.loop-group.value + n * 2 ^ (7 * c.loop-group.group) % 4294967296 < 2 ^ 32) (sym r.same) sum }

pub returns-then-byte-lt128 : goal.returns-then-byte-lt128
returns-then-byte-lt128 c =
    let r = right_byte (goal.at.returns-then-byte-lt128 c).After-from in
    let input = c.args.input.now in
    let at = c.args.place + c.loop-group.group in
    let reads = last_group input c.args.place c.loop-group.value at c.loop-group.group c.loop-group.invariant.1 _ r.here r.right r.byte c.if-byte-lt128.true in (
      reads ∙ ap (λ (n : ℕ). got (c.loop-group.value + n * 2 ^ (7 * c.loop-group.group) % 4294967296) (drop (at + 1) input)) (sym r.same),
      omega arith,
      omega (arith, r.inside),
    )

pub loop-group-preserved : goal.loop-group-preserved
loop-group-preserved c =
    let r = right_byte (goal.at.loop-group-preserved c).After-from in
    let input = c.args.input.now in
    let p = c.args.place in
    let g = c.loop-group.group in
    let next = next_group input p c.loop-group.value (p + g) g c.loop-group.invariant.1 _ r.here r.right r.byte c.if-byte-lt128.false in
    let low = subst (λ (n : ℕ). Partial input p (c.loop-group.value + n * 2 ^ (7 * g) % 4294967296) (p + g + 1) (g + 1)) (sym r.same) next in
    (c.loop-group.invariant.0, subst (λ (n : ℕ). Partial input p (c.loop-group.value + c.from.result * 2 ^ (7 * g) % 4294967296) n (g + 1)) (omega arith) low)

pub returns : goal.returns
returns c =
    let input = c.args.input.now in
    let at = c.args.place + c.loop-group.group in
    let past : length input ≤ at = omega (arith, ap length c.loop-group.invariant.0, length-drop c.args.place input, c.loop-group-test.false, c.loop-group.auto.group-end) in
    ends_short input c.args.place c.loop-group.value at c.loop-group.group c.loop-group.invariant.1 (slice_get_past input at past) ∙ ap stop (sym c.at-2.ensures)
