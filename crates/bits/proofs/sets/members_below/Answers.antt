-- The ones among the lowest digits. Assumes nothing.
use Rattle.std.proofs.Common.{ℕ, ◌-◌, ap, ◌∙◌}
use lib.Bits.{bit_and, and_mask}
use lib.Count.{ones}
use Rattle.std.proofs.lemmas.Nat.{one_shl}
use Rattle.bits.proofs.Members.{ones_below, ones_all}
use Rattle.bits.proofs.sets.members_below.Goals as goal

pub returns-then-number-lt64 : goal.returns-then-number-lt64
returns-then-number-lt64 c =
    let k = c.args.number in
    ap (λ (n : ℕ). ones (bit_and c.args.set (n - 1))) (one_shl k 64 c.if-number-lt64.true) ∙ ap ones (and_mask c.args.set k) ∙ ones_below c.args.set k

pub returns-else-number-lt64 : goal.returns-else-number-lt64
returns-else-number-lt64 c = ones_all c.args.set c.args.number c.ranges.set.fits c.if-number-lt64.false
