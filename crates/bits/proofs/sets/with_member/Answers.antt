-- One bit more. Assumes nothing.
use Rattle.bits.proofs.Members.{added, grown}
use Rattle.bits.proofs.sets.with_member.Goals as goal

pub returns-then-number-lt64 : goal.returns-then-number-lt64
returns-then-number-lt64 c =
    record {
      adds = λ i. added c.args.set c.args.number i c.if-number-lt64.true;
      grows = λ out inside. grown c.args.set c.args.number inside out;
    }
