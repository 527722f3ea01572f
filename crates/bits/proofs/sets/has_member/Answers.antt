-- No number past 63 is in a set. Assumes nothing.
use Rattle.std.proofs.Common.{sym, ◌∙◌}
use Rattle.std.proofs.lemmas.Bool.{le-ltb}
use Rattle.bits.proofs.Members.{none_past}
use Rattle.bits.proofs.sets.has_member.Goals as goal

pub returns-else-number-lt64 : goal.returns-else-number-lt64
returns-else-number-lt64 c =
    le-ltb c.args.number 64 c.if-number-lt64.false ∙ sym (none_past c.args.set c.args.number c.ranges.set.fits c.if-number-lt64.false)
