-- The bit of the pair, and past the masks none. Assumes nothing.
use Rattle.std.proofs.Common.{sym, ◌∙◌, arith}
use Rattle.std.proofs.lemmas.Bool.{le-ltb}
use Rattle.compare.proofs.Views.{says_of, none_past_of}
use Rattle.compare.proofs.pairs.Pairs.has.Goals as goal

pub returns-then-row-lt-STATES : goal.returns-then-row-lt-STATES
returns-then-row-lt-STATES c = c.has_member.ensures ∙ says_of c.args.self.now c.args.first c.args.second (omega arith)

pub returns-else-row-lt-STATES : goal.returns-else-row-lt-STATES
returns-else-row-lt-STATES c = le-ltb c.args.first 64 (omega arith) ∙ sym (none_past_of c.args.self.now c.args.first c.args.second (omega arith))
