-- The mask of the row has one member more. Assumes nothing.
use Rattle.std.proofs.Common.{arith}
use Rattle.search.proofs.Visits.{listed_more}
use Rattle.search.proofs.visited.Visited.add.Goals as goal

pub returns-then-row-lt-MASKS : goal.returns-then-row-lt-MASKS
returns-then-row-lt-MASKS c = λ inside low.
    rw (← c.from-row.ensures) (listed_more c.args.self.now.masks c.from-row.result c.args.pair.watch c.with_member.result (omega arith) low c.with_member.ensures.adds)
