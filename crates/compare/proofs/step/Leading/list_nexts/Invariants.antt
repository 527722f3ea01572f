-- The pairs of next states under the symbols so far are listed. Assumes nothing.
use Rattle.std.proofs.Common.{◌≡◌, ◌<◌, length}
use Rattle.bits.specs.Bits.{bit}
use Rattle.compare.specs.Examining.{nexts_of}
use Rattle.compare.specs.Listing.{entries_of}
use Rattle.compare.specs.Schemas.{StatePair, Inside}
use Rattle.compare.proofs.step.Leading.list_nexts.Given as goal

abbrev pub invariant-loop-symbol : goal.invariant-loop-symbol
invariant-loop-symbol g l =
    (l.pairs.firsts ≡ l.initial.pairs.firsts) × (l.pairs.seconds ≡ l.initial.pairs.seconds)
    × (Inside l.compared l.initial.pairs → StatePair l.compared l.self.pair.first l.self.pair.second → l.self.place < length (entries_of l.initial.pairs)
    → entries_of l.pairs ≡ nexts_of g.D.Domain.holds l.compared l.self.pair l.self.place (bit l.self.symbols) l.symbol (entries_of l.initial.pairs))
