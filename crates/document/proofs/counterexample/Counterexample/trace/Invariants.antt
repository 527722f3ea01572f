-- A point of the path. Assumes nothing.
use Rattle.std.proofs.Common.{◌≡◌, ◌≤◌, [], length}
use Rattle.codec.specs.Piles.{slots}
use Rattle.schema.specs.Meaning.{meaning}
use Rattle.compare.specs.declared.pairs.TheConstants.{PLACES}
use Rattle.compare.specs.Listing.{entries_of}
use Rattle.document.specs.Nodes.{Ready}
use Rattle.document.proofs.Tracing.{Point}
use Rattle.document.proofs.counterexample.Counterexample.trace.Given as goal

abbrev pub invariant-loop-at : goal.invariant-loop-at
invariant-loop-at g l =
    let A = meaning g.D.Domain.holds l.self.compared.first.now in
    let B = meaning g.D.Domain.holds l.self.compared.second.now in
    record {
      slots : slots l.levels ≡ slots l.initial.levels;
      point : Ready g.D.Domain.holds l.self → l.initial.levels.entries ≡ [] → PLACES ≤ length l.initial.levels.free → Point A B l.self.kind (entries_of l.self.pairs.now) l.place l.at l.size l.levels.entries;
    }

-- the place falls
abbrev pub decreases-loop-at : goal.decreases-loop-at
decreases-loop-at g l = l.at
