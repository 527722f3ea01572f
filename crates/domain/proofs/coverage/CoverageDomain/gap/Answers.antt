-- The candidates of both loops together reach the gap. Assumes nothing.
use Rattle.domain.specs.Kinds.{ranges_of}
use Rattle.domain.proofs.Gaps.{gap_of_candidates}
use Rattle.domain.proofs.coverage.CoverageDomain.gap.Goals as goal

pub returns : goal.returns
returns c =
    gap_of_candidates (ranges_of c.args.self.now) (ranges_of c.args.other.now) c.smaller.result
    (c.smaller.ensures _ _ c.begins_alone.ensures c.follows_alone.ensures)
