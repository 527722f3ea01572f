-- The rows done lead to rows that were reached. Assumes nothing.
use Rattle.std.proofs.Common.{◌-◌, ◌^◌, ◌<◌}
use Rattle.schema.specs.Meaning.{IsState, tables_of}
use Rattle.schema.specs.Tables.{row_count}
use Rattle.schema.proofs.Reaching.{RowsSoFar}
use Rattle.schema.proofs.tested.Tested.rows_reached_from.Given as goal

abbrev pub invariant-loop-row : goal.invariant-loop-row
invariant-loop-row g l =
    IsState l.self l.state → l.from < row_count (tables_of l.self) l.state → RowsSoFar g.D.Domain.holds l.self l.state l.symbols l.from l.reached l.done

abbrev pub decreases-loop-row : goal.decreases-loop-row
decreases-loop-row g l = 2 ^ 64 - l.done
