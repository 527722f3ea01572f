-- The states done lead to states that were reached. Assumes nothing.
use Rattle.std.proofs.Common.{◌-◌, ◌^◌}
use Rattle.schema.specs.Live.{LiveMask}
use Rattle.trim.proofs.Keeping.{over_permitted, LedSoFar}
use Rattle.trim.proofs.kept.kept_states.Given as goal

abbrev pub invariant-loop-state : goal.invariant-loop-state
invariant-loop-state g l =
    LiveMask (over_permitted g.D.Domain.holds l.tested l.permitted) l.tested.measured.schema.states l.live → LedSoFar g.D.Domain.holds l.tested l.permitted l.reached l.done

abbrev pub decreases-loop-state : goal.decreases-loop-state
decreases-loop-state g l = 2 ^ 64 - l.done
