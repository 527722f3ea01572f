-- The turns so far, each of a running area. Assumes nothing.
use Rattle.schema.specs.Meaning.{meaning}
use Rattle.compare.specs.Schemas.{MarksLive, Noted}
use Rattle.compare.specs.Stepping.{Turns}
use Rattle.compare.specs.View.{view}
use Rattle.compare.proofs.area.Area.examine_up_to.Given as goal

abbrev pub invariant-loop : goal.invariant-loop
invariant-loop g l =
    Noted l.compared (view l.initial.self) → MarksLive g.D.Domain.holds l.compared
    → Turns (meaning g.D.Domain.holds l.compared.first.now) (meaning g.D.Domain.holds l.compared.second.now) l.counter (view l.initial.self) (view l.self) × Noted l.compared (view l.self)
