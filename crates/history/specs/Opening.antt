-- What holds of a work area as it is made, beside that it is free. Assumes nothing.
use Rattle.compare.specs.declared.area.Area.{Area}
use Rattle.history.specs.Example.{ExampleRuns}
use Rattle.history.specs.Law.{EveryHistory}
use Rattle.history.specs.Marked.{MarkedCases}

-- the laws on the call that makes areas
pub record OpenLaws (a : Area) : Type 0 where
  -- what holds of every comparison on it, whatever calls are made
  pub histories : EveryHistory a
  -- a list of calls that is a history, so that the law is not about nothing
  pub example : ExampleRuns
  -- what the definitions say of three small schemas and some other examples
  pub marked : MarkedCases
