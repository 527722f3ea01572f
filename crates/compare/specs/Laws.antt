-- What holds of every outcome of a call, and of every list of pairs: the laws that stand on the
-- contracts. Assumes nothing.
use Rattle.std.specs.Prelude.{◌≡◌}
use Rattle.compare.specs.declared.area.TheConstants.{LAST_SERIAL}
use Rattle.compare.specs.declared.event.Event.{Event}
use Rattle.compare.specs.declared.pairs.TheConstants.{PLACES}
use Rattle.compare.specs.declared.step.TheConstants.{MOST_STEPS}
use Rattle.compare.specs.Breaking.{ClosedCarries, BrokenTells, OnwardTells, UnbrokenOnward}
use Rattle.compare.specs.Deciding.{BeginsAsDecided, StepsAsDecided, ConcludesAsDecided, ConclusionEarly, TrailsAsDecided, TrailNotEarly, GivesUpAsDecided}
use Rattle.compare.specs.Invariant.{InvariantBegins, InvariantSteps, InvariantSame, InvariantConcludes, IncludedCarries, ApartTells}
use Rattle.compare.specs.Listing.{FewPairs, EntriesFit, ListedOnce, Determined}
use Rattle.compare.specs.Outcomes.{OneBeginning, OneStepping, OneConclusion, OneTrailing, OneGivingUp}
use Rattle.compare.specs.NotHolder.{StepByNotHolder, ConclusionByNotHolder, TrailByNotHolder, GivingUpByNotHolder}
use Rattle.compare.specs.Trailing.{OneTrail, EveryTrail}

-- of a list of pairs; places for pairs are so many
pub record ListLaws : Type 0 where
  pub few : FewPairs
  pub fit : EntriesFit
  pub once : ListedOnce
  pub determined : Determined
  pub places : PLACES ≡ 4096

-- of broken and unbroken pairs
pub record PairLaws : Type 0 where
  pub carries : ClosedCarries
  pub tells : BrokenTells
  pub onward : OnwardTells
  pub next : UnbrokenOnward

-- of taking, and of ousting; the last serial is this
pub record BeginLaws (e : Event) : Type 0 where
  pub invariant : InvariantBegins
  pub one : OneBeginning
  pub table : BeginsAsDecided e
  pub last_serial : LAST_SERIAL ≡ 4294967295

-- of stepping; a step may ask for so many pairs
pub record StepLaws : Type 0 where
  pub invariant : InvariantSteps
  pub same : InvariantSame
  pub not_holder : StepByNotHolder
  pub one : OneStepping
  pub few : FewPairs
  pub table : StepsAsDecided
  pub most_steps : MOST_STEPS ≡ 4096

-- of concluding
pub record ConcludeLaws : Type 0 where
  pub invariant : InvariantConcludes
  pub included : IncludedCarries
  pub apart : ApartTells
  pub not_holder : ConclusionByNotHolder
  pub one : OneConclusion
  pub table : ConcludesAsDecided
  pub early : ConclusionEarly

-- of trails
pub record TrailLaws : Type 0 where
  pub one : OneTrail
  pub every : EveryTrail
  pub not_holder : TrailByNotHolder
  pub answer : OneTrailing
  pub table : TrailsAsDecided
  pub early : TrailNotEarly

-- of giving up
pub record GiveUpLaws : Type 0 where
  pub not_holder : GivingUpByNotHolder
  pub one : OneGivingUp
  pub table : GivesUpAsDecided
