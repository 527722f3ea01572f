-- The laws that stand on the contracts of the calls. Assumes nothing.
use Rattle.std.proofs.Common.{refl}
use Rattle.compare.specs.declared.event.Event.TheVariants.{Take, Oust}
use Rattle.compare.specs.Laws.{ListLaws, PairLaws, BeginLaws, StepLaws, ConcludeLaws, TrailLaws, GiveUpLaws}
use Rattle.compare.proofs.Closed.{closed_carries}
use Rattle.compare.proofs.Deciding.{takes_as_decided, ousts_as_decided, steps_as_decided, concludes_as_decided, conclusion_early, trails_as_decided, trail_not_early, gives_up_as_decided}
use Rattle.compare.proofs.Invariant.{invariant_begins, invariant_steps, invariant_same, invariant_concludes, included_carries, apart_tells}
use Rattle.compare.proofs.Outcomes.{one_beginning, one_conclusion, one_trailing, one_giving_up}
use Rattle.compare.proofs.NotHolder.{step_by_not_holder, conclusion_by_not_holder, trail_by_not_holder, giving_up_by_not_holder}
use Rattle.compare.proofs.Telling.{broken_tells, onward_tells, unbroken_onward}
use Rattle.compare.proofs.Trails.{one_trail, every_trail}
use Rattle.compare.proofs.Turned.{one_stepping}
use Rattle.compare.proofs.Views.{few_pairs, entries_fit, listed_once, determined}

pub list_laws : ListLaws
list_laws = record { few = few_pairs; fit = entries_fit; once = listed_once; determined = determined; places = refl }

pub pair_laws : PairLaws
pair_laws = record { carries = closed_carries; tells = broken_tells; onward = onward_tells; next = unbroken_onward }

pub take_laws : BeginLaws Take
take_laws = record { invariant = invariant_begins; one = one_beginning; table = takes_as_decided; last_serial = refl }

pub oust_laws : BeginLaws Oust
oust_laws = record { invariant = invariant_begins; one = one_beginning; table = ousts_as_decided; last_serial = refl }

pub step_laws : StepLaws
step_laws = record { invariant = invariant_steps; same = invariant_same; not_holder = step_by_not_holder; one = one_stepping; few = few_pairs; table = steps_as_decided; most_steps = refl }

pub conclude_laws : ConcludeLaws
conclude_laws = record { invariant = invariant_concludes; included = included_carries; apart = apart_tells; not_holder = conclusion_by_not_holder; one = one_conclusion; table = concludes_as_decided; early = conclusion_early }

pub trail_laws : TrailLaws
trail_laws = record { one = one_trail; every = every_trail; not_holder = trail_by_not_holder; answer = one_trailing; table = trails_as_decided; early = trail_not_early }

pub give_up_laws : GiveUpLaws
give_up_laws = record { not_holder = giving_up_by_not_holder; one = one_giving_up; table = gives_up_as_decided }
