-- What a phase and an event decide together. Assumes nothing.
use Rattle.refusal.specs.declared.fault.Fault.TheVariants.{Busy, Ousted, Early}
use Rattle.compare.specs.declared.event.Decision.{Decision}
use Rattle.compare.specs.declared.event.Decision.TheVariants as decision
use Rattle.compare.specs.declared.event.Event.{Event}
use Rattle.compare.specs.declared.event.Event.TheVariants.{Take, Oust, Hold, Step, Conclude, Write, GiveUp}
use Rattle.compare.specs.declared.phase.Phase.{Phase}
use Rattle.compare.specs.declared.phase.Phase.TheVariants as phase
use Rattle.compare.specs.declared.phase.Verdict.TheVariants as verdict

-- the table of phases by events: take begins on a free area alone, and oust on every one; a free
-- area has no holder, so all that a holder asks is refused there; a claim of the area may be given
-- up at any time, which changes nothing on a free one; a holder may step until the verdict stands
-- and after it to no effect, conclude a ready area, and write on one that is apart
abbrev pub decided : Phase → Event → Decision
decided phase.Free Take = decision.Begin
decided p Take = decision.Refuse Busy
decided p Oust = decision.Begin
decided phase.Free Hold = decision.Refuse Ousted
decided p Hold = decision.Stay
decided phase.Free Step = decision.Refuse Ousted
decided phase.Running Step = decision.Examine
decided p Step = decision.Stay
decided phase.Free Conclude = decision.Refuse Ousted
decided (phase.Ready verdict.Included) Conclude = decision.Release
decided (phase.Ready (verdict.Apart k)) Conclude = decision.Part k
decided p Conclude = decision.Refuse Early
decided phase.Free Write = decision.Refuse Ousted
decided (phase.Apart k) Write = decision.Stay
decided p Write = decision.Refuse Early
decided phase.Free GiveUp = decision.Stay
decided p GiveUp = decision.Release
