-- The last entry is written over. Assumes nothing.
use Rattle.codec.proofs.Slots.{replaced}
use Rattle.codec.proofs.pile.Pile.replace.Goals as goal

pub returns-then-self-gt0 : goal.returns-then-self-gt0
returns-then-self-gt0 g c = rw (← c.self.view_is) (replaced _ _ c.self.invariant _ c.if-self-gt0.true)
