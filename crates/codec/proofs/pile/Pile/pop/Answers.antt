-- The last entry becomes the first slot left. Assumes nothing.
use Rattle.std.proofs.Common.{sym, ap, ◌∙◌}
use Rattle.codec.specs.Piles.{topmost}
use Rattle.codec.proofs.Slots.{popped}
use Rattle.codec.proofs.pile.Pile.pop.Goals as goal

pub returns : goal.returns
returns g c =
    let top = sym c.in_ok-entry.was ∙ c.top.ensures ∙ ap (λ p. topmost p.entries) (sym c.self.view_is) in
    rw (← c.self.view_is) (popped _ _ c.self.invariant _ top)
