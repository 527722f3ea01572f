-- A node that opens. Assumes nothing.
use Rattle.std.proofs.Common.{sym, refl, ap, ◌∙◌}
use Rattle.codec.proofs.Walking.{opened}
use Rattle.codec.proofs.reader.Reader.open.Goals as goal

pub returns : goal.returns
returns g c =
    rw (← c.self.view_is)
    (opened _ _ _ _ _ c.self.invariant _ _ _ _ _ _ _ (ap (λ p. p.fresh) c.self.view_is ∙ c.requires) (sym c.if-is_full.ensures) c.in_ok-value.ensures c.in_ok-count.ensures refl c.push.ensures)
