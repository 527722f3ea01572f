-- The next child of the node on top, or its end. Assumes nothing.
use Rattle.std.proofs.Common.{sym, refl, ◌∙◌, ap, arith}
use Rattle.std.proofs.lemmas.Result.{err_from_is_err_and}
use Rattle.codec.proofs.Walking.{over, closed, no_symbol, named}
use Rattle.codec.proofs.reader.Reader.go_on.Goals as goal

pub returns-in_default : goal.returns-in_default
returns-in_default g c = λ at. rw (← c.self.view_is) (over at _ _ _ _ c.self.invariant (ap (λ p. p.fresh) c.self.view_is ∙ c.requires) (sym c.top.ensures ∙ c.in_default.is))

pub returns-then-level-eq0 : goal.returns-then-level-eq0
returns-then-level-eq0 g c =
    λ at. rw (← c.self.view_is) (closed at _ _ _ _ c.self.invariant _ (ap (λ p. p.fresh) c.self.view_is ∙ c.requires) (sym c.top.ensures ∙ c.in-Some.is) _ _ c.if-level-eq0.true c.pop.ensures)

pub returns-in_err-symbol : goal.returns-in_err-symbol
returns-in_err-symbol g c =
    λ at. let p = err_from_is_err_and c.from_residual.result c.from_residual.ensures.1 in
    rw (← c.self.view_is, p.1, p.2)
    (no_symbol at _ _ _ _ c.self.invariant _ (ap (λ p. p.fresh) c.self.view_is ∙ c.requires) (sym c.top.ensures ∙ c.in-Some.is) _ (omega (arith, c.if-level-eq0.false)) c.in_err-symbol.ensures)

pub returns : goal.returns
returns g c =
    λ at. rw (← c.self.view_is)
    (named at _ _ _ _ c.self.invariant _ (ap (λ p. p.fresh) c.self.view_is ∙ c.requires) (sym c.top.ensures ∙ c.in-Some.is) _ _ _ _ (omega (arith, c.if-level-eq0.false)) c.in_ok-symbol.ensures refl c.replace.ensures)
