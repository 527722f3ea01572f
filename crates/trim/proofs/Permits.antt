-- A tree is accepted over permitted symbols exactly when it is accepted and holds no other symbol. Assumes nothing.
use Rattle.std.proofs.Common.{◌≡◌, ℕ, Bool, true, ◌&&◌, None, sym, refl, ap, ◌∙◌, subst}
use Rattle.std.proofs.lemmas.Bool.{and_parts, and_from, cond-true}
use Rattle.std.proofs.lemmas.Bool.Decides.{same_from_decides}
use Rattle.codec.specs.Trees.{Tree, node, Children, none, child, word}
use Rattle.schema.specs.Automata.{Automaton, present, row_runs, has_next, accepts}
use Rattle.schema.specs.Bindings.{States, at, StatesBelow, leaf, beside, root, Bound, BoundAll}
use Rattle.schema.specs.Permitted.{permit, over, over_all}
use Rattle.schema.proofs.Permits.{permit_runs}
use Rattle.schema.proofs.Bound.{accepted_is_bound}
use Rattle.schema.proofs.Gathering.{chosen_some}

-- the symbols of bound children have next states
pub next_of_bound : (A : Automaton) (q : ℕ) (cs : Children) (bs : StatesBelow) → BoundAll A q cs bs → has_next A q (word cs) ≡ true
next_of_bound A q none bs bound = refl
next_of_bound A q (child a t cs) leaf bound = absurd bound
next_of_bound A q (child a t cs) (beside b bs) bound = and_from _ _ (ap present bound.0) (next_of_bound A q cs bs bound.2)

module _ (permitted : ℕ → Bool) (A : Automaton) where
  mutual
    pub bound_freed : (t : Tree) (b : States) → Bound (permit permitted A) t b → Bound A t b × (over permitted t ≡ true)
    bound_freed (node v cs) (at q bs) bound =
        let below = below_freed q cs bs bound.2 in
        let runs = (and_parts (row_runs (permit permitted A) q 0 (word cs)) _ bound.1).0 in
        ((bound.0, and_from _ _ (sym (permit_runs permitted A q 0 (word cs)) ∙ runs) (next_of_bound A q cs bs below.0), below.0), below.1)

    below_freed : (q : ℕ) (cs : Children) (bs : StatesBelow) → BoundAll (permit permitted A) q cs bs → BoundAll A q cs bs × (over_all permitted cs ≡ true)
    below_freed q none leaf bound = (tt, refl)
    below_freed q none (beside b bs) bound = absurd bound
    below_freed q (child a t cs) leaf bound = absurd bound
    below_freed q (child a t cs) (beside b bs) bound =
        let next = chosen_some (permitted a) (A.next q a) (root b) bound.0 in
        let first = bound_freed t b bound.1 in
        let others = below_freed q cs bs bound.2 in
        ((next.1, first.0, others.0), and_from _ _ next.0 (and_from _ _ first.1 others.1))

  mutual
    pub bound_permitted : (t : Tree) (b : States) → Bound A t b → over permitted t ≡ true → Bound (permit permitted A) t b
    bound_permitted (node v cs) (at q bs) bound within =
        let below = below_permitted q cs bs bound.2 within in
        let runs = (and_parts (row_runs A q 0 (word cs)) _ bound.1).0 in
        (bound.0, and_from _ _ (permit_runs permitted A q 0 (word cs) ∙ runs) (next_of_bound (permit permitted A) q cs bs below), below)

    below_permitted : (q : ℕ) (cs : Children) (bs : StatesBelow) → BoundAll A q cs bs → over_all permitted cs ≡ true → BoundAll (permit permitted A) q cs bs
    below_permitted q none leaf bound within = tt
    below_permitted q none (beside b bs) bound within = absurd bound
    below_permitted q (child a t cs) leaf bound within = absurd bound
    below_permitted q (child a t cs) (beside b bs) bound within =
        let here = and_parts (permitted a) _ within in
        let parts = and_parts (over permitted t) _ here.1 in
        (cond-true (permitted a) (A.next q a) None here.0 ∙ bound.0, bound_permitted t b bound.1 parts.0, below_permitted q cs bs bound.2 parts.1)

  pub accepts_permitted : (q : ℕ) (t : Tree) → accepts (permit permitted A) q t ≡ (accepts A q t && over permitted t)
  accepts_permitted q t =
      same_from_decides {P = accepts (permit permitted A) q t ≡ true} _ _ (λ h. h, λ h. h) (
        λ h.
            let parts = and_parts (accepts A q t) _ h in
            let b = accepted_is_bound.bound A q t parts.0 in
            subst (λ (s : ℕ). accepts (permit permitted A) s t ≡ true) b.1 (accepted_is_bound.accepted (permit permitted A) t b.0 (bound_permitted t b.0 b.2 parts.1)),
        λ h.
            let b = accepted_is_bound.bound (permit permitted A) q t h in
            let freed = bound_freed t b.0 b.2 in
            and_from _ _ (subst (λ (s : ℕ). accepts A s t ≡ true) b.1 (accepted_is_bound.accepted A t b.0 freed.0)) freed.1,
      )
