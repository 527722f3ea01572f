-- A tree is accepted exactly when its nodes can be bound to states, and then in one way only.
-- Assumes nothing.
use Rattle.std.proofs.Common.{◌≡◌, ℕ, Bool, true, Some, None, Option, sym, refl, ap, ◌∙◌, subst}
use Rattle.std.proofs.lemmas.Option.{same_Some}
use Rattle.std.proofs.lemmas.Bool.{and_parts, and_from, false≢true}
use Rattle.codec.specs.Trees.{Tree, node, Children, none, child, word}
use Rattle.schema.specs.Automata.{Automaton, passes, allowed, accepts, accepts_all}
use Rattle.schema.specs.Bindings.{States, at, StatesBelow, leaf, beside, root, Bound, BoundAll, AcceptedIsBound}

-- what is there, where it passes
pub passed : (o : Option ℕ) (test : ℕ → Bool) → passes o test ≡ true → (x : ℕ) × (o ≡ Some x) × (test x ≡ true)
passed (Some x) test h = (x, refl, h)
passed None test h = absurd (false≢true h)

module _ (A : Automaton) where
  mutual
    bind : (q : ℕ) (t : Tree) → accepts A q t ≡ true → (b : States) × (root b ≡ q) × Bound A t b
    bind q (node v cs) h =
        let value = and_parts (A.has q v) _ h in
        let content = and_parts (allowed A q (word cs)) _ value.1 in
        let below = bind_all q cs content.1 in
        (at q below.0, refl, (value.0, content.0, below.1))

    bind_all : (q : ℕ) (cs : Children) → accepts_all A q cs ≡ true → (bs : StatesBelow) × BoundAll A q cs bs
    bind_all q none h = (leaf, tt)
    bind_all q (child a t cs) h =
        let parts = and_parts (passes (A.next q a) (λ s. accepts A s t)) _ h in
        let next = passed (A.next q a) (λ s. accepts A s t) parts.0 in
        let first = bind next.0 t next.2 in
        let others = bind_all q cs parts.1 in
        (beside first.0 others.0, (next.1 ∙ ap Some (sym first.1), first.2, others.1))

  mutual
    accept : (t : Tree) (b : States) → Bound A t b → accepts A (root b) t ≡ true
    accept (node v cs) (at q bs) bound = and_from _ _ bound.0 (and_from _ _ bound.1 (accept_all q cs bs bound.2))

    accept_all : (q : ℕ) (cs : Children) (bs : StatesBelow) → BoundAll A q cs bs → accepts_all A q cs ≡ true
    accept_all q none leaf bound = refl
    accept_all q none (beside b bs) bound = absurd bound
    accept_all q (child a t cs) leaf bound = absurd bound
    accept_all q (child a t cs) (beside b bs) bound =
        and_from _ _ (subst (λ o. passes o (λ s. accepts A s t) ≡ true) (sym bound.0) (accept t b bound.1)) (accept_all q cs bs bound.2)

  mutual
    one : (t : Tree) (b c : States) → root b ≡ root c → Bound A t b → Bound A t c → b ≡ c
    one (node v cs) (at q bs) (at p ds) same first second = λ i. at (same i) (one_all q p cs bs ds same first.2 second.2 i)

    one_all : (q p : ℕ) (cs : Children) (bs ds : StatesBelow) → q ≡ p → BoundAll A q cs bs → BoundAll A p cs ds → bs ≡ ds
    one_all q p none leaf leaf same first second = refl
    one_all q p none leaf (beside d ds) same first second = absurd second
    one_all q p none (beside b bs) ds same first second = absurd first
    one_all q p (child a t cs) leaf ds same first second = absurd first
    one_all q p (child a t cs) (beside b bs) leaf same first second = absurd second
    one_all q p (child a t cs) (beside b bs) (beside d ds) same first second =
        let roots : root b ≡ root d = same_Some _ _ (sym first.0 ∙ ap (λ (k : ℕ). A.next k a) same ∙ second.0) in
        λ i. beside (one t b d roots first.1 second.1 i) (one_all q p cs bs ds same first.2 second.2 i)

pub accepted_is_bound : AcceptedIsBound
accepted_is_bound = record { bound = bind; accepted = accept; one = one }
