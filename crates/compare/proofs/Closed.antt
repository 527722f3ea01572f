-- A closed set of unbroken pairs carries acceptance from the first automaton to the second. Assumes nothing.
use Rattle.std.proofs.Common.{◌≡◌, ℕ, Bool, true, sym, refl, subst}
use Rattle.std.specs.List.{AllByRecursion}
use Rattle.std.proofs.lemmas.Bool.{and_parts, and_from}
use Rattle.codec.specs.Trees.{Tree, node, Children, none, child, word}
use Rattle.schema.specs.Automata.{Automaton, passes, allowed, accepts, accepts_all}
use Rattle.schema.specs.Live.{LiveSequence, LiveSymbol}
use Rattle.schema.proofs.Bound.{passed}
use Rattle.schema.proofs.Onward.{Leads, live_symbols}
use Rattle.compare.specs.Breaking.{Closed, ClosedCarries}

module _ (A : Automaton) where
  -- the symbols of accepted children lead to live states
  leads : (p : ℕ) (cs : Children) → accepts_all A p cs ≡ true → AllByRecursion (Leads A p) (word cs)
  leads p none h = tt
  leads p (child a t cs) h =
      let parts = and_parts (passes (A.next p a) (λ s. accepts A s t)) _ h in
      let next = passed (A.next p a) (λ s. accepts A s t) parts.0 in
      ((next.0, next.1, (t, next.2)), leads p cs parts.1)

module _ (A B : Automaton) (P : ℕ → ℕ → Bool) (closed : Closed A B P) where
  mutual
    carries : (p q : ℕ) → P p q ≡ true → (t : Tree) → accepts A p t ≡ true → accepts B q t ≡ true
    carries p q there (node v cs) h =
        let unbroken = closed.unbroken p q there in
        let value = and_parts (A.has p v) _ h in
        let content = and_parts (allowed A p (word cs)) _ value.1 in
        let live : LiveSequence A p (word cs) = (content.0, leads A p cs content.1) in
        and_from _ _ (unbroken.values v value.0) (and_from _ _ (unbroken.contents (word cs) live) (carries_all p q there cs (live_symbols A p (word cs) live) content.1))

    carries_all : (p q : ℕ) → P p q ≡ true → (cs : Children) → AllByRecursion (LiveSymbol A p) (word cs) → accepts_all A p cs ≡ true → accepts_all B q cs ≡ true
    carries_all p q there none live h = refl
    carries_all p q there (child a t cs) live h =
        let parts = and_parts (passes (A.next p a) (λ s. accepts A s t)) _ h in
        let next = passed (A.next p a) (λ s. accepts A s t) parts.0 in
        let on = closed.onward p q a next.0 there live.0 next.1 in
        and_from _ _ (subst (λ o. passes o (λ s. accepts B s t) ≡ true) (sym on.1) (carries next.0 on.0 on.2 t next.2)) (carries_all p q there cs live.1 parts.1)

pub closed_carries : ClosedCarries
closed_carries A B P closed = carries A B P closed
