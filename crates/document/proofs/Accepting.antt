-- What is built along a path is accepted by the first automaton and refused by the second. Assumes nothing.
use Rattle.std.proofs.Common.{◌≡◌, ℕ, Bool, true, false, List, [], ◌∷◌, Some, sym, ap, ◌∙◌, subst, ⊎_elim}
use Rattle.std.proofs.lemmas.Bool.{and_parts, and_from, and_left, and_right, not-true}
use Rattle.codec.specs.Trees.{Tree, node, Children, none, child, word}
use Rattle.schema.specs.Automata.{Automaton, passes, allowed, accepts, accepts_all}
use Rattle.compare.specs.declared.pairs.Listed.{Listed}
use Rattle.compare.specs.declared.phase.Kind.{Kind}
use Rattle.compare.specs.declared.phase.Kind.TheVariants.{Value, Content}
use Rattle.samples.specs.Samples.{Samples}
use Rattle.samples.proofs.Accepting.{samples_accepted}
use Rattle.document.specs.Documents.{AtEnd, Built, HoldsPart, LeadsTo, TellsApart}

-- what a next state says of a tree is said under the symbol that leads to it
under : (A : Automaton) (p a b s : ℕ) (t : Tree) (says : Bool) → a ≡ b → A.next p b ≡ Some s → accepts A s t ≡ says → passes (A.next p a) (λ r. accepts A r t) ≡ says
under A p a b s t says same is told = subst (λ o. passes o (λ r. accepts A r t) ≡ says) (sym (ap (A.next p) same ∙ is)) told

module _ (A B : Automaton) where
  at_end : (k : Kind) (p q v : ℕ) (cs : Children) → AtEnd A B k p q v (word cs) → Samples A p cs → (accepts A p (node v cs) ≡ true) × (accepts B q (node v cs) ≡ false)
  at_end Value p q v cs end samples =
      let value = and_parts (A.has p v) _ end.0.passes in (
        and_from _ _ value.0 (and_from _ _ end.1.passes.0 (samples_accepted A p cs samples)),
        and_left _ _ (not-true (B.has q v) value.1),
      )
  at_end Content p q v cs end samples = (
    and_from _ _ end.0.passes (and_from _ _ end.1.passes.0.0 (samples_accepted A p cs samples)),
    and_right (B.has q v) _ (and_left _ _ end.1.passes.1),
  )

  mutual
    -- what is built along a path is accepted by the first automaton, and not by the second
    pub built_tells : (k : Kind) (p q : ℕ) (path : List Listed) (t : Tree) → Built A B k p q path t → (accepts A p t ≡ true) × (accepts B q t ≡ false)
    built_tells k p q [] (node v cs) b = at_end k p q v cs b.0 b.1
    built_tells k p q (e ∷ path) (node v cs) b =
        let below = goes_on_tells k p q e path cs b.1 b.2 in (
          and_from _ _ b.0.0.passes (and_from _ _ b.0.1.passes.0.0 below.0),
          and_right (B.has q v) _ (and_right (allowed B q (word cs)) _ below.1),
        )

    goes_on_tells : (k : Kind) (p q : ℕ) (e : Listed) (path : List Listed) (cs : Children) → LeadsTo A B p q e → HoldsPart A B k p e path cs → (accepts_all A p cs ≡ true) × (accepts_all B q cs ≡ false)
    goes_on_tells k p q e path none to on = absurd on
    goes_on_tells k p q e path (child a t cs) to on =
        ⊎_elim
        (λ here.
        let told = built_tells k e.first e.second path t here.1 in (
          and_from _ _ (under A p a e.symbol e.first t true here.0 to.0 told.0) (samples_accepted A p cs here.2),
          and_left _ _ (under B q a e.symbol e.second t false here.0 to.1 told.1),
        ))
        (λ later.
        let rest = goes_on_tells k p q e path cs to later.2 in (
          and_from _ _ (and_parts _ _ (samples_accepted A p (child a t none) later.1)).0 rest.0,
          and_right _ _ rest.1,
        ))
        on

pub tells_apart : TellsApart
unfolding TellsApart
tells_apart A B k es i path t d = built_tells A B k 0 0 path t d.built
