-- Samples are accepted. Assumes nothing.
use Rattle.std.proofs.Common.{◌≡◌, ℕ, true, sym, refl, subst}
use Rattle.std.proofs.lemmas.Bool.{and_from}
use Rattle.codec.specs.Trees.{Tree, node, Children, none, child}
use Rattle.schema.specs.Automata.{Automaton, passes, accepts, accepts_all}
use Rattle.samples.specs.Samples.{Sample, Samples}

module _ (A : Automaton) where
  mutual
    -- a sample is accepted by its state
    pub sample_accepted : (q : ℕ) (t : Tree) → Sample A q t → accepts A q t ≡ true
    sample_accepted q (node v cs) s = and_from _ _ s.0.passes (and_from _ _ s.1.passes.0 (samples_accepted q cs s.2))

    -- and so are children that are samples
    pub samples_accepted : (q : ℕ) (cs : Children) → Samples A q cs → accepts_all A q cs ≡ true
    samples_accepted q none s = refl
    samples_accepted q (child a t cs) s =
        and_from _ _ (subst (λ o. passes o (λ r. accepts A r t) ≡ true) (sym s.0.1) (sample_accepted s.0.0 t s.0.2)) (samples_accepted q cs s.1)
