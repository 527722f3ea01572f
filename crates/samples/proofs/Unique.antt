-- There is one sample of a state. Assumes nothing.
use Rattle.std.proofs.Common.{◌≡◌, ℕ, Bool, length, Some, sym, refl, ap, ◌∙◌, subst, ⊎_elim, arith}
use Rattle.std.proofs.lemmas.Bool.{both_ways, cases_order}
use Rattle.std.proofs.lemmas.Option.{same_Some}
use Rattle.codec.specs.Trees.{Tree, node, Children, none, child, word}
use Rattle.domain.specs.Sets.{Smallest}
use Rattle.schema.specs.Automata.{Automaton}
use Rattle.search.proofs.Orders.{one_first}
use Rattle.samples.specs.Samples.{LowerSequence, Sample, Samples}

-- a set has one smallest value
pub one_smallest : (test : ℕ → Bool) (v w : ℕ) → Smallest test (Some v) → Smallest test (Some w) → v ≡ w
one_smallest test v w f g =
    ⊎_elim
    (λ same. same)
    (λ apart. ⊎_elim (λ low. absurd (both_ways (test v) (g.before v low) f.passes)) (λ low. absurd (both_ways (test w) (f.before w low) g.passes)) apart)
    (cases_order v w)

-- a node is its value and its children
pub same_node : (v w : ℕ) (cs ds : Children) → v ≡ w → cs ≡ ds → node v cs ≡ node w ds
same_node v w cs ds value children = ap (λ (x : ℕ). node x cs) value ∙ ap (node w) children

-- and children are the first one and the others
pub same_child : (a b : ℕ) (t u : Tree) (cs ds : Children) → a ≡ b → t ≡ u → cs ≡ ds → child a t cs ≡ child b u ds
same_child a b t u cs ds symbol tree others = ap (λ (x : ℕ). child x t cs) symbol ∙ ap (λ (x : Tree). child b x cs) tree ∙ ap (child b u) others

module _ (A : Automaton) where
  mutual
    -- a state has one sample
    pub one_sample : (q : ℕ) (t u : Tree) → Sample A q t → Sample A q u → t ≡ u
    one_sample q (node v cs) (node w ds) s r =
        same_node v w cs ds (one_smallest (A.has q) v w s.0 r.0) (one_samples q cs ds (one_first (LowerSequence A q) (word cs) (word ds) s.1 r.1) s.2 r.2)

    -- and the children for a sequence are one way samples
    pub one_samples : (q : ℕ) (cs ds : Children) → word cs ≡ word ds → Samples A q cs → Samples A q ds → cs ≡ ds
    one_samples q none none same s r = refl
    one_samples q none (child b u ds) same s r = absurd (omega (arith, ap length same))
    one_samples q (child a t cs) none same s r = absurd (omega (arith, ap length same))
    one_samples q (child a t cs) (child b u ds) same s r =
        let symbol : a ≡ b = cc in
        let rest : word cs ≡ word ds = cc in
        let state : r.0.0 ≡ s.0.0 = same_Some _ _ (sym r.0.1 ∙ ap (A.next q) (sym symbol) ∙ s.0.1) in
        same_child a b t u cs ds symbol (one_sample s.0.0 t u s.0.2 (subst (λ (p : ℕ). Sample A p u) state r.0.2)) (one_samples q cs ds rest s.1 r.1)
