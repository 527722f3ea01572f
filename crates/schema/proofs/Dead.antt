-- A state that demands a child and leads only to itself accepts no finite tree. Assumes nothing.
use Rattle.std.proofs.Common.{◌≡◌, ℕ, true, false, Some, refl, subst, arith}
use Rattle.std.proofs.lemmas.Bool.{and_parts, both_ways}
use Rattle.codec.specs.Trees.{Tree, node, Children, none, child, word}
use Rattle.schema.specs.Automata.{Automaton, passes, row_runs, allowed, accepts, accepts_all}
use Rattle.schema.specs.Examples.{one_of_two, just_zero, LeadsBackDead}
use Rattle.schema.specs.Tables.{automaton}
use Rattle.schema.proofs.Bound.{passed}
use Rattle.schema.proofs.Sound.{sound}

module _ (A : Automaton) (q : ℕ) (never : A.ends q 0 ≡ false) (back : (a s : ℕ) → A.next q a ≡ Some s → s ≡ q) where
  mutual
    no_tree : (t : Tree) → accepts A q t ≡ true → ⊥
    no_tree (node v cs) h =
        let parts = and_parts (allowed A q (word cs)) _ (and_parts (A.has q v) _ h).1 in
        no_children cs (and_parts (row_runs A q 0 (word cs)) _ parts.0).0 parts.1

    no_children : (cs : Children) → row_runs A q 0 (word cs) ≡ true → accepts_all A q cs ≡ true → ⊥
    no_children none runs all = both_ways (A.ends q 0) never runs
    no_children (child a t cs) runs all =
        let next = passed (A.next q a) (λ s. accepts A s t) (and_parts (passes (A.next q a) (λ s. accepts A s t)) _ all).0 in
        no_tree t (subst (λ (s : ℕ). accepts A s t ≡ true) (back a next.0 next.1) next.2)

pub leads_back_dead : LeadsBackDead
leads_back_dead =
    record {
      general = λ A q never back l. no_tree A q never back l.0 l.1;
      example = λ l. no_tree (automaton one_of_two just_zero) 0 refl (λ a s is. let low = (sound one_of_two just_zero refl).next_in 0 a s (omega arith) is in omega arith) l.0 l.1;
    }
