-- Live symbols lead to a state exactly when some node of some accepted tree is bound to it. Assumes nothing.
use Rattle.std.proofs.Common.{◌≡◌, ℕ, Bool, true, List, [], ◌∷◌, ◌++◌, Some, sym, refl, ap, ◌∙◌, subst, inl, inr, ⊎_elim}
use Rattle.std.specs.List.{AllByRecursion}
use Rattle.std.proofs.lemmas.Bool.{and_parts}
use Rattle.codec.specs.Trees.{Tree, node, Children, none, child, word}
use Rattle.schema.specs.Automata.{Automaton, allowed, accepts}
use Rattle.schema.specs.Bindings.{States, at, StatesBelow, leaf, beside, root, Occurs, OccursBelow, Bound, BoundAll}
use Rattle.schema.specs.Live.{Live, LiveSymbol, LivePath}
use Rattle.schema.specs.Permitted.{permit}
use Rattle.schema.proofs.Bound.{accepted_is_bound}
use Rattle.schema.proofs.Onward.{Leads, live_symbols, live_next, path_push}
use Rattle.trim.specs.Kept.{Kept, Used}
use Rattle.trim.proofs.Permits.{bound_freed, bound_permitted}

-- the root is a node
occurs_root : (b : States) (q : ℕ) → root b ≡ q → Occurs q b
occurs_root (at r bs) q e = inl e

module _ (A : Automaton) where
  leads_all : (q : ℕ) (cs : Children) (bs : StatesBelow) → BoundAll A q cs bs → AllByRecursion (Leads A q) (word cs)
  leads_all q none bs bound = tt
  leads_all q (child a t cs) leaf bound = absurd bound
  leads_all q (child a t cs) (beside b bs) bound = ((root b, bound.0, (t, accepted_is_bound.accepted A t b bound.1)), leads_all q cs bs bound.2)

  -- the symbols of a bound node's children are live
  pub bound_live : (v : ℕ) (cs : Children) (q : ℕ) (bs : StatesBelow) → Bound A (node v cs) (at q bs) → AllByRecursion (LiveSymbol A q) (word cs)
  bound_live v cs q bs bound = live_symbols A q (word cs) (bound.1, leads_all q cs bs bound.2)

  -- what live symbols pass on holds of every state of a bound tree if it holds of the root's
  module _ (K : ℕ → Type 0) (on : (q a s : ℕ) → K q → LiveSymbol A q a → A.next q a ≡ Some s → K s) where
    mutual
      pub down : (t : Tree) (b : States) (q : ℕ) → Bound A t b → K (root b) → Occurs q b → K q
      down (node v cs) (at r bs) q bound here there = ⊎_elim (λ e. subst K e here) (λ below. down_all r cs bs q here (bound_live v cs r bs bound) bound.2 below) there

      down_all : (r : ℕ) (cs : Children) (bs : StatesBelow) (q : ℕ) → K r → AllByRecursion (LiveSymbol A r) (word cs) → BoundAll A r cs bs → OccursBelow q bs → K q
      down_all r none bs q here live bound there = none_there bs bound there
        where
          none_there : (bs : StatesBelow) → BoundAll A r none bs → OccursBelow q bs → K q
          none_there leaf bound there = absurd there
          none_there (beside b bs) bound there = absurd bound
      down_all r (child a t cs) leaf q here live bound there = absurd bound
      down_all r (child a t cs) (beside b bs) q here live bound there =
          ⊎_elim (λ first. down t b q bound.1 (on r a (root b) here live.0 bound.0) first) (λ others. down_all r cs bs q here live.1 bound.2 others) there

  -- a tree accepted at p with a node bound to q
  record BoundNode (p q : ℕ) : Type 0 where
    tree : Tree
    states : States
    start : root states ≡ p
    bound : Bound A tree states
    there : Occurs q states

  value : (p : ℕ) → Live A p → (v : ℕ) × (A.has p v ≡ true)
  value p (node v cs, h) = (v, (and_parts (A.has p v) _ h).0)

  record ChildrenOver (q : ℕ) (w : List ℕ) : Type 0 where
    children : Children
    below : StatesBelow
    spells : word children ≡ w
    bound : BoundAll A q children below

  -- children for a sequence into live states
  children_over : (q : ℕ) (w : List ℕ) → AllByRecursion (Leads A q) w → ChildrenOver q w
  children_over q [] all = record { children = none; below = leaf; spells = refl; bound = tt }
  children_over q (a ∷ w) all =
      let first = accepted_is_bound.bound A all.0.0 all.0.2.0 all.0.2.1 in
      let rest = children_over q w all.1 in
      record {
        children = child a all.0.2.0 rest.children;
        below = beside first.0 rest.below;
        spells = ap (λ (u : List ℕ). a ∷ u) rest.spells;
        bound = (all.0.1 ∙ ap Some (sym first.1), first.2, rest.bound);
      }

  -- and with a tree of one's own under one of its symbols
  children_with : (p a s q : ℕ) → A.next p a ≡ Some s → BoundNode s q → (u v : List ℕ) → AllByRecursion (Leads A p) (u ++ a ∷ v) → (g : ChildrenOver p (u ++ a ∷ v)) × OccursBelow q g.below
  children_with p a s q is bound_node [] v all =
      let rest = children_over p v all.1 in (
        record {
          children = child a bound_node.tree rest.children;
          below = beside bound_node.states rest.below;
          spells = ap (λ (u : List ℕ). a ∷ u) rest.spells;
          bound = (is ∙ ap Some (sym bound_node.start), bound_node.bound, rest.bound);
        },
        inl bound_node.there,
      )
  children_with p a s q is bound_node (c ∷ u) v all =
      let first = accepted_is_bound.bound A all.0.0 all.0.2.0 all.0.2.1 in
      let rest = children_with p a s q is bound_node u v all.1 in (
        record {
          children = child c all.0.2.0 rest.0.children;
          below = beside first.0 rest.0.below;
          spells = ap (λ (w : List ℕ). c ∷ w) rest.0.spells;
          bound = (all.0.1 ∙ ap Some (sym first.1), first.2, rest.0.bound);
        },
        inr rest.1,
      )

  bound_node : (w : List ℕ) (p q : ℕ) → Live A p → LivePath A p w q → BoundNode p q
  bound_node [] p q live e =
      let b = accepted_is_bound.bound A p live.0 live.1 in
      record { tree = live.0; states = b.0; start = b.1; bound = b.2; there = occurs_root b.0 q (b.1 ∙ e) }
  bound_node (a ∷ w) p q live path =
      let s = path.1.0 in
      let sequence = path.0 in
      let rest = bound_node w s q (live_next A p a s sequence path.1.1) path.1.2 in
      let g = children_with p a s q path.1.1 rest sequence.0 sequence.1 sequence.2.1 in
      let v = value p live in
      record {
        tree = node v.0 g.0.children;
        states = at p g.0.below;
        start = refl;
        bound = (v.1, subst (λ (u : List ℕ). allowed A p u ≡ true) (sym g.0.spells) sequence.2.0, g.0.bound);
        there = inr g.1;
      }

module _ (A : Automaton) (permitted : ℕ → Bool) where
  -- live symbols lead from what is kept to what is kept
  pub kept_on : (q a s : ℕ) → Kept A permitted q → LiveSymbol (permit permitted A) q a → (permit permitted A).next q a ≡ Some s → Kept A permitted s
  kept_on q a s kept live is = (kept.0, (kept.1.0 ++ a ∷ [], path_push (permit permitted A) kept.1.0 0 q a s kept.1.1 live is))

  pub kept_used : (q : ℕ) → Kept A permitted q → Used A permitted q
  kept_used q kept =
      let there = bound_node (permit permitted A) kept.1.0 0 q kept.0 kept.1.1 in
      let freed = bound_freed permitted A there.tree there.states there.bound in
      record { tree = there.tree; states = there.states; start = there.start; bound = freed.0; within = freed.1; there = there.there }

  pub used_kept : (q : ℕ) → Used A permitted q → Kept A permitted q
  used_kept q used =
      let bound = bound_permitted permitted A used.tree used.states used.bound used.within in
      let live : Live (permit permitted A) 0 = (used.tree, subst (λ (s : ℕ). accepts (permit permitted A) s used.tree ≡ true) used.start (accepted_is_bound.accepted (permit permitted A) used.tree used.states bound)) in
      down (permit permitted A) (Kept A permitted) kept_on used.tree used.states q bound (live, ([], sym used.start)) used.there
