-- A broken pair is told apart by a tree, and so is a pair with a symbol that leads to such a pair. Assumes nothing.
use Rattle.std.proofs.Common.{◌≡◌, ℕ, true, false, List, [], ◌∷◌, ◌++◌, Some, None, Option, sym, refl, ap, subst}
use Rattle.std.specs.List.{AllByRecursion}
use Rattle.std.proofs.lemmas.Bool.{and_parts, and_from, and_left, and_right, false≢true}
use Rattle.codec.specs.Trees.{Tree, node, Children, none, child, word}
use Rattle.schema.specs.Automata.{Automaton, passes, present, row_runs, has_next, allowed, accepts, accepts_all}
use Rattle.schema.specs.Live.{Live, LiveSequence, LiveSymbol}
use Rattle.schema.proofs.Onward.{Leads}
use Rattle.compare.specs.declared.phase.Kind.TheVariants.{Value, Content}
use Rattle.compare.specs.Breaking.{ToldApart, BrokenTells, OnwardTells, UnbrokenOnward}

-- something is there
there : (o : Option ℕ) → present o ≡ true → (x : ℕ) × (o ≡ Some x)
there (Some x) h = (x, refl)
there None h = absurd (false≢true h)

module _ (A : Automaton) where
  -- children for a sequence, each accepted
  record Grown (p : ℕ) (w : List ℕ) : Type 0 where
    children : Children
    spells : word children ≡ w
    all : accepts_all A p children ≡ true

  -- one child more in front
  abbrev grow_child : (p a s : ℕ) (t : Tree) (w : List ℕ) → A.next p a ≡ Some s → accepts A s t ≡ true → Grown p w → Grown p (a ∷ w)
  grow_child p a s t w is accepted rest =
      record {
        children = child a t rest.children;
        spells = ap (λ (u : List ℕ). a ∷ u) rest.spells;
        all = and_from _ _ (subst (λ o. passes o (λ s. accepts A s t) ≡ true) (sym is) accepted) rest.all;
      }

  -- children for a sequence into live states
  grow : (p : ℕ) (w : List ℕ) → AllByRecursion (Leads A p) w → Grown p w
  grow p [] all = record { children = none; spells = refl; all = refl }
  grow p (a ∷ w) all = grow_child p a all.0.0 all.0.2.0 w all.0.1 all.0.2.1 (grow p w all.1)

  value : (p : ℕ) → Live A p → (v : ℕ) × (A.has p v ≡ true)
  value p (node v cs, h) = (v, (and_parts (A.has p v) _ h).0)

  -- the children of a live state's tree
  sequence : (p : ℕ) → Live A p → (w : List ℕ) × Grown p w × (allowed A p w ≡ true)
  sequence p (node v cs, h) =
      let content = and_parts (allowed A p (word cs)) _ (and_parts (A.has p v) _ h).1 in
      (word cs, record { children = cs; spells = refl; all = content.1 }, content.0)

  -- a value and the children of a sequence make a tree that is accepted
  accepted : (p v : ℕ) (w : List ℕ) → A.has p v ≡ true → allowed A p w ≡ true → (g : Grown p w) → accepts A p (node v g.children) ≡ true
  accepted p v w has may g = and_from _ _ has (and_from _ _ (subst (λ (u : List ℕ). allowed A p u ≡ true) (sym g.spells) may) g.all)

module _ (A B : Automaton) (p q : ℕ) (live : Live A p) where
  by_value : (v : ℕ) → A.has p v ≡ true → B.has q v ≡ false → ToldApart A B p q
  by_value v has lacks =
      let s = sequence A p live in
      (node v s.1.children, accepted A p v s.0 has s.2 s.1, and_left _ _ lacks)

  by_content : (w : List ℕ) → LiveSequence A p w → allowed B q w ≡ false → ToldApart A B p q
  by_content w (may, leads) not_there =
      let g = grow A p w leads in
      let v = value A p live in
      (node v.0 g.children, accepted A p v.0 w v.1 may g, and_right _ _ (and_left _ _ (subst (λ (u : List ℕ). allowed B q u ≡ false) (sym g.spells) not_there)))

  -- children for a sequence with a tree of one's own under one of its symbols, which the second automaton refuses
  grow_with : (a s : ℕ) (t : Tree) → A.next p a ≡ Some s → accepts A s t ≡ true → passes (B.next q a) (λ u. accepts B u t) ≡ false → (u v : List ℕ) → AllByRecursion (Leads A p) (u ++ a ∷ v) → (g : Grown A p (u ++ a ∷ v)) × (accepts_all B q g.children ≡ false)
  grow_with a s t is here refused [] v all = (grow_child A p a s t v is here (grow A p v all.1), and_left _ _ refused)
  grow_with a s t is here refused (b ∷ u) v all =
      let rest = grow_with a s t is here refused u v all.1 in
      (grow_child A p b all.0.0 all.0.2.0 (u ++ a ∷ v) all.0.1 all.0.2.1 rest.0, and_right _ _ rest.1)

  by_child : (a s : ℕ) (t : Tree) → LiveSymbol A p a → A.next p a ≡ Some s → accepts A s t ≡ true → passes (B.next q a) (λ u. accepts B u t) ≡ false → ToldApart A B p q
  by_child a s t (u, v, (may, leads)) is here refused =
      let g = grow_with a s t is here refused u v leads in
      let x = value A p live in
      (node x.0 g.0.children, accepted A p x.0 (u ++ a ∷ v) x.1 may g.0, and_right (B.has q x.0) _ (and_right (allowed B q (word g.0.children)) _ g.1))

pub broken_tells : BrokenTells
broken_tells A B Value p q live broken = by_value A B p q live broken.0 broken.1 broken.2
broken_tells A B Content p q live broken = by_content A B p q live broken.0 broken.1 broken.2

pub onward_tells : OnwardTells
onward_tells A B p q a s u live symbol is to told =
    by_child A B p q live a s told.0 symbol is told.1 (subst (λ o. passes o (λ u. accepts B u told.0) ≡ false) (sym to) told.2)

pub unbroken_onward : UnbrokenOnward
unbroken_onward A B p q a unbroken (u, v, live) =
    at_symbol u (and_parts (row_runs B q 0 (u ++ a ∷ v)) _ (unbroken.contents (u ++ a ∷ v) live)).1
  where
    at_symbol : (u : List ℕ) → has_next B q (u ++ a ∷ v) ≡ true → (s : ℕ) × (B.next q a ≡ Some s)
    at_symbol [] h = there (B.next q a) (and_parts (present (B.next q a)) _ h).0
    at_symbol (b ∷ u) h = at_symbol u (and_parts (present (B.next q b)) _ h).1
