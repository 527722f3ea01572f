-- There is one tree built along a path, and one document. Assumes nothing.
use Rattle.std.proofs.Common.{◌≡◌, ℕ, List, [], ◌∷◌, sym, ap, ◌∙◌, subst, ⊎_elim}
use Rattle.codec.specs.Trees.{Tree, node, Children, none, child, word}
use Rattle.schema.specs.Automata.{Automaton}
use Rattle.search.proofs.Orders.{one_first}
use Rattle.compare.specs.declared.pairs.Listed.{Listed}
use Rattle.compare.specs.declared.phase.Kind.{Kind}
use Rattle.compare.specs.declared.phase.Kind.TheVariants.{Value, Content}
use Rattle.compare.specs.declared.phase.Phase.TheVariants as phase
use Rattle.compare.specs.Trailing.{broken_index}
use Rattle.compare.specs.View.{View}
use Rattle.document.specs.Documents.{AtEnd, OnPath, Built, HoldsPart, DocumentOf, OneDocument}
use Rattle.document.specs.Writing.{DocumentIn, FoundDocument, NoDocument}
use Rattle.samples.proofs.Unique.{one_smallest, same_node, same_child, one_samples}
use Rattle.search.proofs.Paths.{one_path}
use Rattle.compare.specs.Listing.{pair_links}

module _ (A B : Automaton) where
  -- the end has one value and one sequence
  pub one_end : (k : Kind) (p q v w : ℕ) (x y : List ℕ) → AtEnd A B k p q v x → AtEnd A B k p q w y → (v ≡ w) × (x ≡ y)
  one_end Value p q v w x y s r = (one_smallest _ v w s.0 r.0, one_first _ x y s.1 r.1)
  one_end Content p q v w x y s r = (one_smallest _ v w s.0 r.0, one_first _ x y s.1 r.1)

  -- and so has each node before it
  pub one_on_path : (p a v w : ℕ) (x y : List ℕ) → OnPath A B p a v x → OnPath A B p a w y → (v ≡ w) × (x ≡ y)
  one_on_path p a v w x y s r = (one_smallest (A.has p) v w s.0 r.0, one_first _ x y s.1 r.1)

  mutual
    -- there is one tree built along a path
    pub one_built : (k : Kind) (p q : ℕ) (path : List Listed) (t u : Tree) → Built A B k p q path t → Built A B k p q path u → t ≡ u
    one_built k p q [] (node v cs) (node w ds) s r =
        let same = one_end k p q v w (word cs) (word ds) s.0 r.0 in
        same_node v w cs ds same.0 (one_samples A p cs ds same.1 s.1 r.1)
    one_built k p q (e ∷ path) (node v cs) (node w ds) s r =
        let same = one_on_path p e.symbol v w (word cs) (word ds) s.0 r.0 in
        same_node v w cs ds same.0 (one_going_on k p e path cs ds same.1 s.2 r.2)

    one_going_on : (k : Kind) (p : ℕ) (e : Listed) (path : List Listed) (cs ds : Children) → word cs ≡ word ds → HoldsPart A B k p e path cs → HoldsPart A B k p e path ds → cs ≡ ds
    one_going_on k p e path none ds same s r = absurd s
    one_going_on k p e path (child a t cs) none same s r = absurd r
    one_going_on k p e path (child a t cs) (child b u ds) same s r =
        let symbol : a ≡ b = cc in
        let rest : word cs ≡ word ds = cc in
        ⊎_elim
        (λ here.
        ⊎_elim
        (λ here'. same_child a b t u cs ds symbol (one_built k e.first e.second path t u here.1 here'.1) (one_samples A p cs ds rest here.2 here'.2))
        (λ later'. absurd (later'.0 (sym symbol ∙ here.0)))
        r)
        (λ later.
        ⊎_elim
        (λ here'. absurd (later.0 (symbol ∙ here'.0)))
        (λ later'.
        let first : child a t none ≡ child b u none = one_samples A p (child a t none) (child b u none) (ap (λ (c : ℕ). c ∷ []) symbol) later.1 later'.1 in
        let tree : t ≡ u = cc in
        same_child a b t u cs ds symbol tree (one_going_on k p e path cs ds rest later.2 later'.2))
        r)
        s

pub one_document : OneDocument
unfolding OneDocument
one_document A B k es i v w t u d d' =
    let path : v ≡ w = one_path pair_links es i v w d.leads d'.leads in
    (path, one_built A B k 0 0 w t u (subst (λ (l : List Listed). Built A B k 0 0 l t) path d.built) d'.built)

module _ (A B : Automaton) (w : View) where
  -- an area's broken pair has one document
  pub one_document_in : (v u : List Listed) (t r : Tree) → DocumentIn A B w v t → DocumentIn A B w u r → (v ≡ u) × (t ≡ r)
  unfolding OneDocument
  one_document_in v u t r d d' =
      let kinds : phase.Apart d.0 ≡ phase.Apart d'.0 = sym d.1 ∙ d'.1 in
      let kind : d.0 ≡ d'.0 = cc in
      one_document A B d'.0 w.pairs (broken_index w) v u t r (subst (λ (k : Kind). DocumentOf A B k w.pairs (broken_index w) v t) kind d.2) d'.2

  -- so what is found is one tree
  pub one_found : (f g : FoundDocument A B w) → f.tree ≡ g.tree
  one_found f g = (one_document_in f.path g.path f.tree g.tree f.document g.document).1

  -- where one is found, it is not lacking
  pub found_or_not : FoundDocument A B w → NoDocument A B w → ⊥
  found_or_not f lacks = lacks f.path f.tree f.document
