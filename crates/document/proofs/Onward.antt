-- What a document says at each point of the path to it: from there on a tree is built along the rest of the path. Assumes nothing.
use Rattle.std.proofs.Common.{◌≡◌, ℕ, List, [], ◌∷◌, ◌++◌, reverse, Some, sym, refl, ap, ◌∙◌, subst}
use mathlib.Core.List.{reverse-cons}
use Rattle.std.specs.List.{slice_get}
use Rattle.std.proofs.lemmas.List.{reverse-reverse}
use Rattle.std.proofs.lemmas.Option.{same_Some}
use Rattle.codec.specs.Trees.{Tree}
use Rattle.schema.specs.Automata.{Automaton}
use Rattle.compare.specs.declared.pairs.Listed.{Listed}
use Rattle.compare.specs.declared.phase.Kind.{Kind}
use Rattle.search.specs.Paths.{PathBack}
use Rattle.search.proofs.Paths.{Onward, onward_path, path_through}
use Rattle.compare.specs.Listing.{pair_links}
use Rattle.document.specs.Documents.{PairPath, Built, DocumentOf}
use Rattle.document.proofs.Filling.{Split}
use Rattle.document.proofs.Splitting.{built_splits}

-- the last entry on a path that begins at one
abbrev pub last_on : Listed → List Listed → Listed
last_on x [] = x
last_on x (e ∷ path) = last_on e path

last_appended : (x f : Listed) (path : List Listed) → last_on x (path ++ f ∷ []) ≡ f
last_appended x f [] = refl
last_appended x f (e ∷ path) = last_appended e f path

module _ (es : List Listed) (first x : Listed) (j : ℕ) (listed : slice_get es 0 ≡ Some first) (there : slice_get es j ≡ Some x) where
  -- a path ends at its entry
  pub last_on_path : (path : List Listed) → PairPath es j path → last_on first path ≡ x
  last_on_path path w = by (reverse path) (reverse-reverse path) w
    where
      by : (back : List Listed) → reverse back ≡ path → PathBack pair_links es j back → last_on first path ≡ x
      by [] is c = ap (last_on first) (sym is) ∙ same_Some _ _ (sym listed ∙ ap (slice_get es) (sym c) ∙ there)
      by (f ∷ back) is c = ap (last_on first) (sym is ∙ reverse-cons f back) ∙ last_appended first f (reverse back) ∙ same_Some _ _ (sym c.0 ∙ there)

module _ (A B : Automaton) (k : Kind) where
  -- from each entry on a path on, a tree is built along the rest
  pub built_onward : (x : Listed) (front path : List Listed) (t : Tree) → Built A B k x.first x.second (front ++ path) t → (part : Tree) × Built A B k (last_on x front).first (last_on x front).second path part
  built_onward x [] path t b = (t, b)
  built_onward x (e ∷ front) path t b =
      let s = built_splits A B k x.first x.second e (front ++ path) t b in
      built_onward e front path s.part s.built

  module _ (es : List Listed) (i : ℕ) where
    -- with a document, a tree is built from each point of the path on
    pub document_onward : (whole : List Listed) (t : Tree) → DocumentOf A B k es i whole t → (j : ℕ) (x : Listed) (path : List Listed) → slice_get es j ≡ Some x → Onward pair_links es j i path → (part : Tree) × Built A B k x.first x.second path part
    document_onward whole t d j x path there a =
        let through = path_through pair_links es j i path whole d.leads a in
        let start : Built A B k d.first.first d.first.second whole t = subst (λ (p : ℕ). Built A B k p d.first.second whole t) (sym d.starts.0) (subst (λ (q : ℕ). Built A B k 0 q whole t) (sym d.starts.1) d.built) in
        let onward = built_onward d.first through.0 path t (subst (λ (l : List Listed). Built A B k d.first.first d.first.second l t) through.2 start) in
        (onward.0, subst (λ (y : Listed). Built A B k y.first y.second path onward.0) (last_on_path es d.first x j d.listed there through.0 through.1) onward.1)

    -- and each step of the path is a context
    pub document_splits : (whole : List Listed) (t : Tree) → DocumentOf A B k es i whole t → (j : ℕ) (x e : Listed) (path : List Listed) → slice_get es j ≡ Some x → Onward pair_links es j i (e ∷ path) → (part : Tree) × Split A B k x.first x.second e path part
    document_splits whole t d j x e path there a =
        let onward = document_onward whole t d j x (e ∷ path) there a in
        (onward.0, built_splits A B k x.first x.second e path onward.0 onward.1)

    -- a tree built along all of the path is the document
    pub document_of : (first : Listed) (path : List Listed) (t : Tree) → slice_get es 0 ≡ Some first → first.first ≡ 0 → first.second ≡ 0 → Onward pair_links es 0 i path → Built A B k first.first first.second path t → DocumentOf A B k es i path t
    document_of first path t listed p q a b =
        record {
          first = first;
          listed = listed;
          starts = (p, q);
          leads = onward_path pair_links es i path a;
          built = subst (λ (n : ℕ). Built A B k 0 n path t) q (subst (λ (n : ℕ). Built A B k n first.second path t) p b);
        }
