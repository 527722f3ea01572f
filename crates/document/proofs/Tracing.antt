-- From a broken pair back along the pairs that led to it: at each point a tree is built along the part of the path that lies behind, and at
-- the first pair that is the document; where it can go no further there is none. Assumes nothing.
use Rattle.std.proofs.Common.{◌≡◌, ℕ, ◌+◌, ◌<◌, ◌≤◌, Bool, true, false, List, [], ◌∷◌, ◌++◌, reverse, length, min, Some, None, Decides, Option, sym, refl, ap, ◌∙◌, subst, append_assoc, arith}
use Rattle.std.specs.Bool.{then_some}
use Rattle.std.specs.List.{slice_get}
use Rattle.std.proofs.lemmas.Bool.{cond-true, false≢true, lt-ltb, ltb-true}
use Rattle.std.proofs.lemmas.List.{append-nil, length-drop, length_push}
use Rattle.std.proofs.lemmas.Option.{same_Some, slice_get_within}
use Rattle.codec.specs.declared.item.Level.{Level}
use Rattle.codec.specs.Piles.{Stack, slots, Pushed}
use Rattle.codec.specs.Encoding.{tree_bytes}
use Rattle.codec.specs.Trees.{Tree, node, word}
use Rattle.schema.specs.Automata.{Automaton}
use Rattle.search.specs.Paths.{PathBack}
use Rattle.search.proofs.Paths.{Onward, onward_more, path_through}
use Rattle.search.proofs.Places.{nth_inside}
use Rattle.compare.specs.declared.pairs.Listed.{Listed}
use Rattle.compare.specs.declared.phase.Kind.{Kind}
use Rattle.compare.specs.Listing.{pair_links}
use Rattle.document.specs.declared.trace.Step.{Step}
use Rattle.samples.specs.declared.node.NodeKey.{NodeKey}
use Rattle.samples.specs.declared.node.NodeKey.TheVariants.{Pair}
use Rattle.document.specs.Documents.{AtEnd, Built, DocumentOf}
use Rattle.document.specs.Contexts.{bytes_before, bytes_after}
use Rattle.document.specs.Steps.{EndBytes, PathStep, StepsBack, Traced, TracesBack, all_before, levels_of, all_after}
use Rattle.document.specs.Nodes.{NodeOrNone}
use Rattle.samples.specs.declared.size.TheConstants.{TOO_LONG}
use Rattle.samples.specs.Kept.{needed}
use Rattle.samples.proofs.Growing.{SampledChildren}
use Rattle.document.proofs.Filling.{filled}
use Rattle.document.proofs.Lengths.{needed_filled, capped_right}
use Rattle.document.proofs.Onward.{document_onward, document_splits, document_of}
use Rattle.document.proofs.Splitting.{filled_built, filled_bytes, end_with}
use Rattle.document.proofs.Steps.{heads_more, marks_more, tails_more}

-- where a slot is left the entry goes on top
pub pushed_on : {X : Type 0} (before : Stack X) (x : X) (r : Bool) (after : Stack X) → Pushed before x r after → 0 < length before.free → after.entries ≡ before.entries ++ x ∷ []
pushed_on before x r after p some = p.entries ∙ cond-true r (before.entries ++ x ∷ []) before.entries (p.room ∙ lt-ltb 0 (length before.free) some)

-- and there are as many slots as before
pub pushed_slots : {X : Type 0} (before : Stack X) (x : X) (r : Bool) (after : Stack X) → Pushed before x r after → slots after ≡ slots before
pushed_slots before x true after p = omega (arith, ltb-true 0 (length before.free) (sym p.room), ap length p.entries, length_push before.entries x, ap length p.free, length-drop 1 before.free)
pushed_slots before x false after p = omega (arith, ap length p.entries, ap length p.free)

module _ (A B : Automaton) (k : Kind) (es : List Listed) (i : ℕ) (x : Listed) (there : slice_get es i ≡ Some x) where
  -- the tree at the end
  pub ends : (v size : ℕ) (w : List ℕ) → AtEnd A B k x.first x.second v w → (cs : SampledChildren A x.first w) → size ≡ needed (node v cs.0) → EndBytes A B es k i (Some size)
  ends v size w end cs bytes = (x, node v cs.0, there, end_with A B k x.first x.second v w end cs, bytes)

  -- there is none without its node
  pub ends_nowhere : NodeOrNone (AtEnd A B k x.first x.second) None → EndBytes A B es k i None
  ends_nowhere none y (node v cs) at b =
      let same : y ≡ x = same_Some _ _ (sym at ∙ there) in
      none v (word cs) (subst (λ (z : Listed). AtEnd A B k z.first z.second v (word cs)) same b.0)

-- the key of a pair tells its place
pair_place : (i j : ℕ) → ◌≡◌ {A = NodeKey} (Pair i) (Pair j) → i ≡ j
pair_place i j same = cc

-- four lists filled, with the middle two apart
regrouped : (h hs p ts t : List ℕ) → h ++ ((hs ++ (p ++ ts)) ++ t) ≡ (h ++ hs) ++ (p ++ (ts ++ t))
regrouped h hs p ts t = simp append_assoc

module _ (A B : Automaton) (k : Kind) (es : List Listed) (i : ℕ) where
  -- a point of the path: the pair there, and what is built from there on
  pub record Point (at size : ℕ) (levels : List (Level NodeKey)) : Type 0 where
    pub pair : Listed
    pub there : slice_get es at ≡ Some pair
    pub path : List Listed
    pub onward : Onward pair_links es at i path
    pub tree : Tree
    pub built : Built A B k pair.first pair.second path tree
    pub bytes : size ≡ needed tree
    pub steps : List (PathStep A B es)
    pub few : at + length steps ≤ i
    pub marked : levels ≡ levels_of steps
    pub last : Listed
    pub listed : slice_get es i ≡ Some last
    pub part : Tree
    pub ends : Built A B k last.first last.second [] part
    pub parted : tree_bytes tree ≡ all_before steps ++ (tree_bytes part ++ all_after steps)

  -- it begins at the end
  pub begins : (size : ℕ) (levels : List (Level NodeKey)) → EndBytes A B es k i (Some size) → levels ≡ [] → Point i size levels
  begins size levels (x, t, there, built, bytes) none =
      record {
        pair = x;
        there = there;
        path = [];
        onward = refl;
        tree = t;
        built = built;
        bytes = bytes;
        steps = [];
        few = omega arith;
        marked = none;
        last = x;
        listed = there;
        part = t;
        ends = built;
        parted = sym (append-nil (tree_bytes t));
      }

  -- and goes on by steps
  pub goes_back : (at size : ℕ) (levels : List (Level NodeKey)) (s : Step) → Point at size levels → StepsBack A B es at (Some s) → Point s.at (min (size + s.size) TOO_LONG) (levels ++ record { left = s.left; at = Pair at } ∷ [])
  goes_back at size levels s p (step, level, up, bytes) =
      let place : step.place ≡ at = pair_place step.place at (ap (λ (l : Level NodeKey). l.at) level) in
      let e = step.pair in
      let x = step.from in
      let f = step.context in
      let there : slice_get es at ≡ Some e = ap (slice_get es) (sym place) ∙ step.led.there in
      let before : e.parent < at = omega (arith, place, step.led.before) in
      let same : p.pair ≡ e = same_Some _ _ (sym p.there ∙ there) in
      let built : Built A B k e.first e.second p.path p.tree = subst (λ (y : Listed). Built A B k y.first y.second p.path p.tree) same p.built in
      let around = ap (λ (l : List ℕ). bytes_before A B f ++ (l ++ bytes_after A B f)) p.parted ∙ regrouped (bytes_before A B f) (all_before p.steps) (tree_bytes p.part) (all_after p.steps) (bytes_after A B f) in
      record {
        pair = x;
        there = ap (slice_get es) up ∙ step.led.parent;
        path = e ∷ p.path;
        onward = subst (λ (j : ℕ). Onward pair_links es j i (e ∷ p.path)) (sym up) (onward_more pair_links es at i e p.path p.onward there before);
        tree = filled A B f p.tree;
        built = filled_built A B k x.first x.second e p.path f p.tree built;
        bytes =
            ap (λ (n : ℕ). min (size + n) TOO_LONG) bytes ∙ capped_right size (length (bytes_before A B f) + length (bytes_after A B f))
            ∙ ap (λ (n : ℕ). min (n + (length (bytes_before A B f) + length (bytes_after A B f))) TOO_LONG) p.bytes ∙ sym (needed_filled A B f p.tree);
        steps = p.steps ++ step ∷ [];
        few = omega (arith, length_push p.steps step, p.few, up, before);
        marked = ap (λ (ls : List (Level NodeKey)). ls ++ record { left = s.left; at = Pair at } ∷ []) p.marked ∙ ap (λ (l : Level NodeKey). levels_of p.steps ++ l ∷ []) (sym level) ∙ sym (marks_more p.steps step);
        last = p.last;
        listed = p.listed;
        part = p.part;
        ends = p.ends;
        parted = filled_bytes A B f p.tree ∙ around ∙ (λ j. sym (heads_more p.steps step) j ++ (tree_bytes p.part ++ sym (tails_more p.steps step) j));
      }

  -- the broken pair of a document is listed
  broken_there : (whole : List Listed) (t : Tree) → DocumentOf A B k es i whole t → (x : Listed) × (slice_get es i ≡ Some x)
  broken_there whole t d = by (reverse whole) d.leads
    where
      by : (back : List Listed) → PathBack pair_links es i back → (x : Listed) × (slice_get es i ≡ Some x)
      by [] c = (d.first, ap (slice_get es) c ∙ d.listed)
      by (f ∷ back) c = (f, c.0)

  -- where it can't begin there is no document
  pub no_end : EndBytes A B es k i None → (whole : List Listed) (t : Tree) → DocumentOf A B k es i whole t → ⊥
  no_end none whole t d =
      let x = broken_there whole t d in
      let part = document_onward A B k es i whole t d i x.0 [] x.1 refl in
      none x.0 part.0 x.1 part.1

  -- nor where no step goes on
  pub no_path_back : (at size : ℕ) (levels : List (Level NodeKey)) → Point at size levels → 0 < at → StepsBack A B es at None → (whole : List Listed) (t : Tree) → DocumentOf A B k es i whole t → ⊥
  no_path_back at size levels p some none whole t d =
      let through = path_through pair_links es at i p.path whole d.leads p.onward in
      by (reverse through.0) through.1
    where
      by : (back : List Listed) → PathBack pair_links es at back → ⊥
      by [] c = omega (arith, c)
      by (e ∷ back) c =
          let x = nth_inside es e.parent (omega (arith, c.1, slice_get_within es at e c.0)) in
          let split = document_splits A B k es i whole t d e.parent x.0 e p.path x.1 (onward_more pair_links es at i e p.path p.onward c.0 c.1) in
          none e x.0 (record { there = c.0; before = c.1; parent = x.1 }) split.1.context

  -- at the first pair it ends with the document, where that is the pair (0, 0)
  pub arrives : (size : ℕ) (levels : List (Level NodeKey)) → (p : Point 0 size levels) → p.pair.first ≡ 0 → p.pair.second ≡ 0 → Traced A B es k i size levels
  arrives size levels p first second =
      record {
        path = p.path;
        tree = p.tree;
        document = document_of A B k es i p.pair p.path p.tree p.there first second p.onward p.built;
        bytes = p.bytes;
        steps = p.steps;
        few = omega (arith, p.few);
        marked = p.marked;
        last = p.last;
        listed = p.listed;
        part = p.part;
        ends = p.ends;
        parted = p.parted;
      }

  -- and where it is not there is none
  pub begins_elsewhere : (size : ℕ) (levels : List (Level NodeKey)) → (p : Point 0 size levels) → (p.pair.first ≡ 0 → p.pair.second ≡ 0 → ⊥) → (whole : List Listed) (t : Tree) → DocumentOf A B k es i whole t → ⊥
  begins_elsewhere size levels p elsewhere whole t d =
      let same : d.first ≡ p.pair = same_Some _ _ (sym d.listed ∙ p.there) in
      elsewhere (ap {B = ℕ} (λ (x : Listed). x.first) (sym same) ∙ d.starts.0) (ap {B = ℕ} (λ (x : Listed). x.second) (sym same) ∙ d.starts.1)

  -- so the test of the first pair decides
  pub ends_at_first : (start : Listed) (b : Bool) (size : ℕ) (r : Option ℕ) (levels : List (Level NodeKey)) → slice_get es 0 ≡ Some start → Decides b ((start.first ≡ 0) × (start.second ≡ 0)) → Point 0 size levels → r ≡ then_some b size → TracesBack A B es k i r levels
  ends_at_first start b size r levels at tells p is = subst (λ (o : Option ℕ). TracesBack A B es k i o levels) (sym is) (by b tells)
    where
      same : start ≡ p.pair
      same = same_Some _ _ (sym at ∙ p.there)

      by : (b : Bool) → Decides b ((start.first ≡ 0) × (start.second ≡ 0)) → TracesBack A B es k i (then_some b size) levels
      by true tells =
          let zero = tells.0 refl in
          arrives size levels p (subst (λ (x : Listed). x.first ≡ 0) same zero.0) (subst (λ (x : Listed). x.second ≡ 0) same zero.1)
      by false tells =
          begins_elsewhere size levels p (λ first second. false≢true (tells.1 (subst (λ (x : Listed). x.first ≡ 0) (sym same) first, subst (λ (x : Listed). x.second ≡ 0) (sym same) second)))
