-- A tree built along a path that goes on is a context with the part built from there on, and its bytes are the part's between the context's.
-- Assumes nothing.
use Rattle.std.proofs.Common.{◌≡◌, ℕ, ◌<◌, List, [], ◌∷◌, ◌++◌, length, sym, refl, ap, ◌∙◌, subst, ⊎_elim, inl, inr, append_assoc, arith}
use Rattle.std.specs.List.{AllByRecursion}
use Rattle.std.proofs.lemmas.List.{length-append}
use Rattle.codec.specs.Encoding.{tree_bytes, children_bytes}
use Rattle.codec.specs.Numbers.{number_bytes}
use Rattle.codec.specs.Trees.{Tree, node, Children, none, child, word, many}
use Rattle.schema.specs.Automata.{Automaton}
use Rattle.search.specs.Watching.{Holds}
use Rattle.compare.specs.declared.pairs.Listed.{Listed}
use Rattle.compare.specs.declared.phase.Kind.{Kind}
use Rattle.compare.specs.declared.phase.Kind.TheVariants.{Value, Content}
use Rattle.document.specs.Documents.{AtEnd, OnPath, LeadsTo, Built, HoldsPart}
use Rattle.document.specs.Contexts.{Context, bytes_before, bytes_after}
use Rattle.samples.specs.Samples.{Samples}
use Rattle.samples.proofs.Lengths.{many_symbols}
use Rattle.samples.proofs.Growing.{Inside, HaveRoots, LeadsLive, SampledChildren, sampled_children, live_children, sample_children}
use Rattle.document.proofs.Filling.{followed_by, filled, Split}

-- the symbols of children with others after them
pub word_followed : (cs ds : Children) → word (followed_by cs ds) ≡ word cs ++ word ds
word_followed none ds = refl
word_followed (child a t cs) ds = ap (λ (w : List ℕ). a ∷ w) (word_followed cs ds)

-- and their bytes
pub bytes_followed : (cs ds : Children) → children_bytes (followed_by cs ds) ≡ children_bytes cs ++ children_bytes ds
bytes_followed none ds = refl
bytes_followed (child a t cs) ds =
    ap (λ (l : List ℕ). number_bytes a ++ (tree_bytes t ++ l)) (bytes_followed cs ds)
    ∙ ap (λ (l : List ℕ). number_bytes a ++ l) (sym (append_assoc (tree_bytes t) (children_bytes cs) (children_bytes ds)))
    ∙ sym (append_assoc (number_bytes a) (tree_bytes t ++ children_bytes cs) (children_bytes ds))

-- a symbol that stands in the rest of a sequence stands in it
pub holds_later : (a b : ℕ) (w : List ℕ) → Holds a w → Holds a (b ∷ w)
holds_later a b w h = (b ∷ h.0, h.1, ap (λ (l : List ℕ). b ∷ l) h.2)

-- the first symbol stands in the sequence
pub holds_here : (a b : ℕ) (w : List ℕ) → b ≡ a → Holds a (b ∷ w)
holds_here a b w same = ([], w, ap (λ (c : ℕ). c ∷ w) same)

-- in a sequence without symbols none stands
pub holds_none : (a : ℕ) → Holds a [] → ⊥
holds_none a h = by h.0 h.2
  where
    by : (u : List ℕ) → [] ≡ u ++ a ∷ h.1 → ⊥
    by u is = omega (arith, ap length is, length-append u (a ∷ h.1))

module _ (A B : Automaton) (k : Kind) (p q : ℕ) (e : Listed) (path : List Listed) where
  goes_on : (part : Tree) (cs ds : Children) → (Holds e.symbol (word cs) → ⊥) → Samples A p cs → Built A B k e.first e.second path part → Samples A p ds → HoldsPart A B k p e path (followed_by cs (child e.symbol part ds))
  goes_on part none ds first s built u = inl (refl, built, u)
  goes_on part (child a t cs) ds first s built u =
      inr ((λ same. first (holds_here e.symbol a (word cs) same)), (s.0, tt), goes_on part cs ds (λ h. first (holds_later e.symbol a (word cs) h)) s.1 built u)

  -- a part with a context on top is built along a path that is one pair longer
  pub filled_built : (f : Context A B p q e) (part : Tree) → Built A B k e.first e.second path part → Built A B k p q (e ∷ path) (filled A B f part)
  filled_built f part built = (
    subst (OnPath A B p e.symbol f.value) (sym (word_followed f.before (child e.symbol part f.after))) f.on_path,
    f.leads,
    goes_on part f.before f.after f.first f.samples_before built f.samples_after,
  )

  -- where a path goes on among children
  record Parting (cs : Children) : Type 0 where
    before : Children
    part : Tree
    after : Children
    is : cs ≡ followed_by before (child e.symbol part after)
    first : Holds e.symbol (word before) → ⊥
    samples_before : Samples A p before
    samples_after : Samples A p after
    built : Built A B k e.first e.second path part

  parting : (cs : Children) → HoldsPart A B k p e path cs → Parting cs
  parting none on = absurd on
  parting (child a t cs) on =
      ⊎_elim
      (λ here.
      record {
        before = none;
        part = t;
        after = cs;
        is = ap (λ (b : ℕ). child b t cs) here.0;
        first = holds_none e.symbol;
        samples_before = tt;
        samples_after = here.2;
        built = here.1;
      })
      (λ later.
      let rest = parting cs later.2 in
      record {
        before = child a t rest.before;
        part = rest.part;
        after = rest.after;
        is = ap (λ (ds : Children). child a t ds) rest.is;
        first = λ h. by_place a (word rest.before) later.0 rest.first h.0 h.1 h.2;
        samples_before = (later.1.0, rest.samples_before);
        samples_after = rest.samples_after;
        built = rest.built;
      })
      on
    where
      by_place : (a : ℕ) (w : List ℕ) → (a ≡ e.symbol → ⊥) → (Holds e.symbol w → ⊥) → (u x : List ℕ) → a ∷ w ≡ u ++ e.symbol ∷ x → ⊥
      by_place a w other lacks [] x is = let same : a ≡ e.symbol = cc in other same
      by_place a w other lacks (b ∷ u) x is = let rest : w ≡ u ++ e.symbol ∷ x = cc in lacks (u, x, rest)

  -- a tree built along a path that goes on splits
  pub built_splits : (t : Tree) → Built A B k p q (e ∷ path) t → Split A B k p q e path t
  built_splits (node v cs) b =
      let s = parting cs b.2 in
      record {
        context =
            record {
              value = v;
              before = s.before;
              after = s.after;
              on_path = subst (OnPath A B p e.symbol v) (ap word s.is ∙ word_followed s.before (child e.symbol s.part s.after)) b.0;
              leads = b.1;
              first = s.first;
              samples_before = s.samples_before;
              samples_after = s.samples_after;
            };
        part = s.part;
        built = s.built;
        whole = ap (node v) s.is;
      }

-- six lists filled, with the last two apart
regrouped : (v n b a t x : List ℕ) → v ++ (n ++ (b ++ (a ++ (t ++ x)))) ≡ (v ++ (n ++ (b ++ a))) ++ (t ++ x)
regrouped v n b a t x = simp append_assoc

module _ (A B : Automaton) {p q : ℕ} {e : Listed} (f : Context A B p q e) where
  -- the bytes of a context with its part: the part's between the context's own
  pub filled_bytes : (part : Tree) → tree_bytes (filled A B f part) ≡ bytes_before A B f ++ (tree_bytes part ++ bytes_after A B f)
  filled_bytes part =
      let others = child e.symbol part f.after in
      let count : many (followed_by f.before others) ≡ length (word f.before ++ e.symbol ∷ word f.after) = many_symbols (followed_by f.before others) ∙ ap length (word_followed f.before others) in
      ap (λ (n : ℕ). number_bytes f.value ++ (number_bytes n ++ children_bytes (followed_by f.before others))) count
      ∙ ap (λ (l : List ℕ). number_bytes f.value ++ (number_bytes (length (word f.before ++ e.symbol ∷ word f.after)) ++ l)) (bytes_followed f.before others)
      ∙ regrouped (number_bytes f.value) (number_bytes (length (word f.before ++ e.symbol ∷ word f.after))) (children_bytes f.before) (number_bytes e.symbol) (tree_bytes part) (children_bytes f.after)

-- the symbols on both sides of one, each with its samples
pub sides : (A : Automaton) (p a : ℕ) (u x : List ℕ) → AllByRecursion (LeadsLive A p) (u ++ a ∷ x) → AllByRecursion (LeadsLive A p) u × AllByRecursion (LeadsLive A p) x
sides A p a [] x all = (tt, all.1)
sides A p a (b ∷ u) x all = let rest = sides A p a u x all.1 in ((all.0, rest.0), rest.1)

-- where two states have a value and a sequence with a symbol that leads on to a listed pair, there is a context
pub record ContextFound (A B : Automaton) (p q : ℕ) (e : Listed) (v : ℕ) (u x : List ℕ) : Type 0 where
  pub context : Context A B p q e
  pub value : context.value ≡ v
  pub word_before : word context.before ≡ u
  pub word_after : word context.after ≡ x

module _ (A B : Automaton) (p q : ℕ) (e : Listed) (v : ℕ) (u x : List ℕ) (on_path : OnPath A B p e.symbol v (u ++ e.symbol ∷ x)) (leads : LeadsTo A B p q e) (first : Holds e.symbol u → ⊥) where
  -- from samples for the symbols before it and after it
  pub context_with : SampledChildren A p u → SampledChildren A p x → ContextFound A B p q e v u x
  context_with before after =
      record {
        context =
            record {
              value = v;
              before = before.0;
              after = after.0;
              on_path = subst (λ (l : List ℕ). OnPath A B p e.symbol v (l ++ e.symbol ∷ word after.0)) (sym before.1) (subst (λ (l : List ℕ). OnPath A B p e.symbol v (u ++ e.symbol ∷ l)) (sym after.1) on_path);
              leads = leads;
              first = λ h. first (subst (Holds e.symbol) before.1 h);
              samples_before = before.2;
              samples_after = after.2;
            };
        value = refl;
        word_before = before.1;
        word_after = after.1;
      }

  -- and where each live state has what its sample begins with
  pub context_of : (n : ℕ) → Inside A n → HaveRoots A n → p < n → ContextFound A B p q e v u x
  context_of n inside rooted low =
      let both = sides A p e.symbol u x on_path.1.passes.0.1 in
      context_with (sampled_children A n inside rooted p u low both.0) (sampled_children A n inside rooted p x low both.1)

module _ (A B : Automaton) (k : Kind) (p q v : ℕ) (w : List ℕ) where
  -- with the end's children there is the end's tree
  pub end_with : AtEnd A B k p q v w → (cs : SampledChildren A p w) → Built A B k p q [] (node v cs.0)
  end_with end cs = (subst (AtEnd A B k p q v) (sym cs.1) end, cs.2)

-- which the end has, where each live state has what its sample begins with
pub end_children : (A B : Automaton) (n : ℕ) → Inside A n → HaveRoots A n → (k : Kind) (p q v : ℕ) (w : List ℕ) → p < n → AtEnd A B k p q v w → SampledChildren A p w
end_children A B n inside rooted Value p q v w low end = sample_children A n inside rooted p w low end.1
end_children A B n inside rooted Content p q v w low end = live_children A n inside rooted p w low end.1.passes.0
