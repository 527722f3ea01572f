-- What is written of a node on the path: its parts one behind the other are the bytes of its context. Assumes nothing.
use Rattle.std.proofs.Common.{◌≡◌, ℕ, ◌+◌, ◌<◌, ◌≤◌, Bool, List, ◌∷◌, ◌++◌, length, Some, None, Option, sym, ap, ◌∙◌, subst, append_assoc, arith}
use Rattle.std.specs.List.{slice_get}
use Rattle.codec.specs.declared.item.Level.{Level}
use Rattle.codec.specs.Encoding.{children_bytes}
use Rattle.codec.specs.Numbers.{number_bytes}
use Rattle.codec.specs.Piles.{Stack}
use Rattle.codec.specs.Trees.{Children, word, heights}
use Rattle.schema.specs.Automata.{Automaton}
use Rattle.schema.specs.declared.tables.TheConstants.{STATES}
use Rattle.schema.specs.Meaning.{meaning, states_of, IsState}
use Rattle.search.specs.Watching.{Holds}
use Rattle.compare.specs.declared.pairs.Listed.{Listed}
use Rattle.compare.specs.Listing.{entries_of}
use Rattle.compare.specs.Schemas.{StatePair}
use Rattle.compare.proofs.Views.{entries_fit}
use Rattle.samples.specs.declared.node.NodeKey.{NodeKey}
use Rattle.samples.specs.declared.output.Output.{Output}
use Rattle.document.specs.declared.counterexample.Counterexample.{Counterexample}
use Rattle.document.specs.declared.write.PathNode.{PathNode}
use Rattle.document.specs.Contexts.{Context, bytes_before}
use Rattle.document.specs.Nodes.{Ready}
use Rattle.document.specs.Steps.{PathStep}
use Rattle.document.specs.PathNodes.{path_node_of}
use Rattle.samples.specs.Samples.{Samples}
use Rattle.samples.specs.Writing.{Leaves}
use Rattle.samples.specs.Outputs.{Appended, Appends}
use Rattle.samples.proofs.Heights.{samples_height}
use Rattle.document.proofs.Places.{context_sides}
use Rattle.samples.proofs.Outputs.{added_more, adds_more, crowded_more, crowded_front}
use Rattle.samples.proofs.Tested.{few_states, next_inside}
use Rattle.samples.proofs.Sizing.{kept_rooted}

module _ {D : Type 0} (holds : D → ℕ → Bool) (c : Counterexample D) (ready : Ready holds c) where
  -- children that are samples need no more than STATES levels
  pub children_fit : (p : ℕ) (cs : Children) → IsState c.compared.first.now p → Samples (meaning holds c.compared.first.now) p cs → heights cs ≤ STATES
  children_fit p cs low s =
      let t = c.compared.first.now in
      omega (arith, few_states t, samples_height (meaning holds t) (states_of t) (next_inside holds t) (kept_rooted (meaning holds t) (states_of t) c.samples ready.samples) p cs low s)

  -- listed pairs are of states of the two schemas
  pub states_listed : (i : ℕ) (e : Listed) → slice_get (entries_of c.pairs.now) i ≡ Some e → StatePair c.compared e.first e.second
  states_listed i e there =
      let fit = entries_fit c.pairs.now i e there in
      (subst (λ (n : ℕ). e.first < n) ready.inside.firsts fit.first_inside, subst (λ (n : ℕ). e.second < n) ready.inside.seconds fit.second_inside)

-- bytes added, with the levels as they are
pub leaves_adds : (bytes : List ℕ) (entries : List (Level NodeKey)) (before after : Output) (r : Option (Unit {0})) (levels : Stack (Level NodeKey)) → Appends bytes before r after → levels.entries ≡ entries → Leaves bytes entries before r levels after
leaves_adds bytes entries before after (Some u) levels added same = (added, same)
leaves_adds bytes entries before after None levels short same = short

module _ {A B : Automaton} {es : List Listed} (p : PathStep A B es) where
  abbrev e : Listed
  e = p.pair

  abbrev f : Context A B p.from.first p.from.second e
  f = p.context

  -- the symbols on both sides of the first such symbol are those of the children before and after
  pub sides : (s : PathNode) → s ≡ path_node_of p → (u x : List ℕ) → s.node.word ≡ u ++ s.symbol ∷ x → (Holds s.symbol u → ⊥) → (word f.before ≡ u) × (word f.after ≡ x)
  sides s is u x parts lacks =
      let symbol : s.symbol ≡ e.symbol = ap (λ (r : PathNode). r.symbol) is in
      let whole : s.node.word ≡ word f.before ++ e.symbol ∷ word f.after = ap (λ (r : PathNode). r.node.word) is in
      context_sides A B f f.value (word f.before ++ e.symbol ∷ word f.after) f.on_path u x (sym whole ∙ parts ∙ ap (λ (a : ℕ). u ++ a ∷ x) symbol) (λ h. lacks (subst (λ (a : ℕ). Holds a u) (sym symbol) h))

  module _ (s : PathNode) (is : s ≡ path_node_of p) (count : ℕ) (counted : count ≡ length s.node.word) where
    abbrev pub value_count : List ℕ
    value_count = number_bytes s.node.value ++ number_bytes count

    -- the parts of the bytes before the tree of the child that goes on
    parts : (value_count ++ children_bytes f.before) ++ number_bytes s.symbol ≡ bytes_before A B f
    parts =
        let long : count ≡ length (word f.before ++ e.symbol ∷ word f.after) = counted ∙ ap (λ (r : PathNode). length r.node.word) is in
        let same : (value_count ++ children_bytes f.before) ++ number_bytes s.symbol ≡ ((number_bytes f.value ++ number_bytes (length (word f.before ++ e.symbol ∷ word f.after))) ++ children_bytes f.before) ++ number_bytes e.symbol = λ i. ((number_bytes (is i).node.value ++ number_bytes (long i)) ++ children_bytes f.before) ++ number_bytes (is i).symbol in
        same ∙ regroup (number_bytes f.value) (number_bytes (length (word f.before ++ e.symbol ∷ word f.after))) (children_bytes f.before) (number_bytes e.symbol)
      where
        regroup : (v n cs a : List ℕ) → ((v ++ n) ++ cs) ++ a ≡ v ++ (n ++ (cs ++ a))
        regroup v n cs a = simp append_assoc

    module _ (before first : Output) (begun : Appended value_count before first) where
      -- they are written one behind the other
      pub appends_before : (second after : Output) (r : Option (Unit {0})) → Appended (children_bytes f.before) first second → Appends (number_bytes s.symbol) second r after → Appends (bytes_before A B f) before r after
      appends_before second after r children symbol =
          subst (λ (l : List ℕ). Appends l before r after) parts
          (adds_more (value_count ++ children_bytes f.before) (number_bytes s.symbol) before second (added_more value_count (children_bytes f.before) before first begun second children) r after symbol)

      -- or the children have no room
      pub crowded_children : length first.bytes.now < first.place + length (children_bytes f.before) → length before.bytes.now < before.place + length (bytes_before A B f)
      crowded_children short =
          subst (λ (l : List ℕ). length before.bytes.now < before.place + length l) parts
          (crowded_front (value_count ++ children_bytes f.before) (number_bytes s.symbol) before (crowded_more value_count (children_bytes f.before) before first begun short))
