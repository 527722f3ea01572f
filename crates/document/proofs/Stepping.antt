-- A step up the path: the pair that it is from and the one that it comes to, and the bytes of the node there. Assumes nothing.
use Rattle.std.proofs.Common.{◌≡◌, ℕ, ◌+◌, Bool, eqb, List, ◌∷◌, ◌++◌, length, min, Some, None, Decides, Option, sym, ap, ◌∙◌, subst, arith}
use Rattle.std.specs.List.{slice_get}
use Rattle.std.specs.Option.{option_eq}
use Rattle.std.proofs.lemmas.Bool.{both_ways, eqb-true, eq-eqb}
use Rattle.std.proofs.lemmas.Option.{none-some, same_Some}
use Rattle.codec.specs.Encoding.{tree_bytes, children_bytes}
use Rattle.codec.specs.Numbers.{number_bytes}
use Rattle.codec.specs.Trees.{node, Children, word}
use Rattle.schema.specs.Automata.{Automaton}
use Rattle.compare.specs.declared.pairs.Listed.{Listed}
use Rattle.compare.specs.Trailing.{led_to}
use Rattle.search.proofs.Paths.{found_some}
use Rattle.compare.specs.Listing.{pair_links}
use Rattle.document.specs.Contexts.{Context, context_bytes, bytes_before, bytes_after}
use Rattle.document.specs.Steps.{LedFrom, StepsBack}
use Rattle.samples.specs.declared.size.TheConstants.{TOO_LONG}
use Rattle.samples.specs.Kept.{needed}
use Rattle.samples.proofs.Lengths.{tree_length}
use Rattle.document.proofs.Lengths.{context_length}

-- what a comparison with a number says of what is there
pub same_number : (o : Option ℕ) (x : ℕ) (b : Bool) → b ≡ option_eq eqb o (Some x) → Decides b (o ≡ Some x)
same_number None x b is = (λ yes. absurd (both_ways b is yes), λ there. absurd (none-some _ there))
same_number (Some y) x b is = (λ yes. ap Some (eqb-true y x (sym is ∙ yes)), λ there. is ∙ eq-eqb y x (same_Some _ _ there))

-- the bytes of a node with its children, counted up to TOO_LONG
pub end_sum : (v : ℕ) (cs : Children) (a b c r : ℕ) → a ≡ length (number_bytes v) → b ≡ length (number_bytes (length (word cs))) → c ≡ min (length (children_bytes cs)) TOO_LONG → r ≡ min (a + b + c) TOO_LONG → r ≡ needed (node v cs)
end_sum v cs = by (length (tree_bytes (node v cs))) (length (number_bytes v)) (length (number_bytes (length (word cs)))) (length (children_bytes cs)) (tree_length v cs)
  where
    by : (n x y z : ℕ) → n ≡ x + (y + z) → (a b c r : ℕ) → a ≡ x → b ≡ y → c ≡ min z TOO_LONG → r ≡ min (a + b + c) TOO_LONG → r ≡ min n TOO_LONG
    by n x y z is a b c r p q s t = omega (arith, is, p, q, s, t)

module _ (A B : Automaton) {p q : ℕ} {e : Listed} (f : Context A B p q e) where
  -- the bytes of a context but for its part, counted up to TOO_LONG
  pub context_sum : (a b c d x r : ℕ) → a ≡ length (number_bytes f.value) → b ≡ length (number_bytes (length (word f.before ++ e.symbol ∷ word f.after))) → c ≡ length (number_bytes e.symbol) → d ≡ min (length (children_bytes f.before)) TOO_LONG → x ≡ min (length (children_bytes f.after)) TOO_LONG → r ≡ min (a + b + c + min (d + x) TOO_LONG) TOO_LONG → r ≡ context_bytes A B f
  context_sum = by (length (bytes_before A B f) + length (bytes_after A B f)) (length (number_bytes f.value)) (length (number_bytes (length (word f.before ++ e.symbol ∷ word f.after)))) (length (children_bytes f.before)) (length (number_bytes e.symbol)) (length (children_bytes f.after)) (context_length A B f)
    where
      by : (n v m y s z : ℕ) → n ≡ v + (m + (y + (s + z))) → (a b c d x r : ℕ) → a ≡ v → b ≡ m → c ≡ s → d ≡ min y TOO_LONG → x ≡ min z TOO_LONG → r ≡ min (a + b + c + min (d + x) TOO_LONG) TOO_LONG → r ≡ min n TOO_LONG
      by n v m y s z is a b c d x r p q t u w o = omega (arith, is, p, q, t, u, w, o)

module _ (es : List Listed) (i at : ℕ) (pair from : Listed) (led : Some pair ≡ led_to es i) (up : at ≡ pair.parent) (there : Some from ≡ slice_get es at) where
  -- the pair was led to
  pub led_from : LedFrom es i pair from
  led_from =
      let found = found_some pair_links es i pair (sym led) in
      record { there = found.0; before = found.1; parent = ap (slice_get es) (sym up) ∙ sym there }

  -- and by no other
  pub only_led : (e x : Listed) → LedFrom es i e x → (pair ≡ e) × (from ≡ x)
  only_led e x l =
      let same : pair ≡ e = same_Some _ _ (sym led_from.there ∙ l.there) in
      (same, same_Some _ _ (sym led_from.parent ∙ ap (λ (y : Listed). slice_get es y.parent) same ∙ l.parent))

  -- where no node goes on from there to the pair, there is no step
  pub no_step : (A B : Automaton) → (Context A B from.first from.second pair → ⊥) → StepsBack A B es i None
  no_step A B none e x l f =
      let o = only_led e x l in
      none (subst (λ (y : Listed). Context A B y.first y.second pair) (sym o.1) (subst (λ (y : Listed). Context A B x.first x.second y) (sym o.0) f))
