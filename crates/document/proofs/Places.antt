-- Where a symbol first stands in a sequence, and the sides of it that a context's children have. Assumes nothing.
use Rattle.std.proofs.Common.{◌≡◌, ℕ, List, [], ◌∷◌, ◌++◌, refl, ap, ◌∙◌}
use Rattle.codec.specs.Trees.{word}
use Rattle.schema.specs.Automata.{Automaton}
use Rattle.search.specs.Watching.{Holds}
use Rattle.compare.specs.declared.pairs.Listed.{Listed}
use Rattle.document.specs.Documents.{OnPath}
use Rattle.document.specs.Contexts.{Context}
use Rattle.document.proofs.Splitting.{holds_here, holds_later}
use Rattle.document.proofs.Unique.{one_on_path}

-- there is one path to part a sequence at the first such symbol
pub one_parting : (a : ℕ) (u x v y : List ℕ) → (Holds a u → ⊥) → (Holds a v → ⊥) → u ++ a ∷ x ≡ v ++ a ∷ y → (u ≡ v) × (x ≡ y)
one_parting a [] x [] y lacks lacks' is = (refl, cc)
one_parting a [] x (c ∷ v) y lacks lacks' is = let here : c ≡ a = cc in absurd (lacks' (holds_here a c v here))
one_parting a (b ∷ u) x [] y lacks lacks' is = let here : b ≡ a = cc in absurd (lacks (holds_here a b u here))
one_parting a (b ∷ u) x (c ∷ v) y lacks lacks' is =
    let here : b ≡ c = cc in
    let later : u ++ a ∷ x ≡ v ++ a ∷ y = cc in
    let rest = one_parting a u x v y (λ h. lacks (holds_later a b u h)) (λ h. lacks' (holds_later a c v h)) later in
    (ap (λ (d : ℕ). d ∷ u) here ∙ ap (λ (l : List ℕ). c ∷ l) rest.0, rest.1)

module _ (A B : Automaton) {p q : ℕ} {e : Listed} (f : Context A B p q e) (v : ℕ) (w : List ℕ) (found : OnPath A B p e.symbol v w) where
  -- the value and the sequence found for a node are its context's
  pub context_says : (f.value ≡ v) × (word f.before ++ e.symbol ∷ word f.after ≡ w)
  context_says = one_on_path A B p e.symbol f.value v (word f.before ++ e.symbol ∷ word f.after) w f.on_path found

  -- and the children before and after are those for the symbols before and after the first such symbol
  pub context_sides : (u x : List ℕ) → w ≡ u ++ e.symbol ∷ x → (Holds e.symbol u → ⊥) → (word f.before ≡ u) × (word f.after ≡ x)
  context_sides u x is lacks = one_parting e.symbol (word f.before) (word f.after) u x f.first lacks (context_says.1 ∙ is)
