-- The steps of a path: their levels, and the bytes before and after what the path goes on to. Assumes nothing.
use Rattle.std.proofs.Common.{◌≡◌, ℕ, zero, suc, ◌+◌, List, [], ◌∷◌, ◌++◌, drop, Some, sym, refl, ap, ◌∙◌, append_assoc}
use Rattle.std.specs.List.{slice_get}
use Rattle.std.proofs.lemmas.List.{append-nil, map-append}
use Rattle.std.proofs.lemmas.Option.{none-some, same_Some}
use Rattle.codec.proofs.Entries.{drop_some}
use Rattle.codec.specs.declared.item.Level.{Level}
use Rattle.schema.specs.Automata.{Automaton}
use Rattle.samples.specs.declared.node.NodeKey.{NodeKey}
use Rattle.compare.specs.declared.pairs.Listed.{Listed}
use Rattle.document.specs.Contexts.{bytes_before, bytes_after}
use Rattle.document.specs.Steps.{PathStep, path_level, levels_of, all_before, all_after}

module _ {A B : Automaton} {es : List Listed} where
  -- the step at a place of the path
  pub record At (steps : List (PathStep A B es)) (i : ℕ) (l : Level NodeKey) : Type 0 where
    pub step : PathStep A B es
    pub level : l ≡ path_level step
    pub rest : drop i steps ≡ step ∷ drop (i + 1) steps

  pub step_at : (steps : List (PathStep A B es)) (i : ℕ) (l : Level NodeKey) → slice_get (levels_of steps) i ≡ Some l → At steps i l
  step_at steps i l at =
      let s = by steps i l at in
      record { step = s.0; level = s.1; rest = drop_some steps i s.0 s.2 }
    where
      by : (steps : List (PathStep A B es)) (i : ℕ) (l : Level NodeKey) → slice_get (levels_of steps) i ≡ Some l → (s : PathStep A B es) × (l ≡ path_level s) × (slice_get steps i ≡ Some s)
      by [] zero l at = absurd (none-some _ at)
      by [] (suc i) l at = absurd (none-some _ at)
      by (s ∷ steps) zero l at = (s, sym (same_Some _ _ at), refl)
      by (s ∷ steps) (suc i) l at = by steps i l at

  -- the bytes before begin with those of the first steps of the path
  pub heads_begin : (steps : List (PathStep A B es)) (i : ℕ) → (more : List ℕ) × (all_before steps ≡ all_before (drop i steps) ++ more)
  heads_begin steps zero = ([], sym (append-nil (all_before steps)))
  heads_begin [] (suc i) = ([], refl)
  heads_begin (s ∷ steps) (suc i) =
      let rest = heads_begin steps i in
      (rest.0 ++ bytes_before A B s.context, ap (λ (l : List ℕ). l ++ bytes_before A B s.context) rest.1 ∙ append_assoc (all_before (drop i steps)) rest.0 (bytes_before A B s.context))

  -- with a step more at the front of the path
  pub marks_more : (steps : List (PathStep A B es)) (s : PathStep A B es) → levels_of (steps ++ s ∷ []) ≡ levels_of steps ++ path_level s ∷ []
  marks_more steps s = map-append (path_level {A = A} {B = B} {es = es}) steps (s ∷ [])

  pub heads_more : (steps : List (PathStep A B es)) (s : PathStep A B es) → all_before (steps ++ s ∷ []) ≡ bytes_before A B s.context ++ all_before steps
  heads_more [] s = sym (append-nil (bytes_before A B s.context))
  heads_more (p ∷ steps) s = ap (λ (l : List ℕ). l ++ bytes_before A B p.context) (heads_more steps s) ∙ append_assoc (bytes_before A B s.context) (all_before steps) (bytes_before A B p.context)

  pub tails_more : (steps : List (PathStep A B es)) (s : PathStep A B es) → all_after (steps ++ s ∷ []) ≡ all_after steps ++ bytes_after A B s.context
  tails_more [] s = append-nil (bytes_after A B s.context)
  tails_more (p ∷ steps) s = ap (λ (l : List ℕ). bytes_after A B p.context ++ l) (tails_more steps s) ∙ sym (append_assoc (bytes_after A B p.context) (all_after steps) (bytes_after A B s.context))
