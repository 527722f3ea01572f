-- The sequences that a search for a refused one seeks over the symbols into live states are those that break a pair in content. Assumes nothing.
use Rattle.std.proofs.Common.{◌≡◌, ℕ, ◌<◌, Bool, true, not, List, is_some, Some, None, Decides, Option, sym, refl, ◌∙◌}
use Rattle.std.proofs.ByRecursion.{All-weaker}
use Rattle.std.proofs.lemmas.Bool.{false≢true, not-true, not_from_false}
use Rattle.bits.specs.Bits.{bit}
use Rattle.schema.specs.Automata.{Automaton, passes, allowed}
use Rattle.schema.specs.Live.{LiveMask}
use Rattle.schema.proofs.Holding.{live_of_over, over_of_live}
use Rattle.search.specs.Sequences.{Sought, Shortest}
use Rattle.search.specs.Watching.{Watching, wanted}
use Rattle.compare.specs.declared.phase.Kind.TheVariants.{Content}
use Rattle.compare.specs.Breaking.{Broken}

module _ (A B : Automaton) (n live p q : ℕ) (low : p < n) (inside : (p a s : ℕ) → p < n → A.next p a ≡ Some s → s < n) (mask : LiveMask A n live) (set : ℕ → Bool) (same : (a : ℕ) → set a ≡ passes (A.next p a) (bit live)) (W : Watching) (means : (w : List ℕ) → wanted W w ≡ not (allowed B q w)) where
  breaks : (w : List ℕ) → Sought A p set W w → Broken A B Content p q
  breaks w s = (
    w,
    live_of_over A n live p low inside mask w (All-weaker (λ a. set a ≡ true) (λ a. passes (A.next p a) (bit live) ≡ true) (λ a h. sym (same a) ∙ h) w s.over) s.runs,
    not-true (allowed B q w) (sym (means w) ∙ s.wants),
  )

  sought : (b : Broken A B Content p q) → Sought A p set W b.0
  sought b =
      let o = over_of_live A n live p low inside mask b.0 b.1 in
      record {
        over = All-weaker (λ a. passes (A.next p a) (bit live) ≡ true) (λ a. set a ≡ true) (λ a h. same a ∙ h) b.0 o.0;
        runs = o.1;
        wants = means b.0 ∙ not_from_false (allowed B q b.0) b.2;
      }

  -- what a search for one answers: the shortest, or that there is none
  abbrev Answered : Option (List ℕ) → Type 0
  Answered (Some w) = Shortest A p set W w
  Answered None = (w : List ℕ) → Sought A p set W w → ⊥

  -- it answers one exactly where the pair is broken in content
  pub found_breaks : (found : Option (List ℕ)) → Answered found → Decides (is_some found) (Broken A B Content p q)
  found_breaks (Some w) f = (λ e. breaks w f.passes, λ b. refl)
  found_breaks None f = (λ e. absurd (false≢true e), λ b. absurd (f b.0 (sought b)))
