-- What a search for a node's sequence finds is the first of the live sequences that are asked for; and no state that is not live has a node
-- with its sample's sequence. Assumes nothing.
use Rattle.std.proofs.Common.{◌≡◌, ℕ, ◌<◌, ◌↔◌, Bool, true, false, not, List, Some, None, Decides, Option, sym, ◌∙◌}
use Rattle.std.proofs.ByRecursion.{All-weaker}
use Rattle.std.proofs.lemmas.Bool.{and_parts, both_ways, not-true, not_from_false}
use Rattle.bits.specs.Bits.{bit}
use Rattle.domain.specs.Sets.{Smallest, alone}
use Rattle.schema.specs.Automata.{Automaton, passes}
use Rattle.schema.specs.Live.{LiveMask, LiveSequence}
use Rattle.schema.proofs.Holding.{live_of_over, over_of_live}
use Rattle.search.specs.Sequences.{First, Sought, Shortest}
use Rattle.search.specs.Watching.{Watching, wanted}
use Rattle.search.proofs.Orders.{first_alike}
use Rattle.samples.specs.declared.node.Node.{Node}
use Rattle.document.specs.declared.counterexample.TheConstants.{NODE_SYMBOLS}
use Rattle.document.specs.Nodes.{NodeOrNone, LeastWith}
use Rattle.samples.specs.Samples.{SampleSequence}
use Rattle.samples.proofs.Growing.{sample_rank}

-- the first of the live sequences that pass a test is the first of those with a property, where the test says which have it
module _ (A : Automaton) (p : ℕ) (test : List ℕ → Bool) (P : List ℕ → Type 0) (says : (w : List ℕ) → Decides (test w) (P w)) where
  alike : (w : List ℕ) → (LiveSequence A p w × (test w ≡ true)) ↔ (LiveSequence A p w × P w)
  alike w = (λ h. (h.0, (says w).0 h.1), λ h. (h.0, (says w).1 h.1))

  first_with : (w : List ℕ) → First (λ u. LiveSequence A p u × (test u ≡ true)) w → First (λ u. LiveSequence A p u × P u) w
  first_with = first_alike _ _ alike

  first_tested : (w : List ℕ) → First (λ u. LiveSequence A p u × P u) w → First (λ u. LiveSequence A p u × (test u ≡ true)) w
  first_tested = first_alike _ _ (λ w. ((alike w).1, (alike w).0))

  -- a node with one is a node with the other
  pub answered : (o : Option (Node NODE_SYMBOLS)) → NodeOrNone (LeastWith A p test) o → NodeOrNone (λ v w. Smallest (A.has p) (Some v) × First (λ u. LiveSequence A p u × P u) w) o
  answered (Some n) h = (h.0, first_with n.word h.1)
  answered None h = λ v w k. h v w (k.0, first_tested w k.1)

-- over the symbols into live states the sequences that are sought are the live ones that the watcher wants
module _ (A : Automaton) (n live p : ℕ) (low : p < n) (inside : (p a s : ℕ) → p < n → A.next p a ≡ Some s → s < n) (mask : LiveMask A n live) (set : ℕ → Bool) (same : (a : ℕ) → set a ≡ passes (A.next p a) (bit live)) (W : Watching) where
  sought_live : (w : List ℕ) → Sought A p set W w → LiveSequence A p w × (wanted W w ≡ true)
  sought_live w s = (
    live_of_over A n live p low inside mask w (All-weaker (λ a. set a ≡ true) (λ a. passes (A.next p a) (bit live) ≡ true) (λ a h. sym (same a) ∙ h) w s.over) s.runs,
    s.wants,
  )

  live_sought : (w : List ℕ) → LiveSequence A p w × (wanted W w ≡ true) → Sought A p set W w
  live_sought w h =
      let o = over_of_live A n live p low inside mask w h.0 in
      record {
        over = All-weaker (λ a. passes (A.next p a) (bit live) ≡ true) (λ a. set a ≡ true) (λ a h. same a ∙ h) w o.0;
        runs = o.1;
        wants = h.1;
      }

  pub shortest_live : (w : List ℕ) → Shortest A p set W w → First (λ u. LiveSequence A p u × (wanted W u ≡ true)) w
  shortest_live = first_alike _ _ (λ w. (sought_live w, live_sought w))

  pub none_live : ((w : List ℕ) → Sought A p set W w → ⊥) → (v : ℕ) (w : List ℕ) → LeastWith A p (wanted W) v w → ⊥
  none_live none v w h = none w (live_sought w h.1.passes)

-- what a test says that says no of another
pub says_not : (b c : Bool) → b ≡ not c → Decides b (c ≡ false)
says_not b c is = (λ yes. not-true c (sym is ∙ yes), λ no. is ∙ not_from_false c no)

-- a state that is not live has no node with its sample's sequence
pub dead_without : (A : Automaton) (n live p : ℕ) (other : ℕ → Bool) → LiveMask A n live → p < n → bit live p ≡ false → (v : ℕ) (w : List ℕ) → Smallest (alone (A.has p) other) (Some v) × SampleSequence A p w → ⊥
dead_without A n live p other mask low dead v w h =
    let rank = sample_rank A p v w (and_parts (A.has p v) _ h.0.passes).0 h.1 in
    both_ways (bit live p) dead ((mask p).1 (low, (rank.1.0.0, rank.1.0.1)))
