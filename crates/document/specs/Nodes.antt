-- Nodes of a document, what they begin with: the value and the children's symbols of one on the
-- path, and of the one at its end. Assumes nothing.
use Rattle.std.specs.Prelude.{◌≡◌, ℕ, ◌<◌, Bool, true, List, ◌∷◌, ◌++◌, length, Some, None, Option, slice_index}
use Rattle.std.specs.Borrow.{Bor}
use Rattle.domain.specs.Sets.{Smallest}
use Rattle.schema.specs.Automata.{Automaton}
use Rattle.schema.specs.Live.{LiveSequence}
use Rattle.search.specs.Sequences.{First}
use Rattle.search.specs.Watching.{Holds}
use Rattle.samples.specs.declared.node.Node.{Node}
use Rattle.compare.specs.Schemas.{Inside, MarksLive}
use Rattle.document.specs.declared.counterexample.Counterexample.{Counterexample}
use Rattle.document.specs.declared.counterexample.TheConstants.{NODE_SYMBOLS}
use Rattle.samples.specs.Kept.{HasSamples}

-- the value and the symbols have the property; none, where nothing has it
abbrev pub NodeOrNone : (ℕ → List ℕ → Type 0) → Option (Node NODE_SYMBOLS) → Type 0
NodeOrNone P (Some n) = P n.value n.word
NodeOrNone P None = (v : ℕ) (w : List ℕ) → P v w → ⊥

-- the least value of a state, and the shortest live sequence that passes the test, of equally short
-- ones the first
abbrev pub LeastWith : Automaton → ℕ → (List ℕ → Bool) → ℕ → List ℕ → Type 0
LeastWith A p test v w = Smallest (A.has p) (Some v) × First (λ u. LiveSequence A p u × (test u ≡ true)) w

-- where a symbol stands first in a sequence; none, where it stands nowhere
abbrev pub FirstPlace : ℕ → List ℕ → Option ℕ → Type 0
FirstPlace a w (Some i) = (i < length w) × (slice_index w i ≡ a) × ((k : ℕ) → k < i → slice_index w k ≡ a → ⊥)
FirstPlace a w None = (k : ℕ) → k < length w → slice_index w k ≡ a → ⊥

-- the symbols before the first such symbol, and those after it; none, where there is no such symbol
abbrev pub Around : ℕ → List ℕ → Option (Bor (List ℕ) × Bor (List ℕ)) → Type 0
Around a w (Some s) = (w ≡ s.0.now ++ a ∷ s.1.now) × (Holds a s.0.now → ⊥)
Around a w None = Holds a w → ⊥

-- the mask is that of the first schema's live states, the samples are theirs, and the pairs are
-- listed inside the two state counts
pub record Ready {D : Type 0} (holds : D → ℕ → Bool) (c : Counterexample D) : Type 0 where
  pub live : MarksLive holds c.compared
  pub samples : HasSamples holds c.compared.first.now c.samples
  pub inside : Inside c.compared c.pairs.now
