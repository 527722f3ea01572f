-- Examining the pairs of two schemas that are compared, by what their automata say. Assumes
-- nothing.
use Rattle.std.specs.Prelude.{ℕ, Bool, List, Option}
use Rattle.schema.specs.Meaning.{meaning}
use Rattle.compare.specs.declared.compared.Compared.{Compared}
use Rattle.compare.specs.declared.pairs.Listed.{Listed}
use Rattle.compare.specs.Stepping.{next_pair, with_nexts, GoesOn, Turn, Stepped}
use Rattle.compare.specs.View.{View}

module _ {D : Type 0} (holds : D → ℕ → Bool) (c : Compared D) where
  -- the pair of next states of a pair at place i under a symbol, where both are there and the
  -- symbol is live
  abbrev pub next_of : Listed → ℕ → Bool → ℕ → Option Listed
  next_of e i live a =
      next_pair i a live
      ((meaning holds c.first.now).next e.first a)
      ((meaning holds c.second.now).next e.second a)

  -- the list with the pairs of next states of a pair at place i under the live symbols below n
  abbrev pub nexts_of : Listed → ℕ → (ℕ → Bool) → ℕ → List Listed → List Listed
  nexts_of e i live n es =
      with_nexts (meaning holds c.first.now) (meaning holds c.second.now) live e.first e.second i n es

  -- the pairs of next states of a pair are listed
  abbrev pub GoesOnIn : View → Listed → ℕ → View → Type 0
  GoesOnIn w e i w' = GoesOn (meaning holds c.first.now) (meaning holds c.second.now) w e i w'

  -- one turn
  abbrev pub TurnIn : View → View → Type 0
  TurnIn w w' = Turn (meaning holds c.first.now) (meaning holds c.second.now) w w'

  -- at most n turns
  abbrev pub SteppedIn : ℕ → View → View → Type 0
  SteppedIn n w w' = Stepped (meaning holds c.first.now) (meaning holds c.second.now) n w w'
