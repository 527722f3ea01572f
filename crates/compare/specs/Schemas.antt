-- Two schemas that are compared: their states, how a pair is broken in them, and what an area notes
-- of them. Assumes nothing.
use Rattle.std.specs.Prelude.{◌≡◌, ℕ, Bool, Some, None, Option}
use Rattle.bits.specs.Bits.{bit}
use Rattle.domain.specs.Sets.{alone}
use Rattle.schema.specs.Live.{LiveMask}
use Rattle.schema.specs.Meaning.{meaning, tables_of, states_of, symbols_of, IsState}
use Rattle.compare.specs.declared.compared.Compared.{Compared}
use Rattle.compare.specs.declared.pairs.Pairs.{Pairs}
use Rattle.compare.specs.declared.phase.Kind.{Kind}
use Rattle.compare.specs.Breaking.{Broken, Unbroken}
use Rattle.compare.specs.View.{View, begun}

-- a state of the first schema, and one of the second
abbrev pub StatePair : {D : Type 0} → Compared D → ℕ → ℕ → Type 0
StatePair c p q = IsState c.first.now p × IsState c.second.now q

module _ {D : Type 0} (holds : D → ℕ → Bool) (c : Compared D) where
  -- the mask is that of the live states of the first schema
  abbrev pub MarksLive : Type 0
  MarksLive = LiveMask (meaning holds c.first.now) (states_of c.first.now) c.live

  -- the values that the first state's domain has and the second's has not
  abbrev pub gap_values : ℕ → ℕ → ℕ → Bool
  gap_values p q = alone ((meaning holds c.first.now).has p) ((meaning holds c.second.now).has q)

  -- the pair is broken in that way
  abbrev pub BrokenIn : Kind → ℕ → ℕ → Type 0
  BrokenIn k p q = Broken (meaning holds c.first.now) (meaning holds c.second.now) k p q

  -- how the pair is broken, or that it is not
  abbrev pub BrokenOrNot : ℕ → ℕ → Option Kind → Type 0
  BrokenOrNot p q (Some k) = BrokenIn k p q
  BrokenOrNot p q None = Unbroken (meaning holds c.first.now) (meaning holds c.second.now) p q

-- the counts that the area noted are those of the two schemas
pub record Noted {D : Type 0} (c : Compared D) (w : View) : Type 0 where
  pub symbols : w.symbols ≡ symbols_of c.first.now
  pub firsts : w.firsts ≡ states_of c.first.now
  pub seconds : w.seconds ≡ states_of c.second.now

-- the list of pairs is of the state counts of the two schemas
pub record Inside {D : Type 0} (c : Compared D) (pairs : Pairs) : Type 0 where
  pub firsts : pairs.firsts ≡ states_of c.first.now
  pub seconds : pairs.seconds ≡ states_of c.second.now

-- a comparison of the two schemas begins
abbrev pub begun_by : {D : Type 0} → Compared D → View → View
begun_by c w = begun w (tables_of c.first.now) (tables_of c.second.now) (bit c.live 0)
