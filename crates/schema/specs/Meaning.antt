-- What a tested schema means: its automaton, and how many states and symbols it has. Assumes
-- nothing.
use Rattle.std.specs.Prelude.{ℕ, ◌<◌, Bool}
use Rattle.schema.specs.declared.tested.Tested.{Tested}
use Rattle.schema.specs.Automata.{Automaton}
use Rattle.schema.specs.Permitted.{automaton_over}
use Rattle.schema.specs.Tables.{Tables, tables, automaton_of}

-- its automaton, where `holds` says which values a domain has
abbrev pub meaning : {D : Type 0} → (D → ℕ → Bool) → Tested D → Automaton
meaning holds t = automaton_of holds t.measured.schema

-- the same over the symbols of a mask
abbrev pub meaning_over : {D : Type 0} → ℕ → (D → ℕ → Bool) → Tested D → Automaton
meaning_over permitted holds t = automaton_over permitted holds t.measured.schema

-- its tables
abbrev pub tables_of : {D : Type 0} → Tested D → Tables
tables_of t = tables t.measured.schema

-- how many states and symbols it has
abbrev pub states_of : {D : Type 0} → Tested D → ℕ
states_of t = t.measured.schema.states

abbrev pub symbols_of : {D : Type 0} → Tested D → ℕ
symbols_of t = t.measured.schema.symbols

-- the number is that of a state
abbrev pub IsState : {D : Type 0} → Tested D → ℕ → Type 0
IsState t q = q < states_of t
