-- The trimmed tables, byte by byte. Assumes nothing.
use Rattle.std.specs.Prelude.{ℕ, zero, suc, ◌/◌, ◌%◌, Bool, cond, ◌&&◌, List, [], ◌∷◌, ◌++◌}
use Rattle.schema.specs.Automata.{passes}
use Rattle.bits.specs.Below.{sum_below, count_below}
use Rattle.schema.specs.declared.faults.TheConstants.{NONE}
use Rattle.schema.specs.Tables.{Tables, entry, transition_byte, domain_number, row_count, end_mark, row_byte}

-- what each number below n has, one after the other
abbrev pub concat_below : ℕ → (ℕ → List ℕ) → List ℕ
concat_below zero part = []
concat_below (suc n) part = concat_below n part ++ part n

-- a state's domain number, row count, and where its rows begin, low byte first
abbrev pub state_bytes : Tables → ℕ → ℕ → List ℕ
state_bytes T q first = domain_number T q ∷ row_count T q ∷ first % 256 ∷ first / 256 ∷ []

module _ (T : Tables) (permitted kept : ℕ → Bool) where
  -- the new number of a kept state: how many kept states come before it
  abbrev pub new_number : ℕ → ℕ
  new_number q = count_below q kept

  -- the transition stays: its symbol is permitted, and it leads to a kept state
  abbrev pub transition_stays : ℕ → ℕ → Bool
  transition_stays q a = permitted a && passes (entry (transition_byte T q a)) kept

  -- the transition, renumbered, or none
  abbrev pub new_transition : ℕ → ℕ → ℕ
  new_transition q a = cond (transition_stays q a) (new_number (transition_byte T q a)) NONE

  -- the row entry, or none where its symbol's transition does not stay
  abbrev pub new_entry : ℕ → ℕ → ℕ → ℕ
  new_entry q r a = cond (transition_stays q a) (row_byte T q r a) NONE

  -- how many rows the kept states before q have
  abbrev pub rows_before : ℕ → ℕ
  rows_before q = sum_below q (λ p. cond (kept p) (row_count T p) 0)

  -- a state's transitions
  abbrev pub transition_line : ℕ → List ℕ
  transition_line q = concat_below T.symbols (λ a. new_transition q a ∷ [])

  -- a state's four bytes: its rows follow those of the kept states before it
  abbrev pub state_line : ℕ → List ℕ
  state_line q = state_bytes T q (rows_before q)

  -- a row: its end mark and its entries
  abbrev pub row_line : ℕ → ℕ → List ℕ
  row_line q r = end_mark T q r ∷ concat_below T.symbols (λ a. new_entry q r a ∷ [])

  -- a state's rows
  abbrev pub row_lines : ℕ → List ℕ
  row_lines q = concat_below (row_count T q) (row_line q)

  -- the lines of the kept states below n
  abbrev pub kept_lines : ℕ → (ℕ → List ℕ) → List ℕ
  kept_lines n line = concat_below n (λ q. cond (kept q) (line q) [])

  -- the tables of the kept states, in ascending order, each with its own copy of its rows
  abbrev pub trimmed : Tables
  trimmed = record {
    symbols = T.symbols;
    states = new_number T.states;
    rows = rows_before T.states;
    domains = T.domains;
    transitions = kept_lines T.states transition_line;
    state_table = kept_lines T.states state_line;
    row_table = kept_lines T.states row_lines;
  }
