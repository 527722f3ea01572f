-- The tables that a schema lends, and the automaton that they lay out. Assumes nothing.
use Rattle.std.specs.Prelude.{ℕ, ◌+◌, ◌*◌, ◌^◌, Bool, false, cond, ◌&&◌, List, map, length, get_or, Some, None, Option, ◌==◌, nat_lt, slice_index, slice_index_or}
use Rattle.schema.specs.declared.faults.TheConstants.{NONE}
use Rattle.schema.specs.declared.tables.Schema.{Schema}
use Rattle.schema.specs.declared.tables.TheConstants.{STATE_BYTES}
use Rattle.schema.specs.Automata.{Automaton}

-- the counts and the byte tables
pub record Tables : Type 0 where
  pub symbols : ℕ
  pub states : ℕ
  pub rows : ℕ
  pub domains : ℕ
  pub transitions : List ℕ
  pub state_table : List ℕ
  pub row_table : List ℕ

-- what a schema lends, but for its domains, which are only counted
abbrev pub tables : {D : Type 0} → Schema D → Tables
tables s = record {
  symbols = s.symbols;
  states = s.states;
  rows = s.rows;
  domains = length s.domains.now;
  transitions = s.transitions.now;
  state_table = s.state_table.now;
  row_table = s.row_table.now;
}

-- its domains as sets of values, where `holds` says which values a domain has
abbrev pub sets : {D : Type 0} → (D → ℕ → Bool) → Schema D → List (ℕ → Bool)
sets holds s = map holds s.domains.now

-- what an entry says: a number, or none
abbrev pub entry : ℕ → Option ℕ
entry b = cond (b == NONE) None (Some b)

module _ (T : Tables) where
  -- one byte for each symbol of each state in turn
  abbrev pub transition_byte : ℕ → ℕ → ℕ
  transition_byte q a = slice_index_or T.transitions (q * T.symbols + a) NONE

  -- four bytes a state: domain number, row count, and the first row, low byte first
  abbrev pub state_byte : ℕ → ℕ → ℕ
  state_byte q i = slice_index T.state_table (STATE_BYTES * q + i)

  -- which domain the state has
  abbrev pub domain_number : ℕ → ℕ
  domain_number q = state_byte q 0

  -- how many rows the state has
  abbrev pub row_count : ℕ → ℕ
  row_count q = state_byte q 1

  -- where the state's rows begin, low byte first
  abbrev pub first_row : ℕ → ℕ
  first_row q = state_byte q 2 + 256 * state_byte q 3

  -- where row r of state q begins: an end mark, then a byte for each symbol
  abbrev pub row_start : ℕ → ℕ → ℕ
  row_start q r = (first_row q + r) * (T.symbols + 1)

  -- 1 where a sequence may end at row r, 0 where not
  abbrev pub end_mark : ℕ → ℕ → ℕ
  end_mark q r = slice_index T.row_table (row_start q r)

  -- the row after row r under symbol a, counted from the state's first, or none
  abbrev pub row_byte : ℕ → ℕ → ℕ → ℕ
  row_byte q r a = slice_index_or T.row_table (row_start q r + 1 + a) NONE

  -- the automaton that the tables lay out over sets of values; a symbol past the symbol count leads
  -- nowhere, and values have 32 bits
  abbrev pub automaton : List (ℕ → Bool) → Automaton
  automaton domains = record {
    next = λ q a. cond (nat_lt a T.symbols) (entry (transition_byte q a)) None;
    step = λ q r a. cond (nat_lt a T.symbols) (entry (row_byte q r a)) None;
    ends = λ q r. (end_mark q r == 1);
    has = λ q v. nat_lt v (2 ^ 32) && get_or domains (domain_number q) (λ _. false) v;
  }

-- the automaton of a schema, where `holds` says which values a domain has
abbrev pub automaton_of : {D : Type 0} → (D → ℕ → Bool) → Schema D → Automaton
automaton_of holds s = automaton (tables s) (sets holds s)
