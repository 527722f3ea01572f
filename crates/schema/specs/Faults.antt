-- The test of the tables: the four faults, in their order, with their places. Assumes nothing.
use Rattle.std.specs.Prelude.{◌≡◌, ℕ, ◌+◌, ◌*◌, Bool, false, cond, not, ◌&&◌, ◌||◌, [], ◌∷◌, length, is_some, Some, None, Option, ◌==◌, nat_le, nat_lt}
use Rattle.std.specs.Option.{option_map}
use Rattle.refusal.specs.Order.{first_of}
use Rattle.refusal.specs.declared.fault.Fault.{Fault}
use Rattle.refusal.specs.declared.fault.Fault.TheVariants.{Size, State, Row, Domain}
use Rattle.refusal.specs.declared.fault.Refusal.{Refusal}
use Rattle.schema.specs.declared.faults.TheConstants.{NONE, STATE_ROWS}
use Rattle.schema.specs.declared.tables.TheConstants.{DOMAINS, ROWS, STATE_BYTES, STATES, SYMBOLS}
use Rattle.schema.specs.Below.{some_below, lowest}
use Rattle.schema.specs.Tables.{Tables, transition_byte, domain_number, row_count, first_row, end_mark, row_byte}

-- n is not from low to high
abbrev pub outside : ℕ → ℕ → ℕ → Bool
outside low high n = not (nat_le low n && nat_le n high)

-- an entry that neither says none nor is below the limit
abbrev pub stray : ℕ → ℕ → Bool
stray limit b = not (b == NONE || nat_lt b limit)

module _ (T : Tables) where
  -- a count is 0 or above its limit
  abbrev pub counts_wrong : Bool
  counts_wrong =
      outside 1 SYMBOLS T.symbols
      || (outside 1 STATES T.states || (outside 1 ROWS T.rows || outside 1 DOMAINS T.domains))

  -- a table's length is not what the counts make it
  abbrev pub lengths_wrong : Bool
  lengths_wrong =
      not (length T.transitions == T.states * T.symbols)
      || (not (length T.state_table == STATE_BYTES * T.states)
      || not (length T.row_table == T.rows * (T.symbols + 1)))

  -- the counts or the lengths are wrong
  abbrev pub size_wrong : Bool
  size_wrong = counts_wrong || lengths_wrong

  -- a transition of the state is neither none nor a state
  abbrev pub state_wrong : ℕ → Bool
  state_wrong q = some_below T.symbols (λ a. stray T.states (transition_byte T q a))

  -- an entry of a row of the state is neither none nor one of the state's rows
  abbrev pub entries_wrong : ℕ → ℕ → Bool
  entries_wrong q r = some_below T.symbols (λ a. stray (row_count T q) (row_byte T q r a))

  -- the end mark of a row of the state is neither 0 nor 1, or an entry is wrong
  abbrev pub line_wrong : ℕ → ℕ → Bool
  line_wrong q r = nat_lt 1 (end_mark T q r) || entries_wrong q r

  -- one of the state's rows is wrong
  abbrev pub lines_wrong : ℕ → Bool
  lines_wrong q = some_below (row_count T q) (line_wrong q)

  -- the row count is 0 or above its limit, the rows leave the table, or one of them is wrong
  abbrev pub row_wrong : ℕ → Bool
  row_wrong q =
      outside 1 STATE_ROWS (row_count T q)
      || (nat_lt T.rows (first_row T q + row_count T q) || lines_wrong q)

  -- the domain number is too large
  abbrev pub domain_wrong : ℕ → Bool
  domain_wrong q = nat_le T.domains (domain_number T q)

  -- the state has the fault; only `state`, `row` and `domain` are faults of a state
  abbrev pub wrong_at : Fault → ℕ → Bool
  wrong_at State q = state_wrong q
  wrong_at Row q = row_wrong q
  wrong_at Domain q = domain_wrong q
  wrong_at _ q = false

  -- a fault of states has the lowest state that has it as its place
  abbrev pub at_lowest : Fault → Option Refusal
  at_lowest f = option_map (λ q. record { fault = f; place = q }) (lowest T.states (wrong_at f))

  -- `size` has place 0
  abbrev pub size_fault : Option Refusal
  size_fault = cond size_wrong (Some (record { fault = Size; place = 0 })) None

  -- the fault of the tables, the lowest number first over the whole table
  abbrev pub table_fault : Option Refusal
  table_fault = first_of (size_fault ∷ at_lowest State ∷ at_lowest Row ∷ at_lowest Domain ∷ [])

  -- the tables have a fault
  abbrev pub faulty : Bool
  faulty = is_some table_fault

-- a fault of the first schema's states, or else of the second's
abbrev pub either_at_lowest : Tables → Tables → Fault → Option Refusal
either_at_lowest T U f = first_of (at_lowest T f ∷ at_lowest U f ∷ [])

-- the fault of two schemas, the lowest number first over both
abbrev pub either_fault : Tables → Tables → Option Refusal
either_fault T U =
    first_of
    (size_fault T ∷ size_fault U ∷ either_at_lowest T U State
    ∷ either_at_lowest T U Row ∷ either_at_lowest T U Domain ∷ [])

-- the limits in numbers
pub record SchemaLimits : Type 0 where
  pub symbols : SYMBOLS ≡ 32
  pub states : STATES ≡ 64
  pub rows : ROWS ≡ 1024
  pub domains : DOMAINS ≡ 64
  pub rows_of_a_state : STATE_ROWS ≡ 16
  pub bytes_of_a_state : STATE_BYTES ≡ 4
  pub none : NONE ≡ 255
