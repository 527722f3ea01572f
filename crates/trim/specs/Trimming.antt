-- The trimmed tables of a schema with what is kept of it. Assumes nothing.
use Rattle.std.specs.Prelude.{◌≡◌, ℕ, Bool, List}
use Rattle.bits.specs.Bits.{bit}
use Rattle.schema.specs.declared.tested.Tested.{Tested}
use Rattle.refusal.specs.declared.fault.Refusal.{Refusal}
use Rattle.schema.specs.Meaning.{tables_of}
use Rattle.schema.specs.Tables.{Tables, sets}
use Rattle.trim.specs.declared.trimming.Trimming.{Trimming}
use Rattle.trim.specs.Outcome.{KeptSet, NothingLeft}
use Rattle.trim.specs.Trimmed.{new_number, transition_stays, new_transition, new_entry, «rows_before», transition_line, «state_line», «row_line», row_lines, trimmed}

module _ {D : Type 0} (t : Trimming D) where
  -- the tables that are trimmed
  abbrev pub old_tables : Tables
  old_tables = tables_of t.tested.now

  -- the permitted symbols and the kept states
  abbrev pub permitted_of : ℕ → Bool
  permitted_of = bit t.permitted

  abbrev pub kept_of : ℕ → Bool
  kept_of = bit t.kept

  -- how many kept states come before a state, and how many rows they have
  abbrev pub new_number_of : ℕ → ℕ
  new_number_of = new_number old_tables permitted_of kept_of

  abbrev pub rows_before_of : ℕ → ℕ
  rows_before_of = rows_before old_tables permitted_of kept_of

  -- whether the transition of a state under a symbol stays, and what becomes of it and of a row
  -- entry
  abbrev pub transition_stays_of : ℕ → ℕ → Bool
  transition_stays_of = transition_stays old_tables permitted_of kept_of

  abbrev pub new_transition_of : ℕ → ℕ → ℕ
  new_transition_of = new_transition old_tables permitted_of kept_of

  abbrev pub new_entry_of : ℕ → ℕ → ℕ → ℕ
  new_entry_of = new_entry old_tables permitted_of kept_of

  -- the lines of a state in the three tables, and a line of its rows
  abbrev pub transition_line_of : ℕ → List ℕ
  transition_line_of = transition_line old_tables permitted_of kept_of

  abbrev pub state_line_of : ℕ → List ℕ
  state_line_of = state_line old_tables permitted_of kept_of

  abbrev pub row_line_of : ℕ → ℕ → List ℕ
  row_line_of = row_line old_tables permitted_of kept_of

  abbrev pub row_lines_of : ℕ → List ℕ
  row_lines_of = row_lines old_tables permitted_of kept_of

  -- it is of a tested schema and permitted symbols, and keeps what trimming keeps
  pub record TrimmingOf (holds : D → ℕ → Bool) (tested : Tested D) (permitted : ℕ) : Type 0 where
    pub of_schema : t.tested.now ≡ tested
    pub of_symbols : t.permitted ≡ permitted
    pub keeps : KeptSet old_tables (sets holds t.tested.now.measured.schema) permitted_of kept_of

  -- the trimmed tables
  abbrev pub new_tables : Tables
  new_tables = trimmed old_tables permitted_of kept_of

-- no tree over the permitted symbols is accepted by a tested schema
abbrev pub NoneKept : {D : Type 0} → (D → ℕ → Bool) → Tested D → ℕ → Refusal → Type 0
NoneKept holds tested permitted e =
    NothingLeft (tables_of tested) (sets holds tested.measured.schema) (bit permitted) e
