-- The three outputs that the caller lends, and the lines of one state in them. Assumes nothing.
use Rattle.std.specs.Prelude.{ℕ, ◌+◌, ◌*◌, ◌<◌, ◌≤◌, length}
use Rattle.std.specs.Borrow.{GName}
use Rattle.codec.specs.Numbers.{overwritten}
use Rattle.schema.specs.declared.tables.TheConstants.{STATE_BYTES}
use Rattle.trim.specs.declared.tables.Outputs as lent
use Rattle.trim.specs.declared.trimming.Trimming.{Trimming}
use Rattle.trim.specs.Outcome.{Outputs, outputs}
use Rattle.trim.specs.Trimming.{old_tables, new_number_of, rows_before_of, transition_line_of, state_line_of, row_lines_of}

-- what the outputs hold
abbrev pub held : lent.Outputs → Outputs
held o = outputs o.transitions.now o.states.now o.rows.now

-- which slices are lent, by the names of their loans
abbrev pub loans : lent.Outputs → GName × GName × GName
loans o = (o.transitions.ghost_name, o.states.ghost_name, o.rows.ghost_name)

module _ {D : Type 0} (t : Trimming D) (q : ℕ) (out : Outputs) where
  -- the lines of a state have room at their places
  pub record LinesFit : Type 0 where
    pub inside : q < (old_tables t).states
    pub transitions :
        new_number_of t q * (old_tables t).symbols + (old_tables t).symbols
        ≤ length out.transitions
    pub state : STATE_BYTES * new_number_of t q + STATE_BYTES ≤ length out.state_table
    pub rows :
        rows_before_of t q * ((old_tables t).symbols + 1) + length (row_lines_of t q)
        ≤ length out.row_table

  -- the outputs with these lines written there
  abbrev pub with_lines : Outputs
  with_lines =
      outputs
      (overwritten out.transitions (new_number_of t q * (old_tables t).symbols) (transition_line_of t q))
      (overwritten out.state_table (STATE_BYTES * new_number_of t q) (state_line_of t q))
      (overwritten out.row_table (rows_before_of t q * ((old_tables t).symbols + 1)) (row_lines_of t q))
