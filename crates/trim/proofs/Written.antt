-- The lines of the kept states so far, in their outputs. Assumes nothing.
use Rattle.std.proofs.Common.{◌≡◌, ℕ, ◌+◌, ◌*◌, ◌<◌, ◌≤◌, Bool, true, false, cond, List, [], ◌++◌, length, sym, ap, ◌∙◌, append-nil, add-one, arith}
use Rattle.std.proofs.lemmas.Bool.{and_parts, cond-true, cond-false, leb-true}
use Rattle.codec.specs.Numbers.{overwritten}
use Rattle.codec.proofs.Writing.{over_length}
use Rattle.trim.specs.declared.trimming.Trimming.{Trimming}
use Rattle.trim.specs.Lent.{LinesFit, with_lines}
use Rattle.trim.specs.Outcome.{Outputs, tables_fit}
use Rattle.trim.specs.Trimmed.{concat_below, kept_lines}
use Rattle.trim.specs.Trimming.{old_tables, permitted_of, kept_of, new_number_of, rows_before_of, new_transition_of, transition_line_of, state_line_of, row_lines_of, new_tables}
use Rattle.trim.proofs.Bytes.{transitions_length, states_length, rows_length}
use Rattle.trim.proofs.Joined.{joined_step, length_singles}
use Rattle.trim.proofs.Lines.{part_more}

module _ (kept : ℕ → Bool) (line : ℕ → List ℕ) (out : List ℕ) where
  -- the lines of the kept states below k stand at the output's front
  abbrev pub Filled : ℕ → List ℕ → Type 0
  Filled k now = now ≡ overwritten out 0 (concat_below k (λ q. cond (kept q) (line q) []))

  -- a kept state's line has room behind those before it
  line_room : (n k : ℕ) → k < n → kept k ≡ true → length (concat_below n (λ q. cond (kept q) (line q) [])) ≤ length out → length (concat_below k (λ q. cond (kept q) (line q) [])) + length (line k) ≤ length out
  line_room n k low there room =
      omega (arith, joined_step (λ q. cond (kept q) (line q) []) n k low, ap {B = ℕ} length (cond-true (kept k) (line k) [] there))

  -- lines that have room leave an output as long as it was
  filled_length : (k : ℕ) (now : List ℕ) → Filled k now → length (concat_below k (λ q. cond (kept q) (line q) [])) ≤ length out → length now ≡ length out
  filled_length k now so room = ap length so ∙ over_length out 0 (concat_below k (λ q. cond (kept q) (line q) [])) (omega arith)

  -- one kept state more
  line_more : (k place : ℕ) (now : List ℕ) → kept k ≡ true → place ≡ length (concat_below k (λ q. cond (kept q) (line q) [])) → place ≤ length out → Filled k now → Filled (k + 1) (overwritten now place (line k))
  line_more k place now there is inside so =
      ap (overwritten now place) (sym (cond-true (kept k) (line k) [] there)) ∙ part_more out (λ q. cond (kept q) (line q) []) k place now so is inside

  -- a kept state's line has room behind those before it, and written there it is one state more
  pub line_written : (n k place : ℕ) (now : List ℕ) → k < n → kept k ≡ true → length (concat_below n (λ q. cond (kept q) (line q) [])) ≤ length out → place ≡ length (concat_below k (λ q. cond (kept q) (line q) [])) → Filled k now → (place + length (line k) ≤ length now) × Filled (k + 1) (overwritten now place (line k))
  line_written n k place now low there room is so =
      let fits = line_room n k low there room in
      (omega (arith, fits, is, filled_length k now so (omega (arith, fits))), line_more k place now there is (omega (arith, fits, is)) so)

  -- a state that is not kept
  pub line_same : (k : ℕ) (now : List ℕ) → kept k ≡ false → Filled k now → Filled (k + 1) now
  line_same k now out-of-it so =
      so ∙ ap (overwritten out 0) (sym (append-nil _) ∙ ap (λ (l : List ℕ). concat_below k (λ q. cond (kept q) (line q) []) ++ l) (sym (cond-false (kept k) (line k) [] out-of-it)) ∙ ap (λ (n : ℕ). concat_below n (λ q. cond (kept q) (line q) [])) (sym (add-one k)))

module _ {D : Type 0} (t : Trimming D) (out : Outputs) where
  -- the outputs after the states below k
  pub record Upto (k : ℕ) (now : Outputs) : Type 0 where
    pub transitions : Filled (kept_of t) (transition_line_of t) out.transitions k now.transitions
    pub state_table : Filled (kept_of t) (state_line_of t) out.state_table k now.state_table
    pub row_table : Filled (kept_of t) (row_lines_of t) out.row_table k now.row_table

  -- each table has room
  pub record Rooms : Type 0 where
    pub transitions : length (new_tables t).transitions ≤ length out.transitions
    pub state_table : length (new_tables t).state_table ≤ length out.state_table
    pub row_table : length (new_tables t).row_table ≤ length out.row_table

  pub rooms : tables_fit (new_tables t) out ≡ true → Rooms
  rooms h =
      let first = and_parts _ _ h in
      let others = and_parts _ _ first.1 in
      record { transitions = leb-true _ _ first.0; state_table = leb-true _ _ others.0; row_table = leb-true _ _ others.1 }

  -- where a kept state's lines go
  transitions_at : (k : ℕ) → new_number_of t k * (old_tables t).symbols ≡ length (kept_lines (old_tables t) (permitted_of t) (kept_of t) k (transition_line_of t))
  transitions_at k = sym (transitions_length (old_tables t) (permitted_of t) (kept_of t) k)

  state_at : (k : ℕ) → 4 * new_number_of t k ≡ length (kept_lines (old_tables t) (permitted_of t) (kept_of t) k (state_line_of t))
  state_at k = sym (states_length (old_tables t) (permitted_of t) (kept_of t) k)

  rows_at : (k : ℕ) → rows_before_of t k * ((old_tables t).symbols + 1) ≡ length (kept_lines (old_tables t) (permitted_of t) (kept_of t) k (row_lines_of t))
  rows_at k = sym (rows_length (old_tables t) (permitted_of t) (kept_of t) k)

  -- the lines of a kept state have room there, and with them written it is one state more
  pub kept_written : (k : ℕ) (now : Outputs) → k < (old_tables t).states → kept_of t k ≡ true → Rooms → Upto k now → LinesFit t k now × Upto (k + 1) (with_lines t k now)
  kept_written k now low there room so =
      let states = (old_tables t).states in
      let transitions = line_written (kept_of t) (transition_line_of t) out.transitions states k (new_number_of t k * (old_tables t).symbols) now.transitions low there room.transitions (transitions_at k) so.transitions in
      let state = line_written (kept_of t) (state_line_of t) out.state_table states k (4 * new_number_of t k) now.state_table low there room.state_table (state_at k) so.state_table in
      let rows = line_written (kept_of t) (row_lines_of t) out.row_table states k (rows_before_of t k * ((old_tables t).symbols + 1)) now.row_table low there room.row_table (rows_at k) so.row_table in (
        record { inside = low; transitions = omega (arith, transitions.0, length_singles (new_transition_of t k) (old_tables t).symbols); state = omega (arith, state.0); rows = rows.0 },
        record { transitions = transitions.1; state_table = state.1; row_table = rows.1 },
      )

  -- one state more, which is not kept
  pub upto_same : (k : ℕ) (now : Outputs) → kept_of t k ≡ false → Upto k now → Upto (k + 1) now
  upto_same k now left so =
      record {
        transitions = line_same (kept_of t) (transition_line_of t) out.transitions k now.transitions left so.transitions;
        state_table = line_same (kept_of t) (state_line_of t) out.state_table k now.state_table left so.state_table;
        row_table = line_same (kept_of t) (row_lines_of t) out.row_table k now.row_table left so.row_table;
      }
