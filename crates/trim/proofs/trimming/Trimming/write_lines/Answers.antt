-- Line by line. Assumes nothing.
use Rattle.std.proofs.Common.{◌≡◌, ◌+◌, ◌*◌, ◌≤◌, length, sym, ◌∙◌, arith}
use Rattle.schema.specs.Tables.{row_count}
use Rattle.trim.specs.Trimming.{old_tables, permitted_of, kept_of, new_number_of, rows_before_of, row_lines_of}
use Rattle.schema.proofs.Sizes.{sound_tables}
use Rattle.trim.proofs.Bytes.{first_length}
use Rattle.trim.proofs.Sound.{rows_few}
use Rattle.trim.proofs.trimming.Trimming.write_lines.Given as given
use Rattle.trim.proofs.trimming.Trimming.write_lines.Goals as goal
use Rattle.trim.proofs.trimming.Trimming.write_lines.Goals.{After-row_count}

-- where the state's rows go, and how long they are
record Rows (g : given.Over) (c : After-row_count g) : Type 0 where
  at : c.args.first * (c.symbols-symbols.result + 1) ≡ rows_before_of c.args.self.now c.args.state * ((old_tables c.args.self.now).symbols + 1)
  long : c.row_count.result * (c.symbols-symbols.result + 1) ≡ length (row_lines_of c.args.self.now c.args.state)

rows : (g : given.Over) (c : After-row_count g) → Rows g c
rows g c =
    let t = c.args.self.now in
    let before = c.requires.begins in
    let count = c.row_count.ensures in
    let symbols = c.symbols-symbols.ensures in
    record {
      at = λ i. before i * (symbols i + 1);
      long = (λ i. count i * (symbols i + 1)) ∙ sym (first_length (old_tables t) (permitted_of t) (kept_of t) c.args.state (row_count (old_tables t) c.args.state));
    }

pub slice_bounds-write_transitions-end : goal.slice_bounds-write_transitions-end
slice_bounds-write_transitions-end g c =
    let symbols = c.symbols-symbols.ensures in
    let number = c.number-number.ensures in
    let at : c.number-number.result * c.symbols-symbols.result ≡ new_number_of c.args.self.now c.args.state * (old_tables c.args.self.now).symbols = λ i. number i * symbols i in
    let room : c.number-number.result * c.symbols-symbols.result + c.symbols-symbols.result ≤ length c.args.outputs.now.transitions.now = omega (arith, at, symbols, c.requires.fit.transitions) in
    room

pub state_line-requires : goal.state_line-requires
state_line-requires g c =
    let t = c.args.self.now in
    let few = rows_few (old_tables t) (permitted_of t) (kept_of t) (sound_tables (old_tables t) t.tested.now.sound) c.args.state (omega (arith, c.requires.fit.inside)) in
    omega (arith, c.requires.begins, few)

pub slice_bounds-write_rows-end : goal.slice_bounds-write_rows-end
slice_bounds-write_rows-end g c =
    let place = rows g (goal.at.slice_bounds-write_rows-end g c).After-row_count in
    let room : c.args.first * (c.symbols-symbols.result + 1) + c.row_count.result * (c.symbols-symbols.result + 1) ≤ length c.args.outputs.now.rows.now = omega (arith, place.at, place.long, c.requires.fit.rows) in
    room

pub write_rows-requires : goal.write_rows-requires
write_rows-requires g c = omega (arith, (rows g (goal.at.write_rows-requires g c).After-row_count).long)
