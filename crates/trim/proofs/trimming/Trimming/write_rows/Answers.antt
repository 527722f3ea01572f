-- Row by row. Assumes nothing.
use Rattle.std.proofs.Common.{◌≡◌, ℕ, ◌+◌, ◌*◌, ◌<◌, ◌≤◌, length, sym, ap, ◌∙◌, arith}
use Rattle.codec.specs.Numbers.{overwritten}
use Rattle.schema.specs.Tables.{row_count}
use Rattle.trim.specs.Trimmed.{concat_below}
use Rattle.trim.specs.Trimming.{old_tables, permitted_of, kept_of, row_line_of, row_lines_of}
use Rattle.trim.proofs.Bytes.{row_length, first_length, row_room}
use Rattle.trim.proofs.Joined.{joined_step}
use Rattle.trim.proofs.Lines.{over_all, put_over, part_more}
use Rattle.trim.proofs.trimming.Trimming.write_rows.Goals as goal

pub slice_bounds-write_row-end : goal.slice_bounds-write_row-end
slice_bounds-write_row-end g c =
    let t = c.args.self.now in
    let low : c.loop-row.row < row_count (old_tables t) c.args.state = omega (arith, c.loop-row-test.true, c.row_count-row-end.ensures) in
    let width = ap (λ (n : ℕ). c.loop-row.row * (n + 1)) c.symbols-width.ensures in
    let room : c.loop-row.row * (c.symbols-width.result + 1) + (c.symbols-width.result + 1) ≤ length c.loop-row.lines =
    omega (arith, row_room (old_tables t) (permitted_of t) (kept_of t) c.args.state c.loop-row.row low, width, c.symbols-width.ensures, c.requires, c.loop-row.auto.lines) in
    room

pub loop-row-preserved : goal.loop-row-preserved
loop-row-preserved g c =
    let t = c.args.self.now in
    let line = row_line_of t c.args.state in
    let r = c.loop-row.row in
    let start = r * (c.symbols-width.result + 1) in
    let low : r < row_count (old_tables t) c.args.state = omega (arith, c.loop-row-test.true, c.row_count-row-end.ensures) in
    let place = ap (λ (n : ℕ). r * (n + 1)) c.symbols-width.ensures ∙ sym (first_length (old_tables t) (permitted_of t) (kept_of t) c.args.state r) in
    let long = ap length c.write_row.ensures ∙ row_length (old_tables t) (permitted_of t) (kept_of t) c.args.state r in
    put_over c.loop-row.lines c.write_row.new.line start _ (omega (arith, long, c.symbols-width.ensures)) ∙ ap (overwritten c.loop-row.lines start) c.write_row.ensures
    ∙ part_more c.args.lines.now line r start c.loop-row.lines c.loop-row.invariant place (omega (arith, place, joined_step line (row_count (old_tables t) c.args.state) r low, c.requires))

pub returns : goal.returns
returns g c =
    let t = c.args.self.now in
    let all : c.loop-row.row ≡ row_count (old_tables t) c.args.state = omega (arith, c.loop-row-test.false, c.loop-row.auto.row-end, c.row_count-row-end.ensures) in
    c.loop-row.invariant ∙ ap (λ (n : ℕ). overwritten c.args.lines.now 0 (concat_below n (row_line_of t c.args.state))) all ∙ over_all c.args.lines.now (row_lines_of t c.args.state) (sym c.requires)
