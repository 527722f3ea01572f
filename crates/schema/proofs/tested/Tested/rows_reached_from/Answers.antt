-- Rows are done until none is left. Assumes nothing.
use Rattle.std.proofs.Common.{ℕ, ◌<◌, subst, arith}
use Rattle.bits.specs.Bits.{bit}
use Rattle.schema.specs.Meaning.{IsState, meaning, tables_of}
use Rattle.schema.specs.Rows.{RowsReachedFrom}
use Rattle.schema.specs.Tables.{sets, row_count}
use Rattle.schema.proofs.Reaching.{rows_start, rows_more, rows_done}
use Rattle.schema.proofs.Sound.{sound}
use Rattle.schema.proofs.tested.Tested.rows_reached_from.Goals as goal

pub loop-row-init : goal.loop-row-init
loop-row-init g c = λ low inside.
    rows_start g.D.Domain.holds c.args.self.now c.args.state c.args.symbols c.args.from low c.with_member-reached.result inside c.with_member-reached.ensures.adds

pub loop-row-preserved : goal.loop-row-preserved
loop-row-preserved g c = λ low inside.
    rows_more g.D.Domain.holds c.args.self.now c.args.state c.args.symbols c.args.from low c.loop-row.reached c.loop-row.done c.in-Some.row c.with_member-done.result c.rows_after-reached.result
    (c.loop-row.invariant low inside) c.in-Some.ensures c.with_member-done.ensures.adds c.rows_after-reached.ensures

pub returns : goal.returns
returns g c =
    let t = c.args.self.now in
    let q = c.args.state in
    let A = meaning g.D.Domain.holds t in
    let s = sound (tables_of t) (sets g.D.Domain.holds t.measured.schema) t.sound in
    let all : IsState t q → c.args.from < row_count (tables_of t) q → RowsReachedFrom A q (bit c.args.symbols) c.args.from c.loop-row.reached = λ low inside.
    rows_done g.D.Domain.holds t q c.args.symbols c.args.from low c.loop-row.reached c.loop-row.done (c.loop-row.invariant low inside) c.in_default.ensures in
    record {
      any_row = all;
      first_row = λ low first. subst (λ (r : ℕ). RowsReachedFrom A q (bit c.args.symbols) r c.loop-row.reached) first (all low (omega (arith, first, (s.rows q low).from)));
    }
