-- Rows are few. Assumes nothing.
use Rattle.std.proofs.Common.{arith}
use Rattle.schema.proofs.Sizes.{sound_tables}
use Rattle.trim.specs.Trimming.{old_tables, permitted_of, kept_of}
use Rattle.trim.proofs.Sound.{rows_few}
use Rattle.trim.proofs.trimming.Trimming.rows_before.Goals as goal

pub overflow_add-rows : goal.overflow_add-rows
overflow_add-rows g c =
    let t = c.args.self.now in
    let few = rows_few (old_tables t) (permitted_of t) (kept_of t) (sound_tables (old_tables t) t.tested.now.sound) c.loop-before.before (omega (arith, c.requires, c.loop-before-test.true)) in
    record { fits = omega (arith, few, c.loop-before.invariant) }
