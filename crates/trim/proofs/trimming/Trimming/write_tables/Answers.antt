-- State by state. Assumes nothing.
use Rattle.std.proofs.Common.{◌≡◌, ℕ, ◌+◌, ◌<◌, cond, add-one, sym, ap, ◌∙◌, subst, arith}
use Rattle.std.proofs.lemmas.Bool.{cond-true, cond-false}
use Rattle.schema.specs.Tables.{row_count}
use Rattle.schema.proofs.Sizes.{sound_tables}
use Rattle.trim.specs.Lent.{held, loans}
use Rattle.trim.specs.Outcome.{Outputs}
use Rattle.trim.specs.Trimming.{old_tables, permitted_of, kept_of, rows_before_of}
use Rattle.trim.specs.declared.trimming.Trimming.{Trimming}
use Rattle.trim.proofs.Sound.{rows_few}
use Rattle.trim.proofs.Written.{Upto, rooms, kept_written, upto_same}
use Rattle.trim.proofs.trimming.Trimming.write_tables.Goals as goal
use Rattle.trim.proofs.trimming.Trimming.write_tables.Goals.{then-keeps, else-keeps}

-- the rows of one state more are counted
rows_more : {D : Type 0} (t : Trimming D) (k rows count : ℕ) → rows ≡ rows_before_of t k → count ≡ cond (kept_of t k) (row_count (old_tables t) k) 0 → rows + count ≡ rows_before_of t (k + 1)
rows_more t k rows count before more = (λ i. before i + more i) ∙ ap (rows_before_of t) (sym (add-one k))

none_more : (rows : ℕ) → rows ≡ rows + 0
none_more rows = omega arith

pub write_lines-requires : goal.write_lines-requires
write_lines-requires g c =
    let t = c.args.self.now in
    let out = held c.args.outputs.now in
    record {
      fit = (kept_written t out c.loop-state.state (held c.loop-state.outputs) (omega (arith, c.loop-state-test.true, c.states-states.ensures)) (sym c.if-keeps.ensures) (rooms t out c.requires) c.loop-state.invariant.1).0;
      begins = c.loop-state.invariant.2;
    }

pub overflow_add-first : goal.overflow_add-first
overflow_add-first g c =
    let t = c.args.self.now in
    let few = rows_few (old_tables t) (permitted_of t) (kept_of t) (sound_tables (old_tables t) t.tested.now.sound) c.loop-state.state (omega (arith, c.loop-state-test.true, c.states-states.ensures)) in
    record { fits = omega (arith, few, c.loop-state.invariant.2, c.row_count.type_inv) }

pub loop-state-preserved : goal.loop-state-preserved
loop-state-preserved g c =
    let t = c.args.self.now in
    let out = held c.args.outputs.now in
    let k = c.loop-state.state in
    let so = c.loop-state.invariant in
    elim c.if-keeps.branch [
      | then-keeps w ↦
          let low : k < (old_tables t).states = omega (arith, c.loop-state-test.true, c.states-states.ensures) in
          let there = sym w.if-keeps.ensures in (
            ap loans w.outputs-is ∙ w.write_lines.ensures.lent ∙ so.0,
            subst (λ (o : Outputs). Upto t out (k + 1) o) (sym (ap held w.outputs-is ∙ w.write_lines.ensures.after)) (kept_written t out k (held c.loop-state.outputs) low there (rooms t out c.requires) so.1).1,
            w.first-is ∙ rows_more t k c.loop-state.first w.row_count.result so.2 (w.row_count.ensures ∙ sym (cond-true (kept_of t k) (row_count (old_tables t) k) 0 there)),
          )
      | else-keeps w ↦
          let left = sym w.if-keeps.ensures in (
            ap loans w.outputs-is ∙ so.0,
            subst (λ (o : Outputs). Upto t out (k + 1) o) (sym (ap held w.outputs-is)) (upto_same t out k (held c.loop-state.outputs) left so.1),
            w.first-is ∙ none_more c.loop-state.first ∙ rows_more t k c.loop-state.first 0 so.2 (sym (cond-false (kept_of t k) (row_count (old_tables t) k) 0 left)),
          )
    ]
