-- The bytes before the tree at the end, that tree's, and those after it are the document's. Assumes nothing.
use Rattle.std.proofs.Common.{◌≡◌, ℕ, ◌+◌, ◌<◌, List, ◌++◌, length, sym, ap, ◌∙◌, subst, arith}
use Rattle.codec.specs.declared.item.Level.{Level}
use Rattle.codec.specs.Encoding.{tree_bytes}
use Rattle.samples.specs.declared.node.NodeKey.{NodeKey}
use Rattle.samples.specs.Writing.{Leaves}
use Rattle.samples.proofs.Outputs.{added_within, crowded_more, crowded_front}
use Rattle.samples.proofs.Turning.{leaves_more}
use Rattle.document.specs.Steps.{all_before, all_after}
use Rattle.document.proofs.counterexample.Counterexample.write.Goals as goal

pub returns-in_err-write_down-clause-written : goal.returns-in_err-write_down-clause-written
returns-in_err-write_down-clause-written g c = λ ready space within size d.
    let output = c.args.output.now in
    let short = c.in_err-write_down.ensures.written ready space within d.steps d.marked in
    rw c.from_residual.ensures
    (subst (λ (l : List ℕ). length output.bytes.now < output.place + length l) (sym d.parted) (crowded_front (all_before d.steps) (tree_bytes d.part ++ all_after d.steps) output short))

pub returns-in_err-write_end-clause-written : goal.returns-in_err-write_end-clause-written
returns-in_err-write_end-clause-written g c = λ ready space within size d.
    let output = c.args.output.now in
    let down = c.in_ok-write_down.ensures.written ready space within d.steps d.marked in
    let short = c.in_err-write_end.ensures.written ready (omega (arith, space, c.write_down.ensures.slots, ap length down.1)) d.last d.part d.listed d.ends in
    rw c.from_residual-in_err-write_end.ensures
    (
    subst (λ (l : List ℕ). length output.bytes.now < output.place + length l) (sym d.parted)
    (crowded_more (all_before d.steps) (tree_bytes d.part ++ all_after d.steps) output c.write_down.new.output down.0 (crowded_front (tree_bytes d.part) (all_after d.steps) c.write_down.new.output short))
    )

pub returns-clause-written : goal.returns-clause-written
returns-clause-written g c = λ ready space within size d.
    let output = c.args.output.now in
    let down = c.in_ok-write_down.ensures.written ready space within d.steps d.marked in
    let end = c.in_ok-write_end.ensures.written ready (omega (arith, space, c.write_down.ensures.slots, ap length down.1)) d.last d.part d.listed d.ends in
    let same : c.write_end.new.levels.entries ≡ c.args.levels.now.entries = end.1 ∙ down.1 in
    let up = c.write_up.ensures.written ready (omega (arith, space, c.write_down.ensures.slots, c.write_end.ensures.slots, ap length same)) (added_within (tree_bytes d.part) c.write_down.new.output c.write_end.new.output end.0) d.steps (same ∙ d.marked) in
    let all = leaves_more (all_before d.steps) (tree_bytes d.part ++ all_after d.steps) c.write_end.new.levels.entries output c.write_down.new.output c.write_up.new.output c.write_up.result c.write_up.new.levels down.0
    (leaves_more (tree_bytes d.part) (all_after d.steps) c.write_end.new.levels.entries c.write_down.new.output c.write_end.new.output c.write_up.new.output c.write_up.result c.write_up.new.levels end.0 up) in
    subst (λ (l : List (Level NodeKey)). Leaves (tree_bytes d.tree) l output c.write_up.result c.write_up.new.levels c.write_up.new.output) same
    (subst (λ (l : List ℕ). Leaves l c.write_end.new.levels.entries output c.write_up.result c.write_up.new.levels c.write_up.new.output) (sym d.parted) all)
