-- Each level of the pile is that of a step of the path; its node's bytes come behind those of the nodes above. Assumes nothing.
use Rattle.std.proofs.Common.{◌≡◌, ℕ, ◌+◌, ◌-◌, ◌<◌, ◌≤◌, List, ◌++◌, length, drop, Some, sym, refl, ap, ◌∙◌, subst, arith}
use Rattle.std.specs.List.{slice_get}
use Rattle.std.proofs.Math.ListN.{drop_of_length-le}
use Rattle.std.proofs.lemmas.List.{length-map}
use Rattle.std.proofs.lemmas.Option.{none-some, same_Some, slice_get-get_or}
use Rattle.schema.specs.declared.tables.TheConstants.{STATES}
use Rattle.schema.specs.Meaning.{meaning}
use Rattle.samples.specs.declared.node.NodeKey.TheVariants.{State}
use Rattle.samples.specs.Outputs.{Appended, Within}
use Rattle.samples.proofs.Outputs.{added_none, added_more, crowded_more, crowded_front}
use Rattle.compare.specs.Listing.{entries_of}
use Rattle.document.specs.Contexts.{bytes_before}
use Rattle.document.specs.Nodes.{Ready}
use Rattle.document.specs.PathNodes.{path_node_of}
use Rattle.document.specs.Steps.{PathStep, all_before, path_level, levels_of}
use Rattle.document.proofs.Steps.{At, step_at, heads_begin}
use Rattle.document.proofs.counterexample.Counterexample.write_down.Given as given
use Rattle.document.proofs.counterexample.Counterexample.write_down.Goals as goal
use Rattle.document.proofs.counterexample.Counterexample.write_down.Goals.{After-path_node}

module _ (g : given.Over) (c : After-path_node g) (ready : Ready g.D.Domain.holds c.args.self.now) (space : STATES ≤ length c.args.levels.now.free) (within : Within c.args.output.now) (steps : List (PathStep (meaning g.D.Domain.holds c.args.self.now.compared.first.now) (meaning g.D.Domain.holds c.args.self.now.compared.second.now) (entries_of c.args.self.now.pairs.now))) (marked : c.args.levels.now.entries ≡ levels_of steps) where
  entries : c.loop-index.levels.entries ≡ c.args.levels.now.entries
  entries = c.loop-index.invariant.same ready space within steps marked

  -- the step at the level
  here : At steps (c.loop-index.index - 1) c.in_ok-read.field-0
  here = step_at steps (c.loop-index.index - 1) c.in_ok-read.field-0 (sym (sym c.in_ok-read.was ∙ c.read.ensures ∙ ap (λ l. slice_get l (c.loop-index.index - 1)) (entries ∙ marked)))

  found : c.path_node.result ≡ Some (path_node_of here.step)
  found = c.path_node.ensures ready here.step here.level

  -- the bytes before at the level are those above it, and its own
  parted : all_before (drop (c.loop-index.index - 1) steps) ≡ all_before (drop c.loop-index.index steps) ++ bytes_before _ _ here.step.context
  parted =
      let next : c.loop-index.index - 1 + 1 ≡ c.loop-index.index = omega (arith, c.loop-index-test.true) in
      ap all_before here.rest ∙ ap (λ (n : ℕ). all_before (drop n steps) ++ bytes_before _ _ here.step.context) next

  free : STATES ≤ length c.loop-index.levels.free
  free = omega (arith, space, c.loop-index.invariant.slots, ap length entries)

pub loop-index-init : goal.loop-index-init
loop-index-init g c =
    record {
      slots = refl;
      same = λ ready space within steps marked. refl;
      written = λ ready space within steps marked.
          let past : length steps ≤ c.len-index.result = omega (arith, c.len-index.ensures, ap length marked, length-map steps path_level) in
          subst (λ l. Appended (all_before l) c.args.output.now c.args.output.now) (sym (drop_of_length-le steps past)) (added_none c.args.output.now within);
    }

pub returns-in_err-read-clause-written : goal.returns-in_err-read-clause-written
returns-in_err-read-clause-written g c = λ ready space within steps marked.
    let same = c.loop-index.invariant.same ready space within steps marked in
    let inside : c.loop-index.index - 1 < length c.loop-index.levels.entries = omega (arith, c.loop-index-test.true, c.loop-index.auto.index, c.len-index.ensures, ap length same) in
    absurd (none-some _ (sym c.in_err-read.was ∙ c.read.ensures ∙ slice_get-get_or c.loop-index.levels.entries (c.loop-index.index - 1) (record { left = 0; at = State 0 }) inside))

pub returns-in_err-path_node-clause-written : goal.returns-in_err-path_node-clause-written
returns-in_err-path_node-clause-written g c = λ ready space within steps marked.
    absurd (none-some _ (sym c.in_err-path_node.was ∙ found g (goal.at.returns-in_err-path_node-clause-written g c).After-path_node ready space within steps marked))

pub loop-index-preserved : goal.loop-index-preserved
loop-index-preserved g c =
    record {
      slots = c.write_before.ensures.slots ∙ c.loop-index.invariant.slots;
      same = λ ready space within steps marked.
          let at = (goal.at.loop-index-preserved g c).After-path_node in
          let s = (here g at ready space within steps marked).step in
          let is = same_Some c.in_ok-path_node.path_node (path_node_of s) (sym c.in_ok-path_node.was ∙ found g at ready space within steps marked) in
          (c.in_ok-write_before.ensures.written ready (free g at ready space within steps marked) s is).1 ∙ entries g at ready space within steps marked;
      written = λ ready space within steps marked.
          let at = (goal.at.loop-index-preserved g c).After-path_node in
          let s = (here g at ready space within steps marked).step in
          let is = same_Some c.in_ok-path_node.path_node (path_node_of s) (sym c.in_ok-path_node.was ∙ found g at ready space within steps marked) in
          let own = (c.in_ok-write_before.ensures.written ready (free g at ready space within steps marked) s is).0 in
          subst (λ (l : List ℕ). Appended l c.args.output.now c.write_before.new.output) (sym (parted g at ready space within steps marked))
          (added_more (all_before (drop c.loop-index.index steps)) (bytes_before _ _ s.context) c.args.output.now c.loop-index.output (c.loop-index.invariant.written ready space within steps marked) c.write_before.new.output own);
    }

pub returns-in_err-write_before-clause-written : goal.returns-in_err-write_before-clause-written
returns-in_err-write_before-clause-written g c = λ ready space within steps marked.
    let output = c.args.output.now in
    let at = (goal.at.returns-in_err-write_before-clause-written g c).After-path_node in
    let s = (here g at ready space within steps marked).step in
    let is = same_Some c.in_ok-path_node.path_node (path_node_of s) (sym c.in_ok-path_node.was ∙ found g at ready space within steps marked) in
    let short = c.in_err-write_before.ensures.written ready (free g at ready space within steps marked) s is in
    let above = all_before (drop c.loop-index.index steps) in
    let begin = heads_begin steps (c.loop-index.index - 1) in
    let whole : all_before steps ≡ (above ++ bytes_before _ _ s.context) ++ begin.0 = begin.1 ∙ ap (λ (l : List ℕ). l ++ begin.0) (parted g at ready space within steps marked) in
    rw c.from_residual-in_err-write_before.ensures
    (
    subst (λ (l : List ℕ). length output.bytes.now < output.place + length l) (sym whole)
    (crowded_front (above ++ bytes_before _ _ s.context) begin.0 output (crowded_more above (bytes_before _ _ s.context) output c.loop-index.output (c.loop-index.invariant.written ready space within steps marked) short))
    )

pub returns-clause-written : goal.returns-clause-written
returns-clause-written g c = λ ready space within steps marked.
    let zero : c.loop-index.index ≡ 0 = omega (arith, c.loop-index-test.false) in (
      subst (λ (n : ℕ). Appended (all_before (drop n steps)) c.args.output.now c.loop-index.output) zero (c.loop-index.invariant.written ready space within steps marked),
      c.loop-index.invariant.same ready space within steps marked,
    )
