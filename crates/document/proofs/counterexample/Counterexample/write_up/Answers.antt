-- Each level of the pile is that of a step of the path; its node's bytes come behind those of the nodes below. Assumes nothing.
use Rattle.std.proofs.Common.{◌≡◌, ℕ, ◌+◌, ◌<◌, ◌≤◌, List, [], ◌++◌, length, drop, sym, refl, ap, ◌∙◌, subst, append_assoc, arith}
use Rattle.std.specs.List.{slice_get}
use Rattle.std.proofs.Math.ListN.{drop_of_length-le}
use Rattle.std.proofs.lemmas.List.{append-nil, length-map}
use Rattle.std.proofs.lemmas.Option.{none-some, slice_get-get_or}
use Rattle.schema.specs.declared.tables.TheConstants.{STATES}
use Rattle.schema.specs.Meaning.{meaning}
use Rattle.samples.specs.declared.node.NodeKey.TheVariants.{State}
use Rattle.samples.specs.Outputs.{Appended, Within}
use Rattle.samples.proofs.Outputs.{added_none, added_more, added_within, crowded_more, crowded_front}
use Rattle.compare.specs.Listing.{entries_of}
use Rattle.document.specs.Contexts.{bytes_after}
use Rattle.document.specs.Nodes.{Ready}
use Rattle.document.specs.Steps.{PathStep, path_level, levels_of, all_after}
use Rattle.document.proofs.Steps.{At, step_at}
use Rattle.document.proofs.counterexample.Counterexample.write_up.Given as given
use Rattle.document.proofs.counterexample.Counterexample.write_up.Goals as goal
use Rattle.document.proofs.counterexample.Counterexample.write_up.Goals.{After-write_level_after}

module _ (g : given.Over) (c : After-write_level_after g) (ready : Ready g.D.Domain.holds c.args.self.now) (space : STATES ≤ length c.args.levels.now.free) (within : Within c.args.output.now) (steps : List (PathStep (meaning g.D.Domain.holds c.args.self.now.compared.first.now) (meaning g.D.Domain.holds c.args.self.now.compared.second.now) (entries_of c.args.self.now.pairs.now))) (marked : c.args.levels.now.entries ≡ levels_of steps) where
  entries : c.loop-index.levels.entries ≡ c.args.levels.now.entries
  entries = c.loop-index.invariant.same ready space within steps marked

  -- the step at the level
  here : At steps c.loop-index.index c.in_ok-read.field-0
  here = step_at steps c.loop-index.index c.in_ok-read.field-0 (sym (sym c.in_ok-read.was ∙ c.read.ensures ∙ ap (λ l. slice_get l c.loop-index.index) (entries ∙ marked)))

  free : STATES ≤ length c.loop-index.levels.free
  free = omega (arith, space, c.loop-index.invariant.slots, ap length entries)

  -- the bytes after are those written, the level's own, and those above it
  parted : all_after steps ≡ ((c.loop-index.invariant.written ready space within steps marked).0 ++ bytes_after _ _ here.step.context) ++ all_after (drop (c.loop-index.index + 1) steps)
  parted =
      let so = c.loop-index.invariant.written ready space within steps marked in
      so.1 ∙ ap (λ (l : List ℕ). so.0 ++ l) (ap all_after here.rest) ∙ sym (append_assoc so.0 (bytes_after _ _ here.step.context) (all_after (drop (c.loop-index.index + 1) steps)))

pub loop-index-init : goal.loop-index-init
loop-index-init g c =
    record {
      slots = refl;
      same = λ ready space within steps marked. refl;
      written = λ ready space within steps marked. ([], refl, added_none c.args.output.now within);
    }

pub returns-in_err-read-clause-written : goal.returns-in_err-read-clause-written
returns-in_err-read-clause-written g c = λ ready space within steps marked.
    let same = c.loop-index.invariant.same ready space within steps marked in
    let inside : c.loop-index.index < length c.loop-index.levels.entries = omega (arith, c.loop-index-test.true, c.len-index-end.ensures, ap length same) in
    absurd (none-some _ (sym c.in_err-read.was ∙ c.read.ensures ∙ slice_get-get_or c.loop-index.levels.entries c.loop-index.index (record { left = 0; at = State 0 }) inside))

pub loop-index-preserved : goal.loop-index-preserved
loop-index-preserved g c =
    record {
      slots = c.write_level_after.ensures.slots ∙ c.loop-index.invariant.slots;
      same = λ ready space within steps marked.
          let at = (goal.at.loop-index-preserved g c).After-write_level_after in
          let h = here g at ready space within steps marked in
          let so = c.loop-index.invariant.written ready space within steps marked in
          (c.in_ok-write_level_after.ensures.written ready (free g at ready space within steps marked) (added_within so.0 c.args.output.now c.loop-index.output so.2) h.step h.level).1 ∙ entries g at ready space within steps marked;
      written = λ ready space within steps marked.
          let at = (goal.at.loop-index-preserved g c).After-write_level_after in
          let h = here g at ready space within steps marked in
          let so = c.loop-index.invariant.written ready space within steps marked in
          let own = (c.in_ok-write_level_after.ensures.written ready (free g at ready space within steps marked) (added_within so.0 c.args.output.now c.loop-index.output so.2) h.step h.level).0 in (
            so.0 ++ bytes_after _ _ h.step.context,
            parted g at ready space within steps marked,
            added_more so.0 (bytes_after _ _ h.step.context) c.args.output.now c.loop-index.output so.2 c.write_level_after.new.output own,
          );
    }

pub returns-in_err-write_level_after-clause-written : goal.returns-in_err-write_level_after-clause-written
returns-in_err-write_level_after-clause-written g c = λ ready space within steps marked.
    let output = c.args.output.now in
    let at = (goal.at.returns-in_err-write_level_after-clause-written g c).After-write_level_after in
    let h = here g at ready space within steps marked in
    let so = c.loop-index.invariant.written ready space within steps marked in
    let short = c.in_err-write_level_after.ensures.written ready (free g at ready space within steps marked) (added_within so.0 output c.loop-index.output so.2) h.step h.level in
    rw c.from_residual-in_err-write_level_after.ensures
    (
    subst (λ (l : List ℕ). length output.bytes.now < output.place + length l) (sym (parted g at ready space within steps marked))
    (crowded_front (so.0 ++ bytes_after _ _ h.step.context) (all_after (drop (c.loop-index.index + 1) steps)) output (crowded_more so.0 (bytes_after _ _ h.step.context) output c.loop-index.output so.2 short))
    )

pub returns-clause-written : goal.returns-clause-written
returns-clause-written g c = λ ready space within steps marked.
    let so = c.loop-index.invariant.written ready space within steps marked in
    let past : length steps ≤ c.loop-index.index = omega (arith, c.loop-index-test.false, c.len-index-end.ensures, ap length marked, length-map steps path_level) in
    let all : all_after steps ≡ so.0 = so.1 ∙ ap (λ l. so.0 ++ all_after l) (drop_of_length-le steps past) ∙ append-nil so.0 in
    (subst (λ (l : List ℕ). Appended l c.args.output.now c.loop-index.output) (sym all) so.2, c.loop-index.invariant.same ready space within steps marked)
