-- The document that is traced is the area's; or there is none. Assumes nothing.
use Rattle.std.proofs.Common.{◌≡◌, ℕ, ◌≤◌, length, Some, None, Option, refl, ap, ◌∙◌, inl, subst, arith}
use Rattle.std.proofs.lemmas.List.{length-map}
use Rattle.std.proofs.lemmas.Option.{slice_get_within}
use Rattle.schema.specs.declared.tables.TheConstants.{STATES}
use Rattle.schema.specs.Meaning.{meaning, tables_of}
use Rattle.compare.specs.Listing.{entries_of}
use Rattle.compare.specs.Refusals.{other_counts}
use Rattle.compare.specs.View.{view}
use Rattle.compare.specs.Writing.{BrokenOf}
use Rattle.compare.proofs.Views.{kept_of, many_of}
use Rattle.document.specs.declared.counterexample.Counterexample.{Counterexample}
use Rattle.document.specs.declared.document.TheConstants.{LEVELS}
use Rattle.document.specs.Nodes.{Ready}
use Rattle.document.specs.Steps.{TracesBack, path_level}
use Rattle.document.specs.Writing.{FoundDocument}
use Rattle.document.proofs.Calling.{answered, inside_of, found_in, none_in}
use Rattle.document.proofs.document.write_document.Goals as goal
use Rattle.document.proofs.document.write_document.Goals.{After-trace}
use Rattle.document.proofs.document.write_document.Given as given

module _ (g : given.Over) (c : After-trace g) (counts : other_counts (view c.args.area.now) (tables_of c.args.first.now) (tables_of c.args.second.now) ≡ None) (long : LEVELS ≤ length c.args.levels.now) where
  -- what the document is written from
  abbrev counterexample : Counterexample g.row.D.Denot
  counterexample = record {
    compared = record { first = c.args.first; second = c.args.second; live = c.live_states.result };
    samples = c.of.result;
    pairs = c.in-Some.broken.pairs;
    kind = c.in-Some.broken.kind;
  }

  of : BrokenOf c.args.area.now (Some c.in-Some.broken)
  of = subst (BrokenOf c.args.area.now) c.in-Some.is c.broken_pair.ensures

  ready : Ready g.D.Domain.holds counterexample
  ready = record { live = c.live_states.ensures.live; samples = c.of.ensures.samples; inside = inside_of counterexample.compared c.args.area.now c.in-Some.broken of counts }

  traced : TracesBack (meaning g.D.Domain.holds c.args.first.now) (meaning g.D.Domain.holds c.args.second.now) (entries_of c.in-Some.broken.pairs.now) c.in-Some.broken.kind c.in-Some.broken.index c.trace.result c.trace.new.levels.entries
  traced = c.trace.ensures.traced ready c.new-levels.ensures.empty (omega (arith, ap length c.new-levels.ensures.over, long))

pub returns-in_default-trace : goal.returns-in_default-trace
returns-in_default-trace g c = λ counts long.
    let at = (goal.at.returns-in_default-trace g c).After-trace in
    let A = meaning g.D.Domain.holds c.args.first.now in
    let B = meaning g.D.Domain.holds c.args.second.now in
    let b = c.in-Some.broken in
    let none = subst (λ (o : Option ℕ). TracesBack A B (entries_of b.pairs.now) b.kind b.index o c.trace.new.levels.entries) c.in_default-trace.is (traced g at counts long) in
    (inl (none_in A B c.args.area.now b (of g at counts long) none, c.refusal-none.ensures), refl)

pub returns : goal.returns
returns g c = λ counts long.
    let at = (goal.at.returns g c).After-trace in
    let A = meaning g.D.Domain.holds c.args.first.now in
    let B = meaning g.D.Domain.holds c.args.second.now in
    let a = c.args.area.now in
    let b = c.in-Some.broken in
    let es = entries_of b.pairs.now in
    let d = subst (λ (o : Option ℕ). TracesBack A B es b.kind b.index o c.trace.new.levels.entries) c.in-Some-trace.is (traced g at counts long) in
    let found : FoundDocument A B (view a) = record { path = d.path; tree = d.tree; document = found_in A B a b (of g at counts long) d.path d.tree d.document } in
    let levels = ap length d.marked ∙ length-map d.steps (path_level {A = A} {B = B} {es = es}) in
    let free : STATES ≤ length c.trace.new.levels.free = omega (arith, long, c.trace.ensures.slots, ap length c.new-levels.ensures.empty, ap length c.new-levels.ensures.over, levels, d.few, slice_get_within es b.index d.last d.listed, many_of b.pairs.now, (kept_of b.pairs.now).short) in
    answered A B a found c.args.bytes.now c.write_traced.result c.write_traced.new.bytes (c.write_traced.ensures (ready g at counts long) free d)
