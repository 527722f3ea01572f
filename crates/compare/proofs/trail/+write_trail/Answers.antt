-- The trail of the pair that led to an entry, and its symbol behind. Assumes nothing.
use Rattle.std.proofs.Common.{sym, ◌∙◌, arith}
use Rattle.compare.specs.Listing.{entries_of}
use Rattle.compare.proofs.Trails.{written_none, written_more}
use Rattle.compare.proofs.trail.+write_trail.Goals as goal
use Rattle.compare.proofs.trail.+write_trail.Goals.{then-place-output, else-place-output}

pub returns-after-place-output-clause-written : goal.returns-after-place-output-clause-written
returns-after-place-output-clause-written t c =
    let e = c.in-Some.pair in
    written_more (entries_of c.args.pairs.now) c.args.index e c.write_trail-place.result c.args.output.now c.write_trail-place.new.output c.if-place-output.output (sym c.led_to.ensures ∙ c.in-Some.is) c.write_trail-place.ensures.written
    (λ low. elim c.if-place-output.branch [ then-place-output w ↦ w.output-is | else-place-output w ↦ absurd (omega (arith, low, w.if-place-output, c.write_trail-place.auto.output)) ])

pub returns-in-None-clause-written : goal.returns-in-None-clause-written
returns-in-None-clause-written t c = written_none (entries_of c.args.pairs.now) c.args.index (sym c.led_to.ensures ∙ c.in-None.is) c.args.output.now
