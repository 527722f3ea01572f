-- What is written and what the levels have left make the sample. Assumes nothing.
use Rattle.std.proofs.Common.{◌≡◌, ◌<◌, length}
use Rattle.codec.specs.Encoding.{tree_bytes}
use Rattle.codec.specs.Piles.{slots}
use Rattle.codec.specs.Trees.{Tree, height}
use Rattle.schema.specs.Meaning.{meaning, states_of}
use Rattle.samples.specs.Samples.{Sample}
use Rattle.samples.specs.Writing.{ahead}
use Rattle.samples.specs.Kept.{HasSamples}
use Rattle.samples.proofs.Underway.{Underway}
use Rattle.samples.proofs.writing.write_sample.Given as goal

abbrev pub invariant-loop-levels : goal.invariant-loop-levels
invariant-loop-levels g l =
    let A = meaning g.D.Domain.holds l.tested in
    let n = states_of l.tested in
    record {
      slots : slots l.levels ≡ slots l.fn.levels;
      underway : HasSamples g.D.Domain.holds l.tested l.samples → (t : Tree) → l.state < n → Sample A l.state t → height t < length l.fn.levels.free → Underway A n l.fn.levels.entries l.fn.output (tree_bytes t) l.levels l.output;
    }

abbrev pub decreases-loop-levels : goal.decreases-loop-levels
decreases-loop-levels g l = ahead l.levels l.output
