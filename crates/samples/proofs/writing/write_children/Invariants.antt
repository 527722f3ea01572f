-- The children under the first symbols are written. Assumes nothing.
use Rattle.std.proofs.Common.{◌≡◌, ◌<◌, ◌≤◌, length}
use Rattle.codec.specs.Encoding.{children_bytes}
use Rattle.codec.specs.Piles.{slots}
use Rattle.codec.specs.Trees.{Children, word, heights}
use Rattle.schema.specs.Meaning.{meaning, states_of}
use Rattle.samples.specs.Samples.{Samples}
use Rattle.samples.specs.Kept.{HasSamples}
use Rattle.samples.specs.Outputs.{Within}
use Rattle.samples.proofs.Brothers.{Partly}
use Rattle.samples.proofs.writing.write_children.Given as goal

abbrev pub invariant-loop-symbol : goal.invariant-loop-symbol
invariant-loop-symbol g l =
    let A = meaning g.D.Domain.holds l.tested in
    record {
      slots : slots l.levels ≡ slots l.fn.levels;
      written : HasSamples g.D.Domain.holds l.tested l.samples → (cs : Children) → l.state < states_of l.tested → Samples A l.state cs → word cs ≡ l.word → heights cs ≤ length l.fn.levels.free → Within l.fn.output → Partly A l.state l.word (length l.fn.levels.free) l.fn.output (children_bytes cs) l.symbol-index l.output × (l.levels.entries ≡ l.fn.levels.entries);
    }
