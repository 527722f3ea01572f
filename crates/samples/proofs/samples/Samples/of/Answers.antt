-- Every rank is below 64, and every state with a sample has one.
use Rattle.std.proofs.Common.{arith}
use Rattle.samples.proofs.Growing.{sample_live}
use Rattle.samples.proofs.samples.Samples.of.Goals as goal

pub loop-rank-init : goal.loop-rank-init
loop-rank-init g c = (c.ranks-ranks.ensures, c.roots_of.ensures c.ranks-ranks.ensures, λ q m t here r low sample. absurd (omega (arith, low)))

pub loop-rank-preserved : goal.loop-rank-preserved
loop-rank-preserved g c = c.note_sizes.ensures.sizes c.loop-rank.invariant

pub returns-clause-samples : goal.returns-clause-samples
returns-clause-samples g c =
    let made = c.loop-rank.invariant in
    record {
      rooted = made.1;
      sized = λ q t low sample.
          let at = made.0.noted q ((made.0.live q).1 (low, sample_live _ q t sample)) in
          made.2 q at.0 t low at.3 (omega (arith, at.2)) sample;
    }
