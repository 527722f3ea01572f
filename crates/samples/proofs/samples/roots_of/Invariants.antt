-- The live states below the one that comes next have their roots.
use Rattle.std.proofs.Common.{◌≡◌, ℕ, ◌<◌, true, Some, length}
use Rattle.bits.specs.Bits.{bit}
use Rattle.schema.specs.Meaning.{meaning}
use Rattle.samples.specs.Kept.{noted_at, RanksOf, Root, RootOf}
use Rattle.samples.proofs.samples.roots_of.Given as goal

abbrev pub invariant-loop-state : goal.invariant-loop-state
invariant-loop-state g l =
    record {
      long : length l.roots ≡ 64;
      rooted : RanksOf g.D.Domain.holds l.tested l.ranks
          → (q : ℕ) → q < l.state → bit l.ranks.live q ≡ true → (s : Root) × (noted_at l.roots q ≡ Some s) × RootOf (meaning g.D.Domain.holds l.tested) q s;
    }
