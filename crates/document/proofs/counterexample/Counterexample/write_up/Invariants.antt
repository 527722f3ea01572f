-- What the nodes below a pair of the path have after is written. Assumes nothing.
use Rattle.std.proofs.Common.{◌≡◌, ℕ, ◌≤◌, List, ◌++◌, length, drop}
use Rattle.codec.specs.Piles.{slots}
use Rattle.schema.specs.declared.tables.TheConstants.{STATES}
use Rattle.schema.specs.Meaning.{meaning}
use Rattle.samples.specs.Outputs.{Within, Appended}
use Rattle.compare.specs.Listing.{entries_of}
use Rattle.document.specs.Nodes.{Ready}
use Rattle.document.specs.Steps.{PathStep, all_after, levels_of}
use Rattle.document.proofs.counterexample.Counterexample.write_up.Given as goal

abbrev pub invariant-loop-index : goal.invariant-loop-index
invariant-loop-index g l =
    let A = meaning g.D.Domain.holds l.self.compared.first.now in
    let B = meaning g.D.Domain.holds l.self.compared.second.now in
    record {
      slots : slots l.levels ≡ slots l.fn.levels;
      same : Ready g.D.Domain.holds l.self → STATES ≤ length l.fn.levels.free → Within l.fn.output → (steps : List (PathStep A B (entries_of l.self.pairs.now))) → l.fn.levels.entries ≡ levels_of steps → l.levels.entries ≡ l.fn.levels.entries;
      written : Ready g.D.Domain.holds l.self → STATES ≤ length l.fn.levels.free → Within l.fn.output → (steps : List (PathStep A B (entries_of l.self.pairs.now))) → l.fn.levels.entries ≡ levels_of steps → (done : List ℕ) × (all_after steps ≡ done ++ all_after (drop l.index steps)) × Appended done l.fn.output l.output;
    }
