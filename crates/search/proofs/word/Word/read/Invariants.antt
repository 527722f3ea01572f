-- As far as the slots are filled, they hold the sequence.
use Rattle.std.proofs.Common.{◌≡◌, ℕ, ◌≤◌, List, length, take}
use Rattle.search.specs.Pairs.{row_links}
use Rattle.search.specs.Paths.{Spells}
use Rattle.search.proofs.word.Word.read.Given as goal

abbrev pub invariant-loop-position : goal.invariant-loop-position
invariant-loop-position g l = (w : List ℕ) → Spells row_links l.pile.entries l.index w → length w ≤ g.row.N → take l.position l.symbol-items ≡ take l.position w
