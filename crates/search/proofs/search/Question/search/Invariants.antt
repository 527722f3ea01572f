-- The search is under way, if the pile was empty and had room, and nothing was found. Assumes nothing.
use Rattle.std.proofs.Common.{◌≡◌, ◌<◌, ◌≤◌, [], length, None}
use Rattle.search.proofs.Underway.{Searching, Examining}
use Rattle.search.proofs.search.Question.search.Given as goal

abbrev pub invariant-search : goal.invariant-search
invariant-search g l =
    (l.found ≡ None) × (l.self.state < l.self.tested.now.measured.schema.states → l.fn.pile.entries ≡ [] → 272 ≤ length l.fn.pile.free → Searching g.D.Domain.holds g.W.Watcher.watching g.W.Watcher.states l.self l.visited l.pile l.cursor 0)

abbrev pub invariant-symbols : goal.invariant-symbols
invariant-symbols g l =
    (l.found ≡ None) × (l.self.state < l.self.tested.now.measured.schema.states → l.fn.pile.entries ≡ [] → 272 ≤ length l.fn.pile.free → Examining g.D.Domain.holds g.W.Watcher.watching g.W.Watcher.states l.self l.visited l.pile l.cursor l.symbol l.pair)
