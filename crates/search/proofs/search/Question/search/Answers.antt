-- Each turn leaves the search under way; a goal, or the end of the pile, is the answer. Assumes nothing.
use Rattle.std.proofs.Common.{refl, sym, arith}
use Rattle.search.proofs.Underway.{fenced, all_tried, past_end, next_entry, leads_nowhere, to_known, to_new, to_goal, begins, at_once}
use Rattle.search.proofs.search.Question.search.Goals as goal

pub search-init : goal.search-init
search-init g c = (
  refl,
  λ low empty room.
      begins _ _ _ _ _ _ _ (fenced g.D.Domain.holds c.args.self.now.tested.now c.args.self.now.state low) (g.met.W.Watcher.low c.args.self.now.watcher.now) g.met.W.Watcher.few _ _ _ _ _ c.new-visited.ensures empty room c.first_pair-first.ensures _ c.visit-bottom.ensures (sym c.if-is_goal.ensures),
)

pub symbols-init : goal.symbols-init
symbols-init g c = (c.search.invariant.0, λ low empty room. record { under = c.search.invariant.1 low empty room; here = sym c.in-Some.ensures })

pub symbols-preserved-in_default-next_pair : goal.symbols-preserved-in_default-next_pair
symbols-preserved-in_default-next_pair g c = (
  c.symbols.invariant.0,
  λ low empty room. leads_nowhere _ _ _ _ _ _ _ (c.symbols.invariant.1 low empty room) (sym c.in_default-next_pair.ensures),
)

pub symbols-preserved-in_default-visit : goal.symbols-preserved-in_default-visit
symbols-preserved-in_default-visit g c = (
  c.symbols.invariant.0,
  λ low empty room.
      to_known _ _ _ _ _ _ _ (c.symbols.invariant.1 low empty room) (sym c.in-Some-next_pair.ensures) (omega arith) c.in_default-visit.ensures,
)

pub symbols-preserved : goal.symbols-preserved
symbols-preserved g c = (
  c.symbols.invariant.0,
  λ low empty room.
      to_new _ _ _ _ _ _ _ (c.symbols.invariant.1 low empty room) (sym c.in-Some-next_pair.ensures) (omega arith) c.in-Some-visit.ensures (sym c.if-is_goal-2.ensures),
)

pub search-preserved : goal.search-preserved
search-preserved g c = (
  c.symbols.invariant.0,
  λ low empty room. next_entry _ _ _ _ _ _ _ (c.symbols.invariant.1 low empty room) (omega (arith, c.symbols-test.false, c.symbols-symbol-end.ensures)),
)

pub returns-then-is_goal : goal.returns-then-is_goal
returns-then-is_goal g c =
    λ low empty room.
    at_once _ _ _ _ _ _ _ (fenced g.D.Domain.holds c.args.self.now.tested.now c.args.self.now.state low) (g.met.W.Watcher.low c.args.self.now.watcher.now) g.met.W.Watcher.few _ _ _ _ _ c.new-visited.ensures empty room c.first_pair-first.ensures _ c.visit-bottom.ensures (sym c.if-is_goal.ensures)

pub returns-after-search : goal.returns-after-search
returns-after-search g c =
    λ low empty room. rw c.search.invariant.0 (all_tried _ _ _ _ _ _ _ (c.search.invariant.1 low empty room) (omega (arith, c.search-test.false)))

pub returns-in_default : goal.returns-in_default
returns-in_default g c =
    λ low empty room. rw c.search.invariant.0 (past_end _ _ _ _ _ _ _ (c.search.invariant.1 low empty room) (sym c.in_default.ensures))

pub returns-then-is_goal-2 : goal.returns-then-is_goal-2
returns-then-is_goal-2 g c =
    λ low empty room.
    to_goal _ _ _ _ _ _ _ (c.symbols.invariant.1 low empty room) (sym c.in-Some-next_pair.ensures) (omega arith) c.in-Some-visit.ensures (sym c.if-is_goal-2.ensures)
