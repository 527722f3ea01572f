-- The size of a state of the rank is that of its sample, and other states are passed over.
use Rattle.std.proofs.Common.{◌+◌, eqb, Some, sym, ◌∙◌, subst, arith}
use Rattle.std.specs.Option.{option_eq}
use Rattle.std.proofs.lemmas.Bool.{both_ways}
use Rattle.samples.proofs.Ranking.{rank_equal}
use Rattle.schema.specs.Meaning.{meaning, states_of}
use Rattle.samples.proofs.Tested.{few_states, next_inside}
use Rattle.samples.proofs.Sizing.{Sizing, sizing_start, sizing_over, sizing_more, sizing_end}
use Rattle.samples.proofs.samples.Samples.note_sizes.Goals as goal
use Rattle.samples.proofs.samples.Samples.note_sizes.Goals.{then-eq, else-eq}

pub loop-state-init : goal.loop-state-init
loop-state-init g c = let t = c.args.tested.now in sizing_start _ _ (next_inside g.D.Domain.holds t) (few_states t) c.args.self.now c.args.ranks.now c.args.rank (omega arith)

pub loop-state-preserved : goal.loop-state-preserved
loop-state-preserved g c =
    let before = c.args.self.now in
    let ranks = c.args.ranks.now in
    let t = c.args.tested.now in
    let A = meaning g.D.Domain.holds t in
    let n = states_of t in
    let inside = next_inside g.D.Domain.holds t in
    let few = few_states t in
    let s = c.loop-state.self in
    let state = c.loop-state.state in
    let test = option_eq eqb c.rank_at.result (Some c.args.rank) in
    let After = Sizing A n before ranks c.args.rank (state + 1) in
    elim c.if-eq.branch [
      | then-eq w ↦ subst After (sym w.self-is) (sizing_more A n inside few before ranks c.args.rank state w.sample_size.result s c.loop-state-test.true (sym c.rank_at.ensures ∙ (rank_equal c.rank_at.result c.args.rank).0 (sym {b = test} w.if-eq.ensures)) w.sample_size.ensures c.loop-state.invariant)
      | else-eq w ↦ subst After (sym w.self-is) (sizing_over A n inside few before ranks c.args.rank state s (λ is. both_ways test (sym {b = test} w.if-eq.ensures) ((rank_equal c.rank_at.result c.args.rank).1 (c.rank_at.ensures ∙ is))) c.loop-state.invariant)
    ]

pub returns-clause-sizes : goal.returns-clause-sizes
returns-clause-sizes g c = let t = c.args.tested.now in sizing_end _ _ (next_inside g.D.Domain.holds t) (few_states t) c.args.self.now c.args.ranks.now c.args.rank c.loop-state.state c.loop-state.self c.loop-state-test.false c.loop-state.invariant
