-- All symbols are permitted. Assumes nothing.
use Rattle.std.proofs.Common.{subst, arith}
use Rattle.schema.specs.Automata.{Automaton}
use Rattle.schema.specs.Live.{Ranked}
use Rattle.schema.specs.Tables.{tables, sets}
use Rattle.schema.proofs.Permits.{permit_all}
use Rattle.schema.proofs.Sizes.{sized}
use Rattle.schema.proofs.tested.Tested.ranks.Goals as goal

pub returns : goal.returns
returns g c =
    let t = c.args.self.now in
    let s = t.measured.schema in
    let r = c.ranks_over.result in
    subst (λ (A : Automaton). Ranked A s.states r.live r.rank) (permit_all (tables s) (sets g.D.Domain.holds s) (omega (arith, (sized (tables s) t.measured.sized).symbols.to))) c.ranks_over.ensures
