-- Turn by turn, while the area runs. Assumes nothing.
use Rattle.std.proofs.Common.{ℕ, sym, ◌∙◌, subst, add-one}
use Rattle.schema.specs.Meaning.{meaning}
use Rattle.compare.specs.Stepping.{Turns}
use Rattle.compare.specs.View.{view}
use Rattle.compare.proofs.Turning.{runs_where_examined, noted_stays}
use Rattle.compare.proofs.area.Area.examine_up_to.Goals as goal

pub loop-preserved : goal.loop-preserved
loop-preserved g c = λ noted mask.
    let compared = c.args.compared.now in
    let A = meaning g.D.Domain.holds compared.first.now in
    let B = meaning g.D.Domain.holds compared.second.now in
    let so = c.loop.invariant noted mask in
    let v = view c.loop.self in
    let turn = c.examine.ensures so.1 mask in (
      subst (λ (k : ℕ). Turns A B k (view c.args.self.now) (view c.examine.new.self)) (sym (add-one c.loop.counter))
          (v, so.0, runs_where_examined v.phase (sym c.decide.ensures ∙ c.in-Examine.is), turn),
      noted_stays A B compared v (view c.examine.new.self) turn so.1,
    )
