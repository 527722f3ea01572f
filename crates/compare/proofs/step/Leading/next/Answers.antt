-- A next state is missing, or both are there. Assumes nothing.
use Rattle.std.proofs.Common.{ℕ, Bool, true, Some, Option, sym, ap, ◌∙◌}
use Rattle.bits.specs.Bits.{bit}
use Rattle.schema.specs.Meaning.{meaning}
use Rattle.schema.specs.Tables.{sets}
use Rattle.compare.specs.Stepping.{next_pair}
use Rattle.compare.proofs.Nexts.{first_missing, second_missing}
use Rattle.compare.proofs.step.Leading.next.Goals as goal

pub returns-in_err-first : goal.returns-in_err-first
returns-in_err-first g c =
    let self = c.args.self in
    let a = c.args.symbol in
    let t = c.args.compared.now.first.now in
    let u = c.args.compared.now.second.now in
    let first : Option ℕ = (meaning g.D.Domain.holds t).next self.pair.first a in
    let second : Option ℕ = (meaning g.D.Domain.holds u).next self.pair.second a in
    c.from_residual.ensures ∙ first_missing self.place a (bit self.symbols a) first second (sym (c.in_err-first.ensures (sets g.D.Domain.holds t.measured.schema)))

pub returns-in_err-second : goal.returns-in_err-second
returns-in_err-second g c =
    let self = c.args.self in
    let a = c.args.symbol in
    let t = c.args.compared.now.first.now in
    let u = c.args.compared.now.second.now in
    let first : Option ℕ = (meaning g.D.Domain.holds t).next self.pair.first a in
    let second : Option ℕ = (meaning g.D.Domain.holds u).next self.pair.second a in
    c.from_residual-in_err-second.ensures ∙ second_missing self.place a (bit self.symbols a) first second (sym (c.in_err-second.ensures (sets g.D.Domain.holds u.measured.schema)))

pub returns : goal.returns
returns g c =
    let self = c.args.self in
    let i = self.place in
    let a = c.args.symbol in
    let t = c.args.compared.now.first.now in
    let u = c.args.compared.now.second.now in
    let A = meaning g.D.Domain.holds t in
    let B = meaning g.D.Domain.holds u in
    ap (λ (o : Option ℕ). next_pair i a true o (Some c.in_ok-second.second)) (c.in_ok-first.ensures (sets g.D.Domain.holds t.measured.schema))
    ∙ ap (λ (o : Option ℕ). next_pair i a true (A.next self.pair.first a) o) (c.in_ok-second.ensures (sets g.D.Domain.holds u.measured.schema))
    ∙ ap (λ (b : Bool). next_pair i a b (A.next self.pair.first a) (B.next self.pair.second a)) c.if-not-has_member.ensures
