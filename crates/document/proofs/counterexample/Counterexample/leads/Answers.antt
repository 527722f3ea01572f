-- Both next states are those of the pair. Assumes nothing.
use Rattle.std.proofs.Common.{sym, ◌∙◌}
use Rattle.std.proofs.lemmas.Bool.{both_ways}
use Rattle.schema.specs.Tables.{sets}
use Rattle.document.proofs.Stepping.{same_number}
use Rattle.document.proofs.counterexample.Counterexample.leads.Goals as goal

pub returns-then-eq : goal.returns-then-eq
returns-then-eq g c =
    let t = c.args.self.now in
    let pair = c.args.pair in
    let first = c.next_state.ensures (sets g.D.Domain.holds t.compared.first.now.measured.schema) in
    let second = c.next_state-then-eq.ensures (sets g.D.Domain.holds t.compared.second.now.measured.schema) in
    let one = same_number c.next_state.result pair.first c.eq.result c.eq.ensures in
    let other = same_number c.next_state-then-eq.result pair.second c.eq-then-eq.result c.eq-then-eq.ensures in
    (λ yes. (sym first ∙ one.0 c.if-eq.true, sym second ∙ other.0 yes), λ led. other.1 (second ∙ led.1))

pub returns-else-eq : goal.returns-else-eq
returns-else-eq g c =
    let t = c.args.self.now in
    let first = c.next_state.ensures (sets g.D.Domain.holds t.compared.first.now.measured.schema) in
    let one = same_number c.next_state.result c.args.pair.first c.eq.result c.eq.ensures in
    (λ yes. absurd (both_ways c.eq.result c.if-eq.false yes), λ led. one.1 (first ∙ led.0))
