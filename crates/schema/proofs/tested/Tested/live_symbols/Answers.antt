-- The sequences over the symbols into live states are the live ones. Assumes nothing.
use Rattle.std.proofs.Common.{sym}
use Rattle.bits.specs.Bits.{bit}
use Rattle.schema.specs.Automata.{passes}
use Rattle.schema.specs.Permitted.{automaton_over}
use Rattle.schema.specs.Tables.{tables, sets, automaton_of}
use Rattle.schema.proofs.Holding.{held_same, live_of_held, held_of_live}
use Rattle.schema.proofs.Permits.{permit_runs, permit_inside}
use Rattle.schema.proofs.tested.Tested.live_symbols.Goals as goal

pub returns : goal.returns
returns g c = λ low mask a.
    let t = c.args.self.now in
    let s = t.measured.schema in
    let A = automaton_of g.D.Domain.holds s in
    let B = automaton_over c.args.permitted g.D.Domain.holds s in
    let q = c.args.state in
    let into = bit c.symbols_into_over.result in
    let inside = permit_inside (bit c.args.permitted) (tables s) (sets g.D.Domain.holds s) t.sound in
    let held = c.symbols_held.ensures low a in
    let same = c.symbols_into_over.ensures in
    let rows = permit_runs (bit c.args.permitted) A q 0 in (
      λ h. live_of_held B s.states c.args.live q low inside mask a (held_same A B q into (λ b. passes (B.next q b) (bit c.args.live)) same (λ w. sym (rows w)) a (held.0 h)),
      λ h. held.1 (held_same B A q (λ b. passes (B.next q b) (bit c.args.live)) into (λ b. sym (same b)) rows a (held_of_live B s.states c.args.live q low inside mask a h)),
    )
