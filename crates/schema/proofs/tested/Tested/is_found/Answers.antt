-- With a value and with a sequence. Assumes nothing.
use Rattle.std.proofs.Common.{refl, sym, ◌∙◌}
use Rattle.bits.specs.Bits.{bit}
use Rattle.schema.specs.Automata.{passes}
use Rattle.schema.specs.Permitted.{automaton_over}
use Rattle.schema.specs.Tables.{automaton_of}
use Rattle.schema.proofs.Permits.{permit_runs}
use Rattle.schema.proofs.Rounds.{runs_over_same}
use Rattle.schema.proofs.tested.Tested.is_found.Goals as goal

pub returns : goal.returns
returns g c = λ low.
    let s = c.args.self.now.measured.schema in
    let A = automaton_of g.D.Domain.holds s in
    let B = automaton_over c.args.permitted g.D.Domain.holds s in
    let q = c.args.state in
    let symbols = bit c.symbols_into_over-symbols.result in
    let runs = c.has_sequence_from.ensures.first_row low refl in
    let same = c.symbols_into_over-symbols.ensures in
    let runs_so = permit_runs (bit c.args.permitted) A q 0 in (
      λ e.
          let w = runs_over_same A q 0 symbols (λ a. passes (B.next q a) (bit c.args.live)) same (runs.0 e) in
          ((_, c.in-Some.ensures.passes), (w.0, w.1, runs_so w.0 ∙ w.2)),
      λ found.
          let w = found.1 in
          runs.1 (runs_over_same A q 0 (λ a. passes (B.next q a) (bit c.args.live)) symbols (λ a. sym (same a)) (w.0, w.1, sym (runs_so w.0) ∙ w.2)),
    )
