-- The live symbols, what they list, and whether a pair is left. Assumes nothing.
use Rattle.std.proofs.Common.{◌≡◌, ℕ, ◌+◌, length, sym, ap, ◌∙◌, arith}
use Rattle.bits.specs.Bits.{bit}
use Rattle.schema.specs.Permitted.{permit}
use Rattle.schema.specs.Tables.{tables, sets}
use Rattle.schema.proofs.Permits.{permit_all}
use Rattle.schema.proofs.Sizes.{sized}
use Rattle.schema.specs.Meaning.{meaning}
use Rattle.compare.specs.Stepping.{with_nexts, going_on}
use Rattle.compare.specs.View.{view}
use Rattle.compare.proofs.Goings.{none_left, one_left, live_same}
use Rattle.compare.proofs.area.Area.go_on.Goals as goal
use Rattle.compare.proofs.area.Area.go_on.Goals.{then-place-length, else-place-length}

pub returns : goal.returns
returns g c = λ noted mask at led.
    let compared = c.args.compared.now in
    let s = compared.first.now.measured.schema in
    let A = meaning g.D.Domain.holds compared.first.now in
    let B = meaning g.D.Domain.holds compared.second.now in
    let w = view c.args.self.now in
    let live = bit c.live_symbols-symbols.result in
    let p = c.args.pair.first in
    let q = c.args.pair.second in
    let i = c.args.place in
    let told = c.list_nexts.ensures in
    let es = told.entries (record { firsts = noted.firsts; seconds = noted.seconds }) at led ∙ ap (λ (n : ℕ). with_nexts A B live p q i n w.pairs) (sym noted.symbols) in
    let all = permit_all (tables s) (sets g.D.Domain.holds s) (omega (arith, (sized (tables s) compared.first.now.measured.sized).symbols.to)) in
    let long = c.length.ensures ∙ ap length es in
    let listed = with_nexts A B live p q i w.symbols w.pairs in
    let phase : c.if-place-length.self ≡ going_on (i + 1) listed = elim c.if-place-length.branch [
      | then-place-length w ↦ w.self-is ∙ none_left (i + 1) c.length.result listed long w.if-place-length.true
      | else-place-length w ↦ w.self-is ∙ one_left (i + 1) c.length.result listed long w.if-place-length.false
    ] in
    record {
      live = live;
      exact = live_same A (permit (bit 18446744073709551615) A) all s.states compared.live p c.live_symbols-symbols.result c.live_symbols-symbols.ensures at.0 mask;
      after = λ j. record { number = w.number; serial = w.serial; phase = phase j; symbols = w.symbols; firsts = told.firsts j; seconds = told.seconds j; pairs = es j; examined = w.examined };
    }
