-- The tests in their order, and then the beginning. Assumes nothing.
use Rattle.std.proofs.Common.{◌≡◌, ◌<◌, Ok, None, sym, ap, ◌∙◌, arith}
use Rattle.bits.specs.Bits.{bit}
use Rattle.schema.specs.declared.tables.Schema.{Schema}
use Rattle.schema.specs.declared.tested.Tested.{Tested}
use Rattle.schema.specs.Meaning.{tables_of}
use Rattle.schema.specs.Tables.{tables, sets}
use Rattle.schema.proofs.Sizes.{sized}
use Rattle.compare.specs.declared.claim.Numbers.{Numbers}
use Rattle.compare.specs.Beginning.{begin_kept_from, Begins, Beginning}
use Rattle.compare.specs.View.{View, view}
use Rattle.compare.proofs.Beginnings.{past_either, in_both}
use Rattle.compare.proofs.begin.begin.Goals as goal

pub returns : goal.returns
returns g c =
    let w = view c.args.area.now in
    let e = c.args.event in
    let compared = c.of.result in
    let s = compared.first.now.measured.schema in
    let u = compared.second.now.measured.schema in
    let firsts = ap (λ (t : Tested g.row.D.Denot). t.measured.schema) c.of.ensures.first ∙ c.in_ok-first.ensures.0 in
    let seconds = ap (λ (t : Tested g.row.D.Denot). t.measured.schema) c.of.ensures.second ∙ c.in_ok-first.ensures.1 in
    let live = c.of.ensures.live 0 in
    let none : begin_kept_from w (tables s) (tables u) e ≡ None =
    in_both (λ (t v : Tested g.row.D.Denot). begin_kept_from w (tables_of t) (tables_of v) e ≡ None) (sym c.of.ensures.first) (sym c.of.ensures.second) c.in_ok-permits_start.ensures in
    let some : 0 < s.states = omega (arith, (sized (tables s) compared.first.now.measured.sized).states.from) in
    let begins : Begins (tables s) (tables u) (sets g.D.Domain.holds s) w c.claim.result (view c.start.new.self) = record {
      live = bit compared.live 0;
      decides = (λ h. (live.0 h).1, λ h. live.1 (some, h));
      after = c.start.ensures;
      number = ap (λ (n : Numbers). n.area) c.claim.ensures ∙ ap (λ (x : View). x.number) c.start.ensures;
      serial = ap (λ (n : Numbers). n.serial) c.claim.ensures ∙ ap (λ (x : View). x.serial) c.start.ensures;
    } in
    in_both (λ (s u : Schema g.row.D.Denot). Beginning e (tables s) (tables u) (sets g.D.Domain.holds s) c.args.area.now (Ok c.claim.result) c.start.new.self) firsts seconds
    (past_either (tables s) (tables u) (begin_kept_from w (tables s) (tables u) e) None compared.first.now.sound compared.second.now.sound none, begins)
