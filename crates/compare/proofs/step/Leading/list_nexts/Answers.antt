-- Symbol by symbol: the pair of next states is listed where it is there. Assumes nothing.
use Rattle.std.proofs.Common.{◌≡◌, ℕ, ◌<◌, length, Some, sym, ap, ◌∙◌, subst, add-one, arith}
use Rattle.bits.specs.Bits.{bit}
use Rattle.schema.specs.Tables.{tables, sets}
use Rattle.schema.proofs.Sound.{sound}
use Rattle.schema.specs.Meaning.{meaning}
use Rattle.compare.specs.declared.pairs.Pairs.{Pairs}
use Rattle.compare.specs.Listing.{entries_of}
use Rattle.compare.specs.Stepping.{with_found, with_next, with_nexts}
use Rattle.compare.proofs.Nexts.{listed_next, with_nexts_longer}
use Rattle.compare.proofs.step.Leading.list_nexts.Goals as goal
use Rattle.compare.proofs.step.Leading.list_nexts.Goals.{in-Some, in_default}

pub loop-symbol-preserved : goal.loop-symbol-preserved
loop-symbol-preserved g c =
    let inv = c.loop-symbol.invariant in
    let compared = c.args.compared.now in
    let s = compared.first.now.measured.schema in
    let u = compared.second.now.measured.schema in
    let A = meaning g.D.Domain.holds compared.first.now in
    let B = meaning g.D.Domain.holds compared.second.now in
    let live = bit c.args.self.symbols in
    let p = c.args.self.pair.first in
    let q = c.args.self.pair.second in
    let i = c.args.self.place in
    let k = c.loop-symbol.symbol in
    let before = entries_of c.args.pairs.now in
    let here = c.loop-symbol.pairs in
    elim c.match-next.branch [
      | in-Some w ↦ (
        ap (λ (x : Pairs). x.firsts) w.pairs-is ∙ w.list.ensures.firsts ∙ inv.0,
        ap (λ (x : Pairs). x.seconds) w.pairs-is ∙ w.list.ensures.seconds ∙ inv.1,
        λ inside at led.
            let es = inv.2 inside at led in
            let further : i < length (entries_of here) = omega (arith, led, with_nexts_longer A B live p q i k before, ap {B = ℕ} length es) in
            let low : (t : ℕ) → A.next p k ≡ Some t → t < here.firsts = λ t there. subst (λ (n : ℕ). t < n) (sym (inv.0 ∙ inside.firsts)) ((sound (tables s) (sets g.D.Domain.holds s) compared.first.now.sound).next_in p k t at.0 there) in
            let high : (t : ℕ) → B.next q k ≡ Some t → t < here.seconds = λ t there. subst (λ (n : ℕ). t < n) (sym (inv.1 ∙ inside.seconds)) ((sound (tables u) (sets g.D.Domain.holds u) compared.second.now.sound).next_in q k t at.1 there) in
            ap entries_of w.pairs-is ∙ w.list.ensures.entries
            ∙ listed_next i k (entries_of here) (live k) (A.next p k) (B.next q k) w.in-Some.next here.firsts here.seconds w.in-Some.ensures low high further
            ∙ ap (with_next i k (live k) (A.next p k) (B.next q k)) es ∙ ap (λ (a : ℕ). with_nexts A B live p q i a before) (sym (add-one k)),
      )
      | in_default w ↦ (
        ap (λ (x : Pairs). x.firsts) w.pairs-is ∙ inv.0,
        ap (λ (x : Pairs). x.seconds) w.pairs-is ∙ inv.1,
        λ inside at led.
            ap entries_of w.pairs-is ∙ ap (λ r. with_found r (entries_of here)) w.in_default.ensures
            ∙ ap (with_next i k (live k) (A.next p k) (B.next q k)) (inv.2 inside at led) ∙ ap (λ (a : ℕ). with_nexts A B live p q i a before) (sym (add-one k)),
      )
    ]
