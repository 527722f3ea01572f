-- The slots hold the sequence, and 0 past it.
use Rattle.std.proofs.Common.{◌≡◌, ◌≤◌, length, refl, ap, ◌∙◌, arith}
use Rattle.std.specs.Option.{unwrap_or}
use Rattle.std.proofs.lemmas.Option.{unwrap_or-slice_get}
use Rattle.search.proofs.Filling.{slots_long, filled_more, front_inside, front_padded, front_is}
use Rattle.search.proofs.word.Word.read.Goals as goal

pub loop-position-init : goal.loop-position-init
loop-position-init g c = λ w spells few. refl

pub loop-position-preserved : goal.loop-position-preserved
loop-position-preserved g c = λ w spells few.
    let all = c.length.ensures w spells in
    let low : c.min-count.result ≤ g.row.N = omega arith in
    let long = slots_long g.row.N c.min-count.result low in
    let a = c.unwrap_or.ensures ∙ ap (λ o. unwrap_or o 0) (c.symbol_at.ensures w spells) ∙ unwrap_or-slice_get w c.loop-position.position 0 in
    filled_more w c.loop-position.symbol-items c.loop-position.position c.unwrap_or.result (omega arith) (omega arith) a (c.loop-position.invariant w spells few)

pub returns : goal.returns
returns g c = λ w spells few.
    let all = c.length.ensures w spells in
    let low : c.min-count.result ≤ g.row.N = omega arith in
    let long = slots_long g.row.N c.min-count.result low in
    front_is g.row.N c.min-count.result c.loop-position.symbol-items low (omega arith) w (omega arith) c.loop-position.position (omega arith) (c.loop-position.invariant w spells few)

pub invariant_of-result : goal.invariant_of-result
invariant_of-result g c =
    let low : c.min-count.result ≤ g.row.N = omega arith in
    let long = slots_long g.row.N c.min-count.result low in
    let same : length c.loop-position.symbol-items ≡ c.min-count.result = omega arith in
    (front_inside g.row.N c.min-count.result c.loop-position.symbol-items low same, front_padded g.row.N c.min-count.result c.loop-position.symbol-items low same)
