-- Each call of the closure gives the item. Assumes nothing.
use Rattle.std.proofs.Common.{◌≡◌, length, replicate, rules, refl}
use Rattle.std.proofs.lemmas.Fn.{chained_keeps}
use Rattle.std.proofs.lemmas.List.{replicate_more}
use Rattle.notation.proofs.memory.filled.Goals as goal

pub returns-clause-items : goal.returns-clause-items
returns-clause-items g c =
    let ran = c.in_ok-resize_with.ensures.items in
    let same = chained_keeps _ (λ xs q. (xs ≡ replicate (length xs) c.args.item) × (q.0.now ≡ c.args.item))
    (λ xs q x v h step. let more = replicate_more (length xs) c.args.item in (search rules, search rules)) _ _ _ (refl, refl) ran.3 in
    search rules
