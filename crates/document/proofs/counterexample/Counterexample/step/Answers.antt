-- The pair that led here is on the path where a node goes on from it to the pair. Assumes nothing.
use Rattle.std.proofs.Common.{◌≡◌, ℕ, List, ◌∷◌, ◌++◌, length, sym, refl, ap, ◌∙◌, subst, arith}
use Rattle.std.proofs.lemmas.Option.{slice_get_within}
use Rattle.codec.specs.Trees.{word}
use Rattle.schema.specs.Meaning.{meaning, states_of}
use Rattle.search.specs.Watching.{Holds}
use Rattle.samples.specs.declared.node.NodeKey.TheVariants.{Pair}
use Rattle.samples.proofs.Sizing.{kept_rooted}
use Rattle.samples.proofs.Tested.{next_inside}
use Rattle.compare.specs.Listing.{entries_of}
use Rattle.compare.proofs.Views.{kept_of, many_of}
use Rattle.document.specs.Documents.{OnPath}
use Rattle.document.proofs.PathNodes.{states_listed}
use Rattle.document.proofs.Splitting.{context_of}
use Rattle.document.proofs.Stepping.{led_from, no_step}
use Rattle.document.proofs.counterexample.Counterexample.step.Goals as goal

pub returns-in_err-node-clause-back : goal.returns-in_err-node-clause-back
returns-in_err-node-clause-back g c = λ ready.
    let self = c.args.self.now in
    let pair = c.in_ok-pair.pair in
    let from = c.in_ok-from.from in
    let there = c.in_ok-from.ensures.answer in
    let low = (states_listed g.D.Domain.holds self ready c.from-at.result from (sym there)).0 in
    rw c.from_residual-in_err-node.ensures
    (no_step (entries_of self.pairs.now) c.args.place c.from-at.result pair from c.in_ok-pair.ensures c.from-at.ensures there (meaning g.D.Domain.holds self.compared.first.now) (meaning g.D.Domain.holds self.compared.second.now)
    (λ f. c.in_err-node.ensures ready low f.value (word f.before ++ pair.symbol ∷ word f.after) f.on_path))

pub returns-in_err-before-clause-back : goal.returns-in_err-before-clause-back
returns-in_err-before-clause-back g c = λ ready.
    let low = (states_listed g.D.Domain.holds c.args.self.now ready c.from-at.result c.in_ok-from.from (sym c.in_ok-from.ensures.answer)).0 in
    absurd (c.in_err-before.ensures (subst (Holds c.in_ok-pair.pair.symbol) (sym c.as_slice.ensures.all) (c.in_ok-node.ensures ready low).1.passes.1))

pub returns-clause-back : goal.returns-clause-back
returns-clause-back g c = λ ready.
    let self = c.args.self.now in
    let t = self.compared.first.now in
    let A = meaning g.D.Domain.holds t in
    let B = meaning g.D.Domain.holds self.compared.second.now in
    let pair = c.in_ok-pair.pair in
    let from = c.in_ok-from.from in
    let node = c.in_ok-node.node in
    let u = c.in_ok-before.before.now in
    let x = c.in_ok-before.after.now in
    let there = c.in_ok-from.ensures.answer in
    let low = (states_listed g.D.Domain.holds self ready c.from-at.result from (sym there)).0 in
    let parts = c.in_ok-before.ensures in
    let whole : node.word ≡ u ++ pair.symbol ∷ x = sym c.as_slice.ensures.all ∙ parts.0 in
    let on_path : OnPath A B from.first pair.symbol node.value (u ++ pair.symbol ∷ x) = subst (OnPath A B from.first pair.symbol node.value) whole (c.in_ok-node.ensures ready low) in
    let placed = context_of A B from.first from.second pair node.value u x on_path (c.leads.ensures.0 c.if-not-leads.false) parts.1 (states_of t) (next_inside g.D.Domain.holds t) (kept_rooted A (states_of t) self.samples ready.samples) low in
    let f = placed.context in
    let left : length x ≡ length (word f.after) = ap length (sym placed.word_after) in
    let all = ap (λ (l : List ℕ). l ++ pair.symbol ∷ word f.after) placed.word_before ∙ ap (λ (l : List ℕ). u ++ pair.symbol ∷ l) placed.word_after ∙ sym whole in (
      record {
        place = c.args.place;
        pair = pair;
        from = from;
        led = led_from (entries_of self.pairs.now) c.args.place c.from-at.result pair from c.in_ok-pair.ensures c.from-at.ensures there;
        context = f;
      },
      (λ j. record { left = sym left j; at = Pair c.args.place }),
      c.from-at.ensures,
      c.context_size-size.ensures ready low from.second pair f refl placed.value all placed.word_before placed.word_after,
    )

pub returns-clause-low : goal.returns-clause-low
returns-clause-low g c =
    let pairs = c.args.self.now.pairs.now in
    let led = led_from (entries_of pairs) c.args.place c.from-at.result c.in_ok-pair.pair c.in_ok-from.from c.in_ok-pair.ensures c.from-at.ensures c.in_ok-from.ensures.answer in
    (omega (arith, led.before, c.from-at.ensures), omega (arith, slice_get_within (entries_of pairs) c.args.place c.in_ok-pair.pair led.there, many_of pairs, (kept_of pairs).short))
