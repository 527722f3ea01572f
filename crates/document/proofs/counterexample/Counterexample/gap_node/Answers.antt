-- A state that is not live has no such node, and a live one has what its sample begins with. Assumes nothing.
use Rattle.std.proofs.Common.{◌≡◌, sym, ◌∙◌, subst, arith}
use Rattle.std.proofs.lemmas.Option.{none-some, same_Some}
use Rattle.schema.specs.Meaning.{meaning, states_of}
use Rattle.samples.specs.Kept.{Root}
use Rattle.samples.specs.Samples.{SampleSequence}
use Rattle.document.proofs.Finding.{dead_without}
use Rattle.document.proofs.counterexample.Counterexample.gap_node.Goals as goal

pub returns-then-not-has_member : goal.returns-then-not-has_member
returns-then-not-has_member g c = λ ready there.
    let k = c.args.self.now.compared in
    dead_without (meaning g.D.Domain.holds k.first.now) (states_of k.first.now) k.live c.args.pair.first ((meaning g.D.Domain.holds k.second.now).has c.args.pair.second) ready.live there.0 (sym c.has_member.ensures ∙ c.if-not-has_member.true)

pub returns-in_err-root : goal.returns-in_err-root
returns-in_err-root g c = λ ready there.
    let live = (ready.live c.args.pair.first).0 (sym c.has_member.ensures ∙ c.if-not-has_member.false) in
    absurd (none-some _ (sym c.in_err-root.was ∙ (c.root.ensures (meaning g.D.Domain.holds c.args.self.now.compared.first.now) _ ready.samples there.0 live.1).1))

pub returns : goal.returns
returns g c = λ ready there.
    let A = meaning g.D.Domain.holds c.args.self.now.compared.first.now in
    let p = c.args.pair.first in
    let live = (ready.live p).0 (sym c.has_member.ensures ∙ c.if-not-has_member.false) in
    let found = c.root.ensures A _ ready.samples there.0 live.1 in
    let same : found.0 ≡ c.in_ok-root.root = same_Some _ _ (sym found.1 ∙ c.in_ok-root.was) in
    let word : c.of-word.result ≡ c.in_ok-root.root.word = c.of-word.ensures (omega (arith, c.as_slice.ensures.few)) ∙ c.as_slice.ensures.all in
    (c.in_ok-value.ensures, subst (SampleSequence A p) (sym word) (subst (λ (s : Root). SampleSequence A p s.word) same found.2.1))
