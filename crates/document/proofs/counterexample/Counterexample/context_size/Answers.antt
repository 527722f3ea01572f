-- The value, the child count, the symbol, and the children on both sides. Assumes nothing.
use Rattle.std.proofs.Common.{ℕ, ◌+◌, length, min, sym, ap, ◌∙◌}
use Rattle.codec.specs.Numbers.{number_bytes}
use Rattle.schema.specs.Meaning.{meaning}
use Rattle.samples.specs.declared.size.TheConstants.{TOO_LONG}
use Rattle.document.proofs.Stepping.{context_sum}
use Rattle.document.proofs.counterexample.Counterexample.context_size.Goals as goal

pub returns : goal.returns
returns g c = λ ready low q e f symbol value all before after.
    let t = c.args.self.now in
    context_sum (meaning g.D.Domain.holds t.compared.first.now) (meaning g.D.Domain.holds t.compared.second.now) f c.number_length.result c.number_length-2.result c.number_length-3.result c.children_size.result c.children_size-2.result c.add.result
    (c.number_length.ensures.value ∙ ap (λ (n : ℕ). length (number_bytes n)) (sym value))
    (c.number_length-2.ensures.value ∙ ap (λ (n : ℕ). length (number_bytes n)) (c.len.ensures.count ∙ sym (ap length all)))
    (c.number_length-3.ensures.value ∙ ap (λ (n : ℕ). length (number_bytes n)) (c.from.ensures ∙ sym symbol))
    (c.children_size.ensures.samples ready.samples low f.before f.samples_before before) (c.children_size-2.ensures.samples ready.samples low f.after f.samples_after after)
    (c.add.ensures.sum ∙ ap (λ (n : ℕ). min (c.number_length.result + c.number_length-2.result + c.number_length-3.result + n) TOO_LONG) c.add-others.ensures.sum)
