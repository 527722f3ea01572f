-- The value, the child count and the children. Assumes nothing.
use Rattle.std.proofs.Common.{ℕ, length, sym, ap, ◌∙◌}
use Rattle.codec.specs.Numbers.{number_bytes}
use Rattle.document.proofs.Stepping.{end_sum}
use Rattle.document.proofs.counterexample.Counterexample.end_size.Goals as goal

pub returns : goal.returns
returns g c = λ ready low cs samples same.
    end_sum c.args.node.now.value cs c.number_length.result c.number_length-2.result c.children_size-children.result c.add.result c.number_length.ensures.value
    (c.number_length-2.ensures.value ∙ ap (λ (n : ℕ). length (number_bytes n)) (c.len.ensures.count ∙ sym (ap length same)))
    (c.children_size-children.ensures.samples ready.samples low cs samples (same ∙ sym c.as_slice-word.ensures.all)) c.add.ensures.sum
