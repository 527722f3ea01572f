-- One number behind the other. Assumes nothing.
use Rattle.codec.specs.Numbers.{number_bytes}
use Rattle.samples.proofs.Outputs.{adds_more, crowded_front}
use Rattle.samples.proofs.output.Output.head.Goals as goal

pub returns : goal.returns
returns c =
    adds_more (number_bytes c.args.value) (number_bytes c.args.count) c.args.self.now c.number.new.self c.in_ok-number.ensures c.number-2.result c.number-2.new.self c.number-2.ensures

pub returns-in_err-number : goal.returns-in_err-number
returns-in_err-number c = rw c.from_residual.ensures (crowded_front (number_bytes c.args.value) (number_bytes c.args.count) c.args.self.now c.in_err-number.ensures)
