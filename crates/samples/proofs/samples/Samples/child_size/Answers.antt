-- The bytes of the symbol, and those noted for the state.
use Rattle.std.proofs.Common.{◌≡◌, ℕ, length, ap, ◌∙◌, arith}
use Rattle.codec.specs.Numbers.{number_bytes}
use Rattle.schema.specs.Tables.{sets}
use Rattle.schema.specs.Meaning.{meaning}
use Rattle.samples.specs.Kept.{size_at}
use Rattle.samples.proofs.samples.Samples.child_size.Goals as goal
use Rattle.samples.proofs.samples.Samples.child_size.Goals.{in-Some, in-None}

pub returns : goal.returns
returns g c =
    let self = c.args.self.now in
    let t = c.args.tested.now in
    let ds = sets g.D.Domain.holds t.measured.schema in
    let next = (meaning g.D.Domain.holds t).next c.args.state c.args.symbol in
    let symbol : c.number_length.result ≡ length (number_bytes c.args.symbol) = c.number_length.ensures.value ∙ ap (λ (n : ℕ). length (number_bytes n)) c.from.ensures in
    let below : c.match-next_state.below ≡ size_at self.sizes next =
    elim c.match-next_state.branch [
      | in-Some w ↦ w.below-is ∙ w.size-below.ensures ∙ ap (size_at self.sizes) {y = next} (w.in-Some.ensures ds)
      | in-None w ↦ w.below-is ∙ ap (size_at self.sizes) {y = next} (w.in-None.ensures ds)
    ] in
    omega (arith, symbol, below, c.add.ensures)
