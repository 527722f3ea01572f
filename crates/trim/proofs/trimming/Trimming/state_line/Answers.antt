-- The four bytes. Assumes nothing.
use Rattle.std.proofs.Common.{◌≡◌, ℕ, ◌/◌, ◌%◌, ◌∷◌, [], List, get_or, ap, ◌∙◌, arith}
use Rattle.trim.proofs.trimming.Trimming.state_line.Goals as goal

pub returns : goal.returns
returns g c =
    let first = c.args.first in
    let one_byte : first / 256 % 256 ≡ first / 256 = omega (arith, c.requires) in
    let low = ap (λ (l : List ℕ). get_or l 0 0) c.to_le_bytes.ensures in
    let high = ap (λ (l : List ℕ). get_or l 1 0) c.to_le_bytes.ensures ∙ one_byte in
    λ i. c.state_byte-domain.ensures i ∷ c.row_count.ensures i ∷ low i ∷ high i ∷ []
