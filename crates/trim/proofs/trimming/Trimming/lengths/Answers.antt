-- The lengths that the counts make. Assumes nothing.
use Rattle.std.proofs.Common.{ℕ, ◌+◌, ◌*◌, ◌≤◌, sym, ap, ◌∙◌, mul-le-mul_right, arith}
use Rattle.schema.proofs.Sizes.{sized, sound_tables}
use Rattle.trim.specs.Trimming.{old_tables, permitted_of, kept_of}
use Rattle.trim.proofs.Bytes.{transitions_length, states_length, rows_length}
use Rattle.trim.proofs.Sound.{number_few, rows_few}
use Rattle.trim.proofs.trimming.Trimming.lengths.Given as given
use Rattle.trim.proofs.trimming.Trimming.lengths.Goals as goal
use Rattle.trim.proofs.trimming.Trimming.lengths.Goals.{After-counts-states}

-- a product of a small count and a small width
small : (count width : ℕ) → count ≤ 1024 → width ≤ 33 → count * width ≤ 33792
small count width low narrow = omega (arith, mul-le-mul_right width low)

-- the counts are small
few : (g : given.Over) (c : After-counts-states g) → (c.counts-states.result.0 ≤ 64) × (c.counts-states.result.1 ≤ 1024) × (c.symbols-symbols.result ≤ 32)
few g c =
    let t = c.args.self.now in
    let T = old_tables t in
    let sound = sound_tables T t.tested.now.sound in (
      omega (arith, c.counts-states.ensures.states, number_few T (permitted_of t) (kept_of t) sound T.states (omega arith)),
      omega (arith, c.counts-states.ensures.rows, rows_few T (permitted_of t) (kept_of t) sound T.states (omega arith)),
      omega (arith, c.symbols-symbols.ensures, (sized T t.tested.now.measured.sized).symbols.to),
    )

pub overflow_mul-result : goal.overflow_mul-result
overflow_mul-result g c = let f = few g (goal.at.overflow_mul-result g c).After-counts-states in record { fits = omega (arith, small c.counts-states.result.0 c.symbols-symbols.result (omega (arith, f.0)) (omega (arith, f.2))) }

pub overflow_mul-result-2 : goal.overflow_mul-result-2
overflow_mul-result-2 g c = record { fits = omega (arith, (few g (goal.at.overflow_mul-result-2 g c).After-counts-states).0) }

pub overflow_mul-result-3 : goal.overflow_mul-result-3
overflow_mul-result-3 g c = let f = few g (goal.at.overflow_mul-result-3 g c).After-counts-states in record { fits = omega (arith, small c.counts-states.result.1 (c.symbols-symbols.result + 1) f.1 (omega (arith, f.2))) }

pub returns-clause-transitions : goal.returns-clause-transitions
returns-clause-transitions g c =
    let t = c.args.self.now in
    (λ i. c.counts-states.ensures.states i * c.symbols-symbols.ensures i) ∙ sym (transitions_length (old_tables t) (permitted_of t) (kept_of t) (old_tables t).states)

pub returns-clause-states : goal.returns-clause-states
returns-clause-states g c =
    let t = c.args.self.now in
    ap (λ (n : ℕ). 4 * n) c.counts-states.ensures.states ∙ sym (states_length (old_tables t) (permitted_of t) (kept_of t) (old_tables t).states)

pub returns-clause-rows : goal.returns-clause-rows
returns-clause-rows g c =
    let t = c.args.self.now in
    (λ i. c.counts-states.ensures.rows i * (c.symbols-symbols.ensures i + 1)) ∙ sym (rows_length (old_tables t) (permitted_of t) (kept_of t) (old_tables t).states)
