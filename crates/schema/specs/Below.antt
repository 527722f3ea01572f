-- Numbers below a bound that pass a test. Assumes nothing.
use Rattle.std.specs.Prelude.{ℕ, zero, suc, Bool, false, cond, ◌||◌, [], ◌∷◌, Some, None, Option}
use Rattle.refusal.specs.Order.{first_of}

-- some number below n passes
abbrev pub some_below : ℕ → (ℕ → Bool) → Bool
some_below zero test = false
some_below (suc n) test = some_below n test || test n

-- the lowest number below n that passes, or none where none does
abbrev pub lowest : ℕ → (ℕ → Bool) → Option ℕ
lowest zero test = None
lowest (suc n) test = first_of (lowest n test ∷ cond (test n) (Some n) None ∷ [])
