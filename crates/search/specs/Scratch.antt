-- The row pairs that a search needs. Assumes nothing.
use Rattle.std.specs.Prelude.{ℕ, cond, Some, None, Option, nat_lt}
use Rattle.refusal.specs.declared.fault.Fault.TheVariants.{Scratch}
use Rattle.refusal.specs.declared.fault.Refusal.{Refusal}
use Rattle.search.specs.declared.pairs.TheConstants.{ROW_PAIRS}

-- `scratch`: too few row pairs are lent; its place is how many are needed
abbrev pub short_scratch : ℕ → Option Refusal
short_scratch slots =
    cond (nat_lt slots ROW_PAIRS) (Some (record { fault = Scratch; place = ROW_PAIRS })) None
