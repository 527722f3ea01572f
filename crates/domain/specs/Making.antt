-- Which ranges make a coverage, and what making one answers. Assumes nothing.
use Rattle.std.specs.Prelude.{◌≡◌, ℕ, ◌+◌, ◌-◌, ◌<◌, ◌≤◌, ◌⊎◌, List, ◌++◌, length, replicate, Ok, Err, Result, slice_index_or}
use Rattle.refusal.specs.declared.fault.Fault.TheVariants as fault
use Rattle.refusal.specs.declared.fault.Refusal.{Refusal}
use Rattle.domain.specs.declared.coverage.Range.{Range}
use Rattle.domain.specs.declared.coverage.Coverage.{Coverage}
use Rattle.domain.specs.declared.coverage.TheConstants.{RANGES}
use Rattle.domain.specs.declared.coverage.making.TheConstants.{LAST_CODE_POINT}
use Rattle.domain.specs.declared.joint.TheConstants.{MIDDLE}
use Rattle.domain.specs.Kinds.{ranges_of}

-- what an unused place of a coverage holds
abbrev pub unused : Range
unused = record { first = 0; last = 0 }

-- the range at a place of the list
abbrev pub at : List Range → ℕ → Range
at rs i = slice_index_or rs i unused

-- the first k ranges follow the rule: first not after last, none above the last code point,
-- ascending, at least one code point between two
pub record Follows (rs : List Range) (k : ℕ) : Type 0 where
  pub ordered : (i : ℕ) → i < k → (at rs i).first ≤ (at rs i).last
  pub inside : (i : ℕ) → i < k → (at rs i).last ≤ LAST_CODE_POINT
  pub apart : (i j : ℕ) → i < j → j < k → (at rs i).last + 1 < (at rs j).first

-- the range at place k is the first that breaks the rule with those before it
pub record Breaks (rs : List Range) (k : ℕ) : Type 0 where
  pub listed : k < length rs
  pub before : Follows rs k
  pub broken : Follows rs (k + 1) → ⊥

-- the coverage of these ranges, where they are few enough: these, then unused places
abbrev pub coverage_of : List Range → Coverage
coverage_of rs = record { ranges = rs ++ replicate (RANGES - length rs) unused; count = length rs }

-- a coverage is made of ranges that follow the rule, and has just these
pub record Accepts (rs : List Range) (c : Coverage) : Type 0 where
  pub few : length rs ≤ RANGES
  pub rule : Follows rs (length rs)
  pub uses : ranges_of c ≡ rs
  pub whole : c ≡ coverage_of rs

-- too many ranges are refused by `size`, place 0; else the first that breaks the rule by `range`,
-- with its place
abbrev pub RefusedFor : List Range → Refusal → Type 0
RefusedFor rs e =
    ((RANGES < length rs) × (e ≡ record { fault = fault.Size; place = 0 }))
    ⊎ ((length rs ≤ RANGES) × Breaks rs e.place × (e.fault ≡ fault.Range))

-- what making a coverage of the ranges answers
abbrev pub Makes : List Range → Result Coverage Refusal → Type 0
Makes rs (Ok c) = Accepts rs c
Makes rs (Err e) = RefusedFor rs e

-- there is one answer for any ranges
abbrev pub OneAnswer : Type 0
OneAnswer = (rs : List Range) (r s : Result Coverage Refusal) → Makes rs r → Makes rs s → r ≡ s

-- the limits in numbers: the ranges of a coverage, the last code point, and where the right half of
-- a joint begins
pub record DomainLimits : Type 0 where
  pub ranges : RANGES ≡ 8
  pub last : LAST_CODE_POINT ≡ 1114111
  pub middle : MIDDLE ≡ 2147483648

-- what holds of making coverages
pub record MakingLaws : Type 0 where
  pub one : OneAnswer
  pub limits : DomainLimits
