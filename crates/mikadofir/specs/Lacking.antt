-- What it means that an engine lacks something of a maker's. Assumes nothing.
use Rattle.std.specs.Prelude.{◌≡◌, ℕ, ◌-◌, ◌^◌, ◌<◌, Bool, true, false, if◌then◌else◌, nat_lt, Some, None, Option}
use Rattle.mikadofir.specs.declared.domains.Member.{Member}

-- what a value of a joint domain stands for, by what those of its two halves do
abbrev pub by_half : (ℕ → Member) → (ℕ → Member) → ℕ → Member
by_half left right v = (if nat_lt v (2 ^ 31) then left v else right (v - 2 ^ 31))

-- m names the first value that the maker has and the engine has not
pub record FirstLacking (maker engine : ℕ → Bool) (names : ℕ → Member) (m : Member) : Type 0 where
  pub value : ℕ
  pub named : m ≡ names value
  pub used : maker value ≡ true
  pub missing : engine value ≡ false
  pub before : (v : ℕ) → v < value → maker v ≡ true → engine v ≡ true

-- the answer names the first value that is lacking, or is none where the engine has all that the
-- maker has
abbrev pub Lacking : (ℕ → Bool) → (ℕ → Bool) → (ℕ → Member) → Option Member → Type 0
Lacking maker engine names (Some m) = FirstLacking maker engine names m
Lacking maker engine names None = (v : ℕ) → v < 2 ^ 32 → maker v ≡ true → engine v ≡ true
