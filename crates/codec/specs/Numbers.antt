-- Numbers of 32 bits as bytes: groups of seven bits, the lowest first, the top bit set on all but
-- the last, the shortest way only. Assumes nothing.
use Rattle.std.specs.Prelude.{◌≡◌, ℕ, zero, suc, ◌+◌, ◌-◌, ◌*◌, ◌/◌, ◌%◌, ◌<◌, ◌≤◌, Bool, true, false, cond, ◌&&◌, ◌||◌, List, [], ◌∷◌, ◌++◌, length, take, drop, Some, None, Ok, Err, Option, Result, ◌==◌, nat_lt}
use Rattle.codec.specs.declared.number.TheConstants.{LARGEST_FIFTH}
use Rattle.refusal.specs.declared.fault.Fault.TheVariants as fault
use Rattle.refusal.specs.declared.fault.Refusal.{Refusal}

-- what reading the front of some bytes gives: a value and the bytes after it, or the refusal at
-- which reading stops
pub data Got (X : Type 0) : Type 0 where
  got : X → List ℕ → Got X
  stop : Refusal → Got X

-- the bytes of a number with at most k groups after the first
abbrev pub groups_of : ℕ → ℕ → List ℕ
groups_of zero n = n ∷ []
groups_of (suc k) n = cond (nat_lt n 128) (n ∷ []) ((n % 128 + 128) ∷ groups_of k (n / 128))

-- the bytes of a number below 2 ^ 32: at most five groups
abbrev pub number_bytes : ℕ → List ℕ
number_bytes n = groups_of 4 n

-- one group below what the groups after it give
abbrev pub above : ℕ → Got ℕ → Got ℕ
above low (got high rest) = got (low + 128 * high) rest
above low (stop e) = stop e

-- reading stops at a fault with its place
abbrev pub stop_at : {X : Type 0} → fault.the_data → ℕ → Got X
stop_at f p = stop (record { fault = f; place = p })

-- groups read one by one: k more may follow the next one, and some came before it. `at` is the place of the number's first byte, and
-- `end` the input's length. A fifth byte above 15, or a last byte 0 after others, is no number.
abbrev pub read_groups : (at end k : ℕ) → Bool → List ℕ → Got ℕ
read_groups at end k some [] = stop_at fault.Short end
read_groups at end zero some (b ∷ bs) =
    cond (b == 0 || nat_lt LARGEST_FIFTH b) (stop_at fault.Number at) (got b bs)
read_groups at end (suc k) some (b ∷ bs) =
    cond (nat_lt b 128)
    (cond (some && b == 0) (stop_at fault.Number at) (got b bs))
    (above (b - 128) (read_groups at end k true bs))

-- a byte can't be the group at an index: a fifth above 15, or a 0 after others
abbrev pub is_wrong_group : ℕ → ℕ → Bool
is_wrong_group group b = (nat_lt 0 group && b == 0) || (nat_lt 3 group && nat_lt LARGEST_FIFTH b)

-- the number at the front of what is left of an input of the given length
abbrev pub read_number : ℕ → List ℕ → Got ℕ
read_number end bs = read_groups (end - length bs) end 4 false bs

-- the number at a place of the input, with the place after it, or the refusal
abbrev pub Reads : List ℕ → ℕ → Result (ℕ × ℕ) Refusal → Type 0
Reads input p (Ok r) =
    (read_number (length input) (drop p input) ≡ got r.0 (drop r.1 input))
    × (p < r.1) × (r.1 ≤ length input)
Reads input p (Err e) = read_number (length input) (drop p input) ≡ stop e

-- an output with bytes written at a place, and nothing else touched
abbrev pub overwritten : List ℕ → ℕ → List ℕ → List ℕ
overwritten output p bytes = take p output ++ (bytes ++ drop (p + length bytes) output)

-- bytes written at a place of an output, and nothing else touched; none are written where they have
-- no room there
pub record Written
    (output : List ℕ) (p : ℕ) (bytes : List ℕ) (next : ℕ) (output' : List ℕ) : Type 0 where
  pub room : p + length bytes ≤ length output
  pub next_place : next ≡ p + length bytes
  pub after : output' ≡ overwritten output p bytes

-- what writing bytes at a place answers and leaves in the output
abbrev pub Writes : List ℕ → ℕ → List ℕ → Option ℕ → List ℕ → Type 0
Writes output p bytes (Some next) output' = Written output p bytes next output'
Writes output p bytes None output' = (length output < p + length bytes) × (output' ≡ output)

-- examples: numbers with their bytes, and bytes that begin with no number
pub record NumberExamples : Type 0 where
  pub zero_byte : number_bytes 0 ≡ 0 ∷ []
  pub one_group : number_bytes 127 ≡ 127 ∷ []
  pub two_groups : number_bytes 128 ≡ 128 ∷ 1 ∷ []
  pub low_first : number_bytes 300 ≡ 172 ∷ 2 ∷ []
  pub five_groups : number_bytes 2147483738 ≡ 218 ∷ 128 ∷ 128 ∷ 128 ∷ 8 ∷ []
  pub largest : number_bytes 4294967295 ≡ 255 ∷ 255 ∷ 255 ∷ 255 ∷ 15 ∷ []
  pub absent : read_number 1 [] ≡ stop_at fault.Short 1
  pub cut_off : read_number 2 (128 ∷ []) ≡ stop_at fault.Short 2
  pub followed : read_number 4 (172 ∷ 2 ∷ 7 ∷ []) ≡ got 300 (7 ∷ [])
  pub too_large : read_number 7 (255 ∷ 255 ∷ 255 ∷ 255 ∷ 16 ∷ []) ≡ stop_at fault.Number 2
  pub no_sixth : read_number 5 (128 ∷ 128 ∷ 128 ∷ 128 ∷ 128 ∷ []) ≡ stop_at fault.Number 0
  pub last_zero : read_number 3 (128 ∷ 0 ∷ []) ≡ stop_at fault.Number 1
