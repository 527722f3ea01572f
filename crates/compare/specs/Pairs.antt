-- The list of pairs of states of a work area: what is kept of it at every moment, and what listing
-- one more leaves. Assumes nothing.
use Rattle.std.specs.Prelude.{ℕ, zero, suc, ◌^◌, ◌<◌, Bool, true, false, cond, not, ◌&&◌, ◌||◌, List, [], ◌∷◌, ◌++◌, length, get_or, take, ◌==◌, nat_le, nat_lt, slice_index, slice_index_or}
use Rattle.bits.specs.Bits.{bit}
use Rattle.schema.specs.declared.tables.TheConstants.{STATES}
use Rattle.compare.specs.declared.pairs.Listed.{Listed}
use Rattle.compare.specs.declared.pairs.TheConstants.{PLACES}

-- every number below n passes
unfoldable pub all_below : ℕ → (ℕ → Bool) → Bool
all_below zero test = true
all_below (suc n) test = all_below n test && test n

-- two tests say the same
abbrev pub agree : Bool → Bool → Bool
agree true b = b
agree false b = not b

-- the pair (0, 0), which no pair led to; a slot without an entry holds it too
abbrev pub start : Listed
start = record { first = 0; second = 0; parent = 0; symbol = 0 }

-- the slot is blank
abbrev pub is_blank : Listed → Bool
is_blank e = (e.first == 0 && e.second == 0) && (e.parent == 0 && e.symbol == 0)

-- the entry is of these two states
abbrev pub is_of : ℕ → ℕ → Listed → Bool
is_of p q e = e.first == p && e.second == q

-- the pair stands in the list
abbrev pub listed : List Listed → ℕ → ℕ → Bool
listed [] p q = false
listed (e ∷ es) p q = is_of p q e || listed es p q

-- the list with one pair more behind the others, unless its two states are listed
abbrev pub with_pair : List Listed → Listed → List Listed
with_pair es e = cond (listed es e.first e.second) es (es ++ e ∷ [])

-- an entry can stand at place i: its states lie inside the two counts, and the pair that led to it
-- stands earlier; the first was led to by none
abbrev pub fits : ℕ → ℕ → ℕ → Listed → Bool
fits n m i e = (nat_lt e.first n && nat_lt e.second m) && (i == 0 || nat_lt e.parent i)

-- what listing a pair leaves: where it can stand behind the others, the list with it, and else the
-- list as it was
abbrev pub after_listing : ℕ → ℕ → List Listed → Listed → List Listed
after_listing n m es e = cond (fits n m (length es) e) (with_pair es e) es

-- every entry can stand at its place
unfoldable pub all_fit : ℕ → ℕ → List Listed → Bool
all_fit n m es = all_below (length es) (λ i. fits n m i (slice_index_or es i start))

-- no entry has the two states of an earlier one
unfoldable pub none_twice : List Listed → Bool
none_twice es =
    all_below (length es) (λ i. not (listed (take i es) (get_or es i start).first (get_or es i start).second))

-- bit q of the mask at p says whether the pair is listed
unfoldable pub bits_say : List ℕ → List Listed → Bool
bits_say bits es =
    length bits == STATES
    && all_below STATES (λ p.
    nat_lt (slice_index bits p) (2 ^ 64)
    && all_below STATES (λ q. agree (bit (slice_index bits p) q) (listed es p q)))

-- from place k on every slot is blank
unfoldable pub blank_from : ℕ → List Listed → Bool
blank_from k slots =
    length slots == PLACES && all_below PLACES (λ i. nat_lt i k || is_blank (slice_index_or slots i start))

-- what is kept at every moment, for n states of the first schema, m of the second, and k entries
unfoldable pub kept_pairs : ℕ → ℕ → List Listed → ℕ → List ℕ → Bool
kept_pairs n m slots k bits =
    ((nat_le n STATES && nat_le m STATES) && nat_le k PLACES)
    && ((all_fit n m (take k slots) && none_twice (take k slots))
    && (bits_say bits (take k slots) && blank_from k slots))

-- `fits` in plain facts
pub record Fits (n m i : ℕ) (e : Listed) : Type 0 where
  pub first_inside : e.first < n
  pub second_inside : e.second < m
  pub led : 0 < i → e.parent < i
