-- What a list of pairs says: its state counts and its listed entries, and what follows from what is
-- kept of it. Assumes nothing.
use Rattle.std.specs.Prelude.{◌≡◌, ℕ, ◌*◌, ◌≤◌, List, length, take, Some}
use Rattle.std.specs.List.{slice_get}
use Rattle.search.specs.Paths.{Links}
use Rattle.compare.specs.declared.pairs.Listed.{Listed}
use Rattle.compare.specs.declared.pairs.Pairs.{Pairs}
use Rattle.compare.specs.Pairs.{Fits}

-- the listed entries, in the order of listing
abbrev pub entries_of : Pairs → List Listed
entries_of p = take p.length p.entries

-- how listed pairs are linked: each to the one that led to it, by the symbol that did
abbrev pub pair_links : Links Listed
pair_links = record { parent = λ e. e.parent; symbol = λ e. e.symbol }

-- the two states of a listed pair
abbrev pub pair_of : Listed → ℕ × ℕ
pair_of e = (e.first, e.second)

-- no more pairs are listed than there are pairs of states
abbrev pub FewPairs : Type 0
FewPairs = (p : Pairs) → length (entries_of p) ≤ p.firsts * p.seconds

-- each entry's states lie inside the counts, and the pair that led to it stands earlier
abbrev pub EntriesFit : Type 0
EntriesFit =
    (p : Pairs) (i : ℕ) (e : Listed) → slice_get (entries_of p) i ≡ Some e → Fits p.firsts p.seconds i e

-- no pair is listed twice: entries with the same states stand at one place
abbrev pub ListedOnce : Type 0
ListedOnce =
    (p : Pairs) (i j : ℕ) (e f : Listed) → slice_get (entries_of p) i ≡ Some e
    → slice_get (entries_of p) j ≡ Some f → e.first ≡ f.first → e.second ≡ f.second → i ≡ j

-- the counts and the listed entries say all: nothing else stays of what was listed before
abbrev pub Determined : Type 0
Determined = (p q : Pairs) → p.firsts ≡ q.firsts → p.seconds ≡ q.seconds → entries_of p ≡ entries_of q → p ≡ q
