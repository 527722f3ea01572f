-- The entries and the slots left of a pile, as parts of its list of slots; and the entry on top.
-- Assumes nothing.
use Rattle.std.proofs.Common.{◌≡◌, ℕ, ◌+◌, ◌-◌, ◌<◌, ◌≤◌, List, [], ◌∷◌, ◌++◌, length, take, drop, set, Some, None, Option, sym, refl, ap, ◌∙◌, arith, take-append-drop, length-set}
use Rattle.std.proofs.Math.Seq.{take-set-lt, set-append_seam}
use Rattle.std.proofs.lemmas.List.{length-append, length-drop, length_push, length-take-le, take-append-le, take_all, take_more, drop-append-le, drop-set-lt, get_or_push}
use Rattle.std.proofs.lemmas.Option.{slice_get-get_or, slice_get_within, get_or_from_slice_get}
use Rattle.std.specs.List.{slice_get}
use Rattle.codec.specs.Piles.{Stack, slots, topmost, Popped, Replaced}

-- the first `count` slots are the entries
abbrev pub stack : {X : Type 0} → List X → ℕ → Stack X
stack all count = record { entries = take count all; free = drop count all }

module _ {X : Type 0} (all : List X) (count : ℕ) (fits : count ≤ length all) where
  many : length (take count all) ≡ count
  many = length-take-le count all fits

  -- with one entry less, its slot is the first one left
  pub popped : (r : Option X) → r ≡ topmost (take count all) → Popped (stack all count) r (stack all (count - 1))
  popped r top =
      let last = ap (λ (n : ℕ). n - 1) (sym many) in
      let within : count - 1 ≤ length (take count all) = omega (arith, many) in
      let parts = sym (take-append-drop count all) in
      record {
        top = top;
        entries = ap (take (count - 1)) parts ∙ take-append-le (count - 1) (take count all) (drop count all) within ∙ ap (λ (n : ℕ). take n (take count all)) last;
        free = ap (drop (count - 1)) parts ∙ drop-append-le (count - 1) (take count all) (drop count all) within ∙ ap (λ (n : ℕ). drop n (take count all) ++ drop count all) last;
      }

  -- the last entry is written over
  pub replaced : (x : X) → 0 < count → Replaced (stack all count) x (stack (set all (count - 1) x) count)
  replaced x some =
      record {
        entries = take-set-lt count all (count - 1) x (omega arith) ∙ ap (λ (n : ℕ). set (take count all) (n - 1) x) (sym many);
        free = drop-set-lt count all (count - 1) x (omega arith);
      }

module _ {X : Type 0} where
  -- entries with a known one on top
  pub topmost_of : (below : List X) (x : X) → topmost (below ++ x ∷ []) ≡ Some x
  topmost_of below x =
      let last : length (below ++ x ∷ []) - 1 ≡ length below = omega (arith, length_push below x) in
      ap (slice_get (below ++ x ∷ [])) last ∙ slice_get-get_or (below ++ x ∷ []) (length below) x (omega (arith, length_push below x)) ∙ ap Some (get_or_push below x x (length below) refl)

  -- entries with one on top are those below it, and the top
  pub top_split : (entries : List X) (x : X) → topmost entries ≡ Some x → entries ≡ take (length entries - 1) entries ++ x ∷ []
  top_split entries x top =
      let low = slice_get_within entries (length entries - 1) x top in
      sym (take_all (length entries - 1 + 1) entries (omega (arith, low))) ∙ take_more entries (length entries - 1) x low
      ∙ ap (λ y. take (length entries - 1) entries ++ y ∷ []) (get_or_from_slice_get entries (length entries - 1) x x top)

  -- without one on top there are none
  pub top_none : (entries : List X) → topmost entries ≡ None → entries ≡ []
  top_none [] top = refl
  top_none (x ∷ xs) top =
      let found = sym top ∙ slice_get-get_or (x ∷ xs) (length (x ∷ xs) - 1) x (omega arith) in
      absurd (let z : ◌≡◌ {A = ℕ} 0 1 = cc in omega arith)

-- a new entry on top of those below
pub over_top : {X : Type 0} (before : Stack X) (below : List X) (x y : X) (after : Stack X) → before.entries ≡ below ++ x ∷ [] → Replaced before y after → after.entries ≡ below ++ y ∷ []
over_top before below x y after split replaced =
    let last : length before.entries - 1 ≡ length below = omega (arith, ap length split ∙ length_push below x) in
    replaced.entries ∙ ap (λ (n : ℕ). set before.entries n y) last ∙ ap (λ l. set l (length below) y) split ∙ set-append_seam below x [] y

pub same_slots : {X : Type 0} (before : Stack X) (y : X) (after : Stack X) → Replaced before y after → slots after ≡ slots before
same_slots before y after replaced =
    omega (arith, ap length replaced.entries ∙ length-set before.entries (length before.entries - 1) y, ap length replaced.free)

pub one_slot : {X : Type 0} (before : Stack X) (r : Option X) (after : Stack X) → Popped before r after → slots after ≡ slots before
one_slot before r after popped =
    let n = length before.entries - 1 in
    omega (
      arith,
      ap length popped.entries ∙ length-take-le n before.entries (omega arith),
      ap length popped.free ∙ length-append (drop n before.entries) before.free,
      length-drop n before.entries,
    )
