-- The listed pairs: each is an entry, and there are no more than 16 for each state of the watcher.
-- Assumes nothing.
use Rattle.std.proofs.Common.{◌≡◌, ℕ, ◌+◌, ◌*◌, ◌/◌, ◌%◌, ◌<◌, ◌≤◌, Bool, true, false, ◌&&◌, ◌||◌, eqb, ltb, List, [], ◌∷◌, ◌++◌, length, get_or, set, Some, sym, refl, ap, ◌∙◌, ⊎_elim, arith}
use Rattle.std.specs.List.{slice_get}
use Rattle.std.proofs.lemmas.Nat.{mul-add-lt, div-mul-add, mod-mul-add}
use Rattle.std.proofs.lemmas.List.{get_or-set_other, get_or-set_same, length_push}
use Rattle.std.proofs.lemmas.Bool.{and_from, and_parts, both_ways, cases_eq, eq-eqb, eqb-true, lt-ltb, ne_eqb, or_cases, or_left, or_right}
use Rattle.bits.specs.Bits.{bit}
use Rattle.bits.specs.Below.{count_below}
use Rattle.bits.proofs.Counting.{count_le, count_grows}
use Rattle.search.specs.declared.visited.Visited.{Visited}
use Rattle.search.specs.declared.pairs.RowPair.{RowPair}
use Rattle.search.specs.Visits.{is_visited}
use Rattle.search.proofs.Places.{nth_kept, nth_new}

-- how many numbers below n pass
unfoldable pub passing : ℕ → (ℕ → Bool) → ℕ
passing n test = count_below n test

passing_le : (n : ℕ) (test : ℕ → Bool) → passing n test ≤ n
unfolding passing
passing_le = count_le

passing_grows : (test more : ℕ → Bool) → ((i : ℕ) → test i ≡ true → more i ≡ true) → (n j : ℕ) → j < n → test j ≡ false → more j ≡ true → passing n test < passing n more
unfolding passing
passing_grows = count_grows

-- the pairs of a row and one of so many states in turn: is each listed?
abbrev cell : ℕ → Visited → ℕ → Bool
cell states l n = is_visited l (n / states) (n % states)

-- the entry of a pair
pub record EntryOf (es : List RowPair) (r s : ℕ) : Type 0 where
  pub at : ℕ
  pub entry : RowPair
  pub is : slice_get es at ≡ Some entry
  pub row : entry.row ≡ r
  pub watch : entry.watch ≡ s

-- each listed pair is an entry's, and there are no more entries than listed pairs
pub record Noted (states : ℕ) (l : Visited) (es : List RowPair) : Type 0 where
  pub seen : (r s : ℕ) → is_visited l r s ≡ true → EntryOf es r s
  pub few : length es ≤ passing (16 * states) (cell states l)

pub noted_few : (states : ℕ) (l : Visited) (es : List RowPair) → Noted states l es → length es ≤ 16 * states
noted_few states l es noted = omega (arith, noted.few, passing_le (16 * states) (cell states l))

-- one pair more, which was not listed
module _ (states : ℕ) (l l' : Visited) (es : List RowPair) (p : RowPair) (noted : Noted states l es) (low : p.row < 16) (narrow : p.watch < states) (new : is_visited l p.row p.watch ≡ false) (listed : (r s : ℕ) → is_visited l' r s ≡ (is_visited l r s || (eqb p.row r && eqb p.watch s))) where
  abbrev its_cell : ℕ
  its_cell = p.row * states + p.watch

  more_cells : passing (16 * states) (cell states l) < passing (16 * states) (cell states l')
  more_cells =
      passing_grows (cell states l) (cell states l') (λ i h. listed (i / states) (i % states) ∙ or_left _ _ h) (16 * states) its_cell (omega (arith, mul-add-lt p.row states p.watch 16 low narrow))
      (at_cell l ∙ new)
      (at_cell l' ∙ listed p.row p.watch ∙ or_right _ _ (and_from _ _ (eq-eqb p.row p.row refl) (eq-eqb p.watch p.watch refl)))
    where
      at_cell : (t : Visited) → cell states t its_cell ≡ is_visited t p.row p.watch
      at_cell t = ap (λ (r : ℕ). is_visited t r (its_cell % states)) (div-mul-add p.row states p.watch narrow) ∙ ap (is_visited t p.row) (mod-mul-add p.row states p.watch narrow)

  -- so there was room for it
  pub room_left : length es < 16 * states
  room_left = omega (arith, noted.few, more_cells, passing_le (16 * states) (cell states l'))

  pub noted_more : Noted states l' (es ++ p ∷ [])
  noted_more =
      record {
        seen = λ r s h.
            ⊎_elim
            (λ old. let e = noted.seen r s old in record { at = e.at; entry = e.entry; is = nth_kept p es e.at e.entry e.is; row = e.row; watch = e.watch })
            (λ same.
            let parts = and_parts (eqb p.row r) (eqb p.watch s) same in
            record { at = length es; entry = p; is = nth_new p es; row = eqb-true p.row r parts.0; watch = eqb-true p.watch s parts.1 })
            (or_cases (is_visited l r s) _ (sym (listed r s) ∙ h));
        few = omega (arith, noted.few, more_cells, length_push es p);
      }

-- before anything is listed
pub nothing_noted : (states : ℕ) (l : Visited) → ((r s : ℕ) → is_visited l r s ≡ false) → Noted states l []
nothing_noted states l none = record { seen = λ r s h. absurd (both_ways (is_visited l r s) (none r s) h); few = omega arith }

-- the mask of a row has one member more
pub listed_more : (table : List ℕ) (row watch mask : ℕ) → row < length table → watch < 64 → ((i : ℕ) → bit mask i ≡ (bit (get_or table row 0) i || (ltb watch 64 && eqb watch i))) → (r s : ℕ) → bit (get_or (set table row mask) r 0) s ≡ (bit (get_or table r 0) s || (eqb row r && eqb watch s))
listed_more table row watch mask inside low adds r s = ⊎_elim here elsewhere (cases_eq row r)
  where
    here : row ≡ r → bit (get_or (set table row mask) r 0) s ≡ (bit (get_or table r 0) s || (eqb row r && eqb watch s))
    here same =
        ap (λ (n : ℕ). bit (get_or (set table row mask) n 0) s) (sym same) ∙ ap (λ (n : ℕ). bit n s) (get_or-set_same table row mask 0 inside) ∙ adds s
        ∙ ap (λ (b : Bool). bit (get_or table row 0) s || (b && eqb watch s)) (lt-ltb watch 64 low ∙ sym (eq-eqb row r same)) ∙ ap (λ (n : ℕ). bit (get_or table n 0) s || (eqb row r && eqb watch s)) same

    elsewhere : (row ≡ r → ⊥) → bit (get_or (set table row mask) r 0) s ≡ (bit (get_or table r 0) s || (eqb row r && eqb watch s))
    elsewhere apart =
        let other : r ≡ row → ⊥ = λ e. apart (sym e) in
        ap (λ (n : ℕ). bit n s) (get_or-set_other table row r mask 0 other) ∙ or_false (bit (get_or table r 0) s) ∙ sym (ap (λ (b : Bool). bit (get_or table r 0) s || (b && eqb watch s)) (ne_eqb row r apart))
      where
        or_false : (b : Bool) → b ≡ (b || false)
        or_false true = refl
        or_false false = refl
