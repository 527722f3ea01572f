-- There are no more pairs in a list without doubles than pairs of states inside the two counts. Assumes nothing.
use Rattle.std.proofs.Common.{◌≡◌, ℕ, zero, suc, ◌+◌, ◌*◌, ◌/◌, ◌%◌, ◌<◌, ◌≤◌, Bool, false, List, [], ◌∷◌, ◌++◌, length, get_or, take, sym, ap, ◌∙◌, add-one, arith}
use Rattle.std.proofs.lemmas.Nat.{mul-add-lt, div-mul-add, mod-mul-add}
use Rattle.std.proofs.lemmas.List.{take_all, take_more}
use Rattle.std.proofs.lemmas.Bool.{or_left}
use Rattle.bits.specs.Below.{count_below}
use Rattle.bits.proofs.Counting.{count_le, count_grows}
use Rattle.compare.specs.declared.pairs.Listed.{Listed}
use Rattle.compare.specs.Pairs.{start, listed, Fits}
use Rattle.compare.proofs.Standing.{listed_push, listed_new}

module _ (n m : ℕ) where
  -- the pairs of states in turn, row by row: is each listed?
  abbrev cell : List Listed → ℕ → Bool
  cell es c = listed es (c / m) (c % m)

  -- how many pairs of states are listed
  abbrev cells : List Listed → ℕ
  cells es = count_below (m * n) (cell es)

  -- one pair more, which was not listed
  more_cells : (es : List Listed) (e : Listed) → e.first < n → e.second < m → listed es e.first e.second ≡ false → cells es < cells (es ++ e ∷ [])
  more_cells es e inside within new =
      count_grows (cell es) (cell (es ++ e ∷ [])) (λ c h. listed_push es e (c / m) (c % m) ∙ or_left _ _ h) (m * n) (e.first * m + e.second) (mul-add-lt e.first m e.second n inside within)
      (at_cell es ∙ new)
      (at_cell (es ++ e ∷ []) ∙ listed_new es e)
    where
      at_cell : (fs : List Listed) → cell fs (e.first * m + e.second) ≡ listed fs e.first e.second
      at_cell fs = ap (λ (p : ℕ). listed fs p ((e.first * m + e.second) % m)) (div-mul-add e.first m e.second within) ∙ ap (listed fs e.first) (mod-mul-add e.first m e.second within)

  module _ (es : List Listed) (fit : (i : ℕ) → i < length es → Fits n m i (get_or es i start)) (once : (i : ℕ) → i < length es → listed (take i es) (get_or es i start).first (get_or es i start).second ≡ false) where
    counted : (k : ℕ) → k ≤ length es → k ≤ cells (take k es)
    counted zero short = omega arith
    counted (suc k) short =
        let low : k < length es = omega arith in
        let e = get_or es k start in
        let more = more_cells (take k es) e (fit k low).first_inside (fit k low).second_inside (once k low) in
        let longer : take (suc k) es ≡ take k es ++ e ∷ [] = ap (λ (i : ℕ). take i es) (sym (add-one k)) ∙ take_more es k start low in
        omega (arith, counted k (omega arith), more, ap cells longer)

    whole : length es ≤ cells es
    whole = omega (arith, counted (length es) (omega arith), ap cells (take_all (length es) es (omega arith)))

    -- no more entries than pairs of states
    pub few : length es ≤ m * n
    few = omega (arith, whole, count_le (m * n) (cell es))

    -- and one fewer, where a pair is not listed
    pub room : (e : Listed) → e.first < n → e.second < m → listed es e.first e.second ≡ false → length es < m * n
    room e inside within new = omega (arith, whole, more_cells es e inside within new, count_le (m * n) (cell (es ++ e ∷ [])))
