-- What the trimmed tables say of a kept state under its new number. Assumes nothing.
use Rattle.std.proofs.Common.{◌≡◌, ℕ, zero, suc, ◌+◌, ◌*◌, ◌/◌, ◌%◌, ◌<◌, ◌≤◌, Bool, true, false, cond, List, [], length, get_or, sym, refl, ap, ◌∙◌, subst, add-mul, arith}
use native.Mathlib.Nat.{mod-add-div}
use lib.Arith.{digits_lt}
use Rattle.std.proofs.lemmas.Bool.{cond-true}
use Rattle.bits.specs.Below.{sum_below}
use Rattle.schema.specs.Tables.{Tables, transition_byte, state_byte, domain_number, row_count, first_row, row_start, end_mark, row_byte}
use Rattle.trim.specs.Trimmed.{concat_below, new_number, new_transition, new_entry, rows_before, transition_line, state_line, row_line, row_lines, trimmed}
use Rattle.trim.proofs.Joined.{length_joined, joined_step, get_or_piece, length_singles, get_or_singles}

module _ (kept : ℕ → Bool) (line : ℕ → List ℕ) where
  -- the lines of the kept states, each a multiple of one length
  pub lines_length : (f : ℕ → ℕ) (k : ℕ) → ((q : ℕ) → length (line q) ≡ f q * k) → (n : ℕ) → length (concat_below n (λ q. cond (kept q) (line q) [])) ≡ sum_below n (λ q. cond (kept q) (f q) 0) * k
  lines_length f k each n = length_joined (λ q. cond (kept q) (line q) []) (λ q. cond (kept q) (f q) 0) k (λ q. by (kept q) q) n
    where
      by : (b : Bool) (q : ℕ) → length (cond b (line q) []) ≡ cond b (f q) 0 * k
      by true q = each q
      by false q = omega arith

  -- what stands in a kept state's line
  pub lines_at : (n q i j d : ℕ) → q < n → kept q ≡ true → length (concat_below q (λ q. cond (kept q) (line q) [])) ≡ i → j < length (line q) → get_or (concat_below n (λ q. cond (kept q) (line q) [])) (i + j) d ≡ get_or (line q) j d
  lines_at n q i j d low there before inside =
      let here = cond-true (kept q) (line q) [] there in
      get_or_piece (λ q. cond (kept q) (line q) []) n q i j d low before (subst (λ (l : List ℕ). j < length l) (sym here) inside) ∙ ap (λ (l : List ℕ). get_or l j d) here

sum_ones : (n : ℕ) → sum_below n (λ _. 1) ≡ n
sum_ones zero = refl
sum_ones (suc n) = omega (arith, sum_ones n)

module _ (T : Tables) (permitted kept : ℕ → Bool) where
  -- the trimmed tables
  abbrev U : Tables
  U = trimmed T permitted kept

  -- a state's new number
  abbrev number : ℕ → ℕ
  number = new_number T permitted kept

  pub transitions_length : (n : ℕ) → length (concat_below n (λ q. cond (kept q) (transition_line T permitted kept q) [])) ≡ number n * T.symbols
  transitions_length = lines_length kept (transition_line T permitted kept) (λ _. 1) T.symbols (λ q. omega (arith, length_singles (new_transition T permitted kept q) T.symbols))

  pub states_length : (n : ℕ) → length (concat_below n (λ q. cond (kept q) (state_line T permitted kept q) [])) ≡ 4 * number n
  states_length n = omega (arith, lines_length kept (state_line T permitted kept) (λ _. 1) 4 (λ q. omega arith) n)

  pub row_length : (q r : ℕ) → length (row_line T permitted kept q r) ≡ T.symbols + 1
  row_length q r = omega (arith, length_singles (new_entry T permitted kept q r) T.symbols)

  -- a state's first rows
  pub first_length : (q n : ℕ) → length (concat_below n (row_line T permitted kept q)) ≡ n * (T.symbols + 1)
  first_length q n = length_joined (row_line T permitted kept q) (λ _. 1) (T.symbols + 1) (λ r. omega (arith, row_length q r)) n ∙ ap (λ (k : ℕ). k * (T.symbols + 1)) (sum_ones n)

  -- a row has room behind those before it
  pub row_room : (q r : ℕ) → r < row_count T q → r * (T.symbols + 1) + (T.symbols + 1) ≤ length (row_lines T permitted kept q)
  row_room q r low = omega (arith, joined_step (row_line T permitted kept q) (row_count T q) r low, first_length q r, row_length q r)

  pub rows_length : (n : ℕ) → length (concat_below n (λ q. cond (kept q) (row_lines T permitted kept q) [])) ≡ rows_before T permitted kept n * (T.symbols + 1)
  rows_length = lines_length kept (row_lines T permitted kept) (row_count T) (T.symbols + 1) (λ q. first_length q (row_count T q))

  module _ (q : ℕ) (low : q < T.states) (there : kept q ≡ true) where
    pub transition_new : (a : ℕ) → a < T.symbols → transition_byte U (number q) a ≡ new_transition T permitted kept q a
    transition_new a inside =
        lines_at kept (transition_line T permitted kept) T.states q (number q * T.symbols) a 255 low there (transitions_length q) (omega (arith, length_singles (new_transition T permitted kept q) T.symbols))
        ∙ get_or_singles (new_transition T permitted kept q) T.symbols a 255 inside

    pub state_new : (i : ℕ) → i < 4 → state_byte U (number q) i ≡ get_or (state_line T permitted kept q) i 0
    state_new i inside = lines_at kept (state_line T permitted kept) T.states q (4 * number q) i 0 low there (states_length q) (omega arith)

    pub domain_new : domain_number U (number q) ≡ domain_number T q
    domain_new = state_new 0 (omega arith)

    pub row_count_new : row_count U (number q) ≡ row_count T q
    row_count_new = state_new 1 (omega arith)

    pub first_row_new : first_row U (number q) ≡ rows_before T permitted kept q
    first_row_new = two_bytes _ _ (rows_before T permitted kept q) (state_new 2 (omega arith)) (state_new 3 (omega arith))
      where
        two_bytes : (a b n : ℕ) → a ≡ n % 256 → b ≡ n / 256 → a + 256 * b ≡ n
        two_bytes a b n low high = omega (arith, mod-add-div n 256)

    -- what stands in one of the state's rows
    pub row_new : (r j d : ℕ) → r < row_count T q → j < T.symbols + 1 → get_or U.row_table (row_start U (number q) r + j) d ≡ get_or (row_line T permitted kept q r) j d
    row_new r j d inside in_row =
        let start = ap (λ (k : ℕ). (k + r) * (T.symbols + 1)) first_row_new in
        let place = two_parts _ (rows_before T permitted kept q) start in
        let in_rows : r * (T.symbols + 1) + j < length (row_lines T permitted kept q) = subst (λ (k : ℕ). r * (T.symbols + 1) + j < k) (sym (first_length q (row_count T q))) (digits_lt inside in_row) in
        ap (λ (k : ℕ). get_or U.row_table k d) place
        ∙ lines_at kept (row_lines T permitted kept) T.states q (rows_before T permitted kept q * (T.symbols + 1)) (r * (T.symbols + 1) + j) d low there (rows_length q) in_rows
        ∙ get_or_piece (row_line T permitted kept q) (row_count T q) r (r * (T.symbols + 1)) j d inside (first_length q r) (omega (arith, row_length q r))
      where
        two_parts : (start before : ℕ) → start ≡ (before + r) * (T.symbols + 1) → start + j ≡ before * (T.symbols + 1) + (r * (T.symbols + 1) + j)
        two_parts start before is = omega (arith, add-mul before r (T.symbols + 1))

    pub end_mark_new : (r : ℕ) → r < row_count T q → end_mark U (number q) r ≡ end_mark T q r
    end_mark_new r inside = ap (λ (k : ℕ). get_or U.row_table k 0) (no_more _) ∙ row_new r 0 0 inside (omega arith)
      where
        no_more : (k : ℕ) → k ≡ k + 0
        no_more k = omega arith

    pub row_byte_new : (r a : ℕ) → r < row_count T q → a < T.symbols → row_byte U (number q) r a ≡ new_entry T permitted kept q r a
    row_byte_new r a inside in_row =
        ap (λ (k : ℕ). get_or U.row_table k 255) (one_more (row_start U (number q) r)) ∙ row_new r (suc a) 255 inside (omega arith)
        ∙ get_or_singles (new_entry T permitted kept q r) T.symbols a 255 in_row
      where
        one_more : (k : ℕ) → k + 1 + a ≡ k + suc a
        one_more k = omega arith
