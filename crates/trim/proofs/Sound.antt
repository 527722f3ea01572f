-- The trimmed tables pass the test of the tables. Assumes nothing.
use Rattle.std.proofs.Common.{◌≡◌, ℕ, ◌+◌, ◌*◌, ◌<◌, ◌≤◌, Bool, true, false, cond, eqb, Some, None, sym, ap, ◌∙◌, subst, ⊎_elim, arith}
use Rattle.std.proofs.lemmas.Option.{same_Some}
use Rattle.std.proofs.lemmas.Bool.{and_parts, cases_Bool, cond-false, cond-true, ne_eqb}
use Rattle.bits.proofs.Counting.{count_le}
use Rattle.schema.specs.Faults.{stray, table_fault}
use Rattle.schema.specs.Tables.{Tables, entry, transition_byte, row_count, row_byte}
use Rattle.schema.proofs.Bound.{passed}
use Rattle.schema.proofs.Sizes.{Within, Sized, sized, sound_size}
use Rattle.schema.proofs.Sound.{some_not_none}
use Rattle.trim.specs.Trimmed.{new_number, transition_stays, new_transition, new_entry, rows_before, trimmed}
use Rattle.trim.proofs.Bytes.{transitions_length, states_length, rows_length, transition_new, domain_new, row_count_new, first_row_new, end_mark_new, row_byte_new}
use Rattle.trim.proofs.Faultless.{Fine, fine, no_fault, stray_below, stray_none}
use Rattle.trim.proofs.Joined.{sum_step, sum_at_most}
use Rattle.trim.proofs.Numbers.{number_below, numbered}

-- what an entry says is its byte
pub entry_is : (b x : ℕ) → entry b ≡ Some x → b ≡ x
entry_is b x is = by (eqb b 255) is
  where
    by : (none : Bool) → cond none None (Some b) ≡ Some x → b ≡ x
    by true h = absurd (some_not_none (sym h))
    by false h = same_Some _ _ h

pub entry_below_255 : (b : ℕ) → b < 255 → entry b ≡ Some b
entry_below_255 b low = cond-false (eqb b 255) None (Some b) (ne_eqb b 255 (λ e. omega arith))

-- what a transition that stays tells
pub record Stays (T : Tables) (permitted kept : ℕ → Bool) (q a : ℕ) : Type 0 where
  pub allowed : permitted a ≡ true
  pub leads : entry (transition_byte T q a) ≡ Some (transition_byte T q a)
  pub there : kept (transition_byte T q a) ≡ true

pub stays_tells : (T : Tables) (permitted kept : ℕ → Bool) (q a : ℕ) → transition_stays T permitted kept q a ≡ true → Stays T permitted kept q a
stays_tells T permitted kept q a h =
    let parts = and_parts (permitted a) _ h in
    let to = passed (entry (transition_byte T q a)) kept parts.1 in
    let same = entry_is (transition_byte T q a) to.0 to.1 in
    record { allowed = parts.0; leads = to.1 ∙ ap Some (sym same); there = subst (λ (s : ℕ). kept s ≡ true) (sym same) to.2 }

-- the rows of a kept state
abbrev counted : (T : Tables) (kept : ℕ → Bool) → ℕ → ℕ
counted T kept q = cond (kept q) (row_count T q) 0

module _ (T : Tables) (permitted kept : ℕ → Bool) (sound : table_fault T ≡ None) where
  -- the trimmed tables
  abbrev U : Tables
  U = trimmed T permitted kept

  -- a state's new number
  abbrev number : ℕ → ℕ
  number = new_number T permitted kept

  few_rows : (q : ℕ) → q < T.states → counted T kept q ≤ 16
  few_rows q low = by (kept q) (fine T sound q low).rows.to
    where
      by : (b : Bool) → row_count T q ≤ 16 → cond b (row_count T q) 0 ≤ 16
      by true h = h
      by false h = omega arith

  pub rows_upto : (n : ℕ) → n ≤ T.states → rows_before T permitted kept n ≤ n * 16
  rows_upto n upto = sum_at_most (counted T kept) n 16 (λ q low. few_rows q (omega arith))

  pub rows_few : (n : ℕ) → n ≤ T.states → rows_before T permitted kept n ≤ 1024
  rows_few n upto = few _ (rows_upto n upto) (sized T (sound_size T sound)).states.to
    where
      few : (rows : ℕ) → rows ≤ n * 16 → T.states ≤ 64 → rows ≤ 1024
      few rows most limit = omega arith

  pub number_few : (n : ℕ) → n ≤ T.states → number n ≤ 64
  number_few n upto = limit _ (count_le n kept) (sized T (sound_size T sound)).states.to
    where
      limit : (m : ℕ) → m ≤ n → T.states ≤ 64 → m ≤ 64
      limit m most few = omega arith

  -- the kept states are states, 0 among them
  module _ (inside : (q : ℕ) → kept q ≡ true → q < T.states) (first : kept 0 ≡ true) where
    counted_is : (q : ℕ) → kept q ≡ true → counted T kept q ≡ row_count T q
    counted_is q there = cond-true (kept q) (row_count T q) 0 there

    rows_some : 1 ≤ rows_before T permitted kept T.states
    rows_some = some _ _ _ (sum_step (counted T kept) T.states 0 (inside 0 first)) (counted_is 0 first) (fine T sound 0 (inside 0 first)).rows.from
      where
        some : (all one rows : ℕ) → 0 + one ≤ all → one ≡ rows → 1 ≤ rows → 1 ≤ all
        some all one rows step is from = omega arith

    pub trimmed_sized : Sized U
    trimmed_sized =
        let old = sized T (sound_size T sound) in
        record {
          symbols = old.symbols;
          states = record { from = omega (arith, number_below kept T.states 0 (inside 0 first) first); to = number_few T.states (omega arith) };
          rows = record { from = rows_some; to = rows_few T.states (omega arith) };
          domains = old.domains;
          transitions = transitions_length T permitted kept T.states;
          state_table = states_length T permitted kept T.states;
          row_table = rows_length T permitted kept T.states;
        }

    transition_fine : (q a : ℕ) → stray (number T.states) (new_transition T permitted kept q a) ≡ false
    transition_fine q a =
        ⊎_elim
        (λ yes.
        let told = stays_tells T permitted kept q a yes in
        subst (λ (b : ℕ). stray (number T.states) b ≡ false) (sym (cond-true (transition_stays T permitted kept q a) (number (transition_byte T q a)) 255 yes))
        (stray_below _ _ (number_below kept T.states (transition_byte T q a) (inside (transition_byte T q a) told.there) told.there)))
        (λ no. subst (λ (b : ℕ). stray (number T.states) b ≡ false) (sym (cond-false (transition_stays T permitted kept q a) (number (transition_byte T q a)) 255 no)) (stray_none (number T.states)))
        (cases_Bool (transition_stays T permitted kept q a))

    entry_fine : (q r a limit : ℕ) → stray limit (row_byte T q r a) ≡ false → stray limit (new_entry T permitted kept q r a) ≡ false
    entry_fine q r a limit old = by (transition_stays T permitted kept q a)
      where
        by : (b : Bool) → stray limit (cond b (row_byte T q r a) 255) ≡ false
        by true = old
        by false = stray_none limit

    state_fine : (q : ℕ) → kept q ≡ true → Fine U (number q)
    state_fine q there =
        let low = inside q there in
        let old = fine T sound q low in
        let count = row_count_new T permitted kept q low there in
        record {
          transitions = λ a in_row. subst (λ (b : ℕ). stray (number T.states) b ≡ false) (sym (transition_new T permitted kept q low there a in_row)) (transition_fine q a);
          rows = subst (λ (n : ℕ). Within 1 16 n) (sym count) old.rows;
          fits = in_table _ _ _ _ _ _ (first_row_new T permitted kept q low there) count (counted_is q there) (sum_step (counted T kept) T.states q low);
          ends = λ r in_rows. let old_row : r < row_count T q = subst (λ (n : ℕ). r < n) count in_rows in subst (λ (b : ℕ). b ≤ 1) (sym (end_mark_new T permitted kept q low there r old_row)) (old.ends r old_row);
          entries = λ r a in_rows in_row.
              let old_row : r < row_count T q = subst (λ (n : ℕ). r < n) count in_rows in
              subst (λ (n : ℕ). stray n (row_byte U (number q) r a) ≡ false) (sym count)
              (subst (λ (b : ℕ). stray (row_count T q) b ≡ false) (sym (row_byte_new T permitted kept q low there r a old_row in_row)) (entry_fine q r a (row_count T q) (old.entries r a old_row in_row)));
          domain = subst (λ (n : ℕ). n < T.domains) (sym (domain_new T permitted kept q low there)) old.domain;
        }
      where
        in_table : (first before count old one all : ℕ) → first ≡ before → count ≡ old → one ≡ old → before + one ≤ all → first + count ≤ all
        in_table first before count old one all a b c d = omega arith

    pub trimmed_sound : table_fault U ≡ None
    trimmed_sound =
        no_fault U trimmed_sized
        (λ m low. let old = numbered kept T.states m low in subst (λ (n : ℕ). Fine U n) old.is (state_fine old.state old.there))
