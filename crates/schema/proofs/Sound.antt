-- What tables without a fault keep: states lead to states, and rows to rows of the same state.
-- Assumes nothing.
use Rattle.std.proofs.Common.{◌≡◌, ℕ, zero, suc, ◌<◌, Bool, true, false, cond, ◌||◌, eqb, ltb, List, [], ◌∷◌, Some, None, Option, sym, refl, ◌∙◌, subst, ⊎_elim, arith}
use Rattle.std.specs.Option.{option_map}
use Rattle.std.proofs.lemmas.Option.{none-some, same_Some}
use Rattle.std.proofs.lemmas.Bool.{both_ways, cases_Bool, cases_lt, cond-true, cond-false, ltb-true, not-false, or_cases, or_parts}
use Rattle.refusal.specs.declared.fault.Fault.TheVariants.{State, Row}
use Rattle.refusal.specs.Order.{first_of}
use Rattle.schema.specs.Automata.{Automaton}
use Rattle.schema.specs.Below.{some_below, lowest}
use Rattle.schema.specs.Faults.{outside, stray, at_lowest, state_wrong, row_wrong, line_wrong, size_fault, faulty}
use Rattle.schema.specs.Tables.{Tables, entry, automaton, transition_byte, row_count, row_byte}
use Rattle.schema.proofs.Sizes.{Within, inside, sound_tables}

-- nothing was found, so nothing is there
pub some_not_none : {X : Type 0} {x : X} → ◌≡◌ {A = Option X} (Some x) None → ⊥
some_not_none {X} {x} e = none-some x (sym e)

pub first_none : {X : Type 0} (o : Option X) (os : List (Option X)) → first_of (o ∷ os) ≡ None → (o ≡ None) × (first_of os ≡ None)
first_none (Some x) os h = absurd (some_not_none h)
first_none None os h = (refl, h)

pub mapped_none : {X Y : Type 0} (f : X → Y) (o : Option X) → option_map f o ≡ None → o ≡ None
mapped_none f (Some x) h = absurd (some_not_none h)
mapped_none f None h = refl

module _ (test : ℕ → Bool) where
  pub lowest_none : (n : ℕ) → lowest n test ≡ None → (i : ℕ) → i < n → test i ≡ false
  lowest_none zero h i low = absurd (omega arith)
  lowest_none (suc n) h i low =
      let parts = first_none (lowest n test) _ h in
      ⊎_elim (λ l. lowest_none n parts.0 i l) (λ g. let last : n ≡ i = omega arith in subst (λ (k : ℕ). test k ≡ false) last (by (test n) (first_none _ [] parts.1).0)) (cases_lt i n)
    where
      by : (b : Bool) → cond b (Some n) None ≡ None → b ≡ false
      by true h = absurd (some_not_none h)
      by false h = refl

  pub some_none : (n : ℕ) → some_below n test ≡ false → (i : ℕ) → i < n → test i ≡ false
  some_none zero h i low = absurd (omega arith)
  some_none (suc n) h i low =
      let parts = or_parts (some_below n test) (test n) h in
      ⊎_elim (λ l. some_none n parts.0 i l) (λ g. let last : n ≡ i = omega arith in subst (λ (k : ℕ). test k ≡ false) last parts.1) (cases_lt i n)

-- what an entry that is not stray says lies below the limit
pub entry_below : (limit b x : ℕ) → stray limit b ≡ false → entry b ≡ Some x → x < limit
entry_below limit b x fine is =
    ⊎_elim
    (λ none. absurd (some_not_none (sym is ∙ cond-true (eqb b 255) None (Some b) none)))
    (λ known.
    let same : b ≡ x = let e = sym (cond-false (eqb b 255) None (Some b) known) ∙ is in same_Some _ _ e in
    ⊎_elim (λ none. absurd (both_ways (eqb b 255) known none)) (λ low. subst (λ (n : ℕ). n < limit) same (ltb-true b limit low)) (or_cases (eqb b 255) (ltb b limit) (not-false (eqb b 255 || ltb b limit) fine)))
    (cases_Bool (eqb b 255))

-- a look-up under a symbol of the schema
pub under : (a symbols b x : ℕ) → cond (ltb a symbols) (entry b) None ≡ Some x → (a < symbols) × (entry b ≡ Some x)
under a symbols b x is =
    ⊎_elim
    (λ inside. (ltb-true a symbols inside, sym (cond-true (ltb a symbols) (entry b) None inside) ∙ is))
    (λ outside. absurd (some_not_none (sym is ∙ cond-false (ltb a symbols) (entry b) None outside)))
    (cases_Bool (ltb a symbols))

pub record Sound (T : Tables) (A : Automaton) : Type 0 where
  pub next_in : (q a s : ℕ) → q < T.states → A.next q a ≡ Some s → s < T.states
  pub rows : (q : ℕ) → q < T.states → Within 1 16 (row_count T q)
  pub step_in : (q r a j : ℕ) → q < T.states → r < row_count T q → A.step q r a ≡ Some j → j < row_count T q
  pub next_symbol : (q a s : ℕ) → A.next q a ≡ Some s → a < T.symbols
  pub step_symbol : (q r a j : ℕ) → A.step q r a ≡ Some j → a < T.symbols

pub sound : (T : Tables) (domains : List (ℕ → Bool)) → faulty T ≡ false → Sound T (automaton T domains)
sound T domains fine =
    let none = first_none (size_fault T) _ (sound_tables T fine) in
    let states = first_none (at_lowest T State) _ none.1 in
    let rows = first_none (at_lowest T Row) _ states.1 in
    let state_fine = λ (q : ℕ) (low : q < T.states). lowest_none (state_wrong T) T.states (mapped_none _ _ states.0) q low in
    let row_fine = λ (q : ℕ) (low : q < T.states). lowest_none (row_wrong T) T.states (mapped_none _ _ rows.0) q low in
    record {
      next_in = λ q a s low is.
          let u = under a T.symbols (transition_byte T q a) s is in
          entry_below T.states (transition_byte T q a) s (some_none (λ a. stray T.states (transition_byte T q a)) T.symbols (state_fine q low) a u.0) u.1;
      rows = λ q low. inside 1 16 (row_count T q) (or_parts _ _ (row_fine q low)).0;
      step_in = λ q r a j low inside is.
          let u = under a T.symbols (row_byte T q r a) j is in
          let lines = (or_parts _ _ (or_parts (outside 1 16 (row_count T q)) _ (row_fine q low)).1).1 in
          let line = some_none (line_wrong T q) (row_count T q) lines r inside in
          entry_below (row_count T q) (row_byte T q r a) j (some_none (λ a. stray (row_count T q) (row_byte T q r a)) T.symbols (or_parts _ _ line).1 a u.0) u.1;
      next_symbol = λ q a s is. (under a T.symbols (transition_byte T q a) s is).0;
      step_symbol = λ q r a j is. (under a T.symbols (row_byte T q r a) j is).0;
    }
