-- Tables without a fault are those with sound sizes whose states are each without one. Assumes nothing.
use Rattle.std.proofs.Common.{◌≡◌, ℕ, ◌+◌, ◌<◌, ◌≤◌, false, not, eqb, ltb, List, ◌∷◌, None, Option, refl, ap, ◌∙◌}
use Rattle.std.specs.Option.{option_map}
use Rattle.std.proofs.lemmas.Bool.{and_from, cond-false, eq-eqb, le-leb, le-ltb, leb-false, lt-leb, lt-ltb, ltb-false, not_from_true, or_from, or_parts, or_right}
use Rattle.refusal.specs.Order.{first_of}
use Rattle.refusal.specs.declared.fault.Fault.TheVariants.{State, Row, Domain}
use Rattle.schema.specs.Faults.{outside, stray, size_wrong, state_wrong, entries_wrong, line_wrong, row_wrong, domain_wrong, at_lowest, size_fault, table_fault}
use Rattle.schema.specs.Tables.{Tables, transition_byte, domain_number, row_count, first_row, end_mark, row_byte}
use Rattle.schema.proofs.Searches.{none_below, lowest_none_below}
use Rattle.schema.proofs.Sizes.{Within, inside, Sized}
use Rattle.schema.proofs.Sound.{first_none, mapped_none, lowest_none, some_none}

-- what the test asks of a state
pub record Fine (T : Tables) (q : ℕ) : Type 0 where
  pub transitions : (a : ℕ) → a < T.symbols → stray T.states (transition_byte T q a) ≡ false
  pub rows : Within 1 16 (row_count T q)
  pub fits : first_row T q + row_count T q ≤ T.rows
  pub ends : (r : ℕ) → r < row_count T q → end_mark T q r ≤ 1
  pub entries : (r a : ℕ) → r < row_count T q → a < T.symbols → stray (row_count T q) (row_byte T q r a) ≡ false
  pub domain : domain_number T q < T.domains

pub fine : (T : Tables) → table_fault T ≡ None → (q : ℕ) → q < T.states → Fine T q
fine T sound q low =
    let states = first_none (at_lowest T State) _ (first_none (size_fault T) _ sound).1 in
    let rows = first_none (at_lowest T Row) _ states.1 in
    let domains = first_none (at_lowest T Domain) _ rows.1 in
    let row-parts = or_parts (outside 1 16 (row_count T q)) _ (lowest_none (row_wrong T) T.states (mapped_none _ _ rows.0) q low) in
    let place = or_parts (ltb T.rows (first_row T q + row_count T q)) _ row-parts.1 in
    let line = λ (r : ℕ) (inside : r < row_count T q). or_parts (ltb 1 (end_mark T q r)) (entries_wrong T q r) (some_none (line_wrong T q) (row_count T q) place.1 r inside) in
    record {
      transitions = some_none (λ a. stray T.states (transition_byte T q a)) T.symbols (lowest_none (state_wrong T) T.states (mapped_none _ _ states.0) q low);
      rows = inside 1 16 (row_count T q) row-parts.0;
      fits = ltb-false T.rows (first_row T q + row_count T q) place.0;
      ends = λ r inside. ltb-false 1 (end_mark T q r) (line r inside).0;
      entries = λ r a inside in_row. some_none (λ a. stray (row_count T q) (row_byte T q r a)) T.symbols (line r inside).1 a in_row;
      domain = leb-false T.domains (domain_number T q) (lowest_none (domain_wrong T) T.states (mapped_none _ _ domains.0) q low);
    }

first_from : {X : Type 0} (o : Option X) (os : List (Option X)) → o ≡ None → first_of os ≡ None → first_of (o ∷ os) ≡ None
first_from o os none rest = ap (λ k. first_of (k ∷ os)) none ∙ rest

outside_from : (low high n : ℕ) → Within low high n → outside low high n ≡ false
outside_from low high n within = not_from_true _ (and_from _ _ (le-leb low n within.from) (le-leb n high within.to))

unequal_from : (m n : ℕ) → m ≡ n → not (eqb m n) ≡ false
unequal_from m n e = not_from_true _ (eq-eqb m n e)

size_fine : (T : Tables) → Sized T → size_wrong T ≡ false
size_fine T sized =
    or_from _ _
    (or_from _ _ (outside_from 1 32 T.symbols sized.symbols) (or_from _ _ (outside_from 1 64 T.states sized.states) (or_from _ _ (outside_from 1 1024 T.rows sized.rows) (outside_from 1 64 T.domains sized.domains))))
    (or_from _ _ (unequal_from _ _ sized.transitions) (or_from _ _ (unequal_from _ _ sized.state_table) (unequal_from _ _ sized.row_table)))

pub no_fault : (T : Tables) → Sized T → ((q : ℕ) → q < T.states → Fine T q) → table_fault T ≡ None
no_fault T sized each =
    first_from (size_fault T) _ (cond-false (size_wrong T) _ None (size_fine T sized))
    (first_from (at_lowest T State) _ (ap (option_map _) (lowest_none_below (state_wrong T) T.states state_fine))
    (first_from (at_lowest T Row) _ (ap (option_map _) (lowest_none_below (row_wrong T) T.states row_fine))
    (first_from (at_lowest T Domain) _ (ap (option_map _) (lowest_none_below (domain_wrong T) T.states (λ q low. lt-leb T.domains (domain_number T q) (each q low).domain))) refl)))
  where
    state_fine : (q : ℕ) → q < T.states → state_wrong T q ≡ false
    state_fine q low = none_below (λ a. stray T.states (transition_byte T q a)) T.symbols (each q low).transitions

    line_fine : (q r : ℕ) → q < T.states → r < row_count T q → line_wrong T q r ≡ false
    line_fine q r low inside =
        or_from _ _ (le-ltb 1 (end_mark T q r) ((each q low).ends r inside)) (none_below (λ a. stray (row_count T q) (row_byte T q r a)) T.symbols (λ a in_row. (each q low).entries r a inside in_row))

    row_fine : (q : ℕ) → q < T.states → row_wrong T q ≡ false
    row_fine q low =
        or_from _ _ (outside_from 1 16 (row_count T q) (each q low).rows)
        (or_from _ _ (le-ltb T.rows (first_row T q + row_count T q) (each q low).fits) (none_below (line_wrong T q) (row_count T q) (λ r inside. line_fine q r low inside)))

-- an entry below the limit, and none, are not stray
pub stray_below : (limit b : ℕ) → b < limit → stray limit b ≡ false
stray_below limit b low = not_from_true _ (or_right (eqb b 255) _ (lt-ltb b limit low))

pub stray_none : (limit : ℕ) → stray limit 255 ≡ false
stray_none limit = refl
