-- The rows of a state of a tested schema, gathered from one of them along the symbols of a set. Assumes nothing.
use Rattle.std.proofs.Common.{◌≡◌, ℕ, ◌<◌, Bool, false, ◌&&◌, ◌||◌, eqb, ltb, [], refl, arith}
use Rattle.bits.specs.Bits.{bit, LowestMember, without}
use Rattle.schema.specs.declared.tested.Tested.{Tested}
use Rattle.schema.specs.Automata.{Automaton}
use Rattle.schema.specs.Meaning.{IsState, meaning, tables_of}
use Rattle.schema.specs.Rows.{AfterEdge, RowEdge, LeadsOver, RowsReachedFrom}
use Rattle.schema.specs.Tables.{sets, row_count}
use Rattle.schema.proofs.Gathering.{Partly, partly_start, partly_more, partly_done, leads_on}
use Rattle.schema.proofs.Sound.{Sound, sound}

module _ {D : Type 0} (holds : D → ℕ → Bool) (t : Tested D) (q symbols from : ℕ) where
  abbrev A : Automaton
  A = meaning holds t

  abbrev set : ℕ → Bool
  set = bit symbols

  -- the rows done lead to rows that were reached
  abbrev pub RowsSoFar : ℕ → ℕ → Type 0
  RowsSoFar = Partly (RowEdge A q set) (LeadsOver A q set from) from (row_count (tables_of t) q)

  module _ (low : IsState t q) where
    abbrev s : Sound (tables_of t) (meaning holds t)
    s = sound (tables_of t) (sets holds t.measured.schema) t.sound

    few : row_count (tables_of t) q < 65
    few = omega (arith, (s.rows q low).to)

    pub rows_start : (one : ℕ) → from < row_count (tables_of t) q → ((i : ℕ) → bit one i ≡ (bit 0 i || (ltb from 64 && eqb from i))) → RowsSoFar one 0
    rows_start =
        partly_start (RowEdge A q set) (LeadsOver A q set from) from (row_count (tables_of t) q) (omega (arith, few)) ([], tt, refl) (λ i a j l so e. leads_on A q set from i a j so e)
        (λ i a j l e. s.step_in q i a j low l e.1)

    pub rows_more : (reached done row done' reached' : ℕ) → RowsSoFar reached done → LowestMember (without (bit reached) (bit done)) row → ((i : ℕ) → bit done' i ≡ (bit done i || (ltb row 64 && eqb row i))) → AfterEdge (RowEdge A q set) row reached reached' → RowsSoFar reached' done'
    rows_more =
        partly_more (RowEdge A q set) (LeadsOver A q set from) from (row_count (tables_of t) q) (omega (arith, few)) ([], tt, refl) (λ i a j l so e. leads_on A q set from i a j so e)
        (λ i a j l e. s.step_in q i a j low l e.1)

    -- where nothing is left to do, just the rows that sequences lead to were reached
    pub rows_done : (reached done : ℕ) → RowsSoFar reached done → ((i : ℕ) → i < 64 → without (bit reached) (bit done) i ≡ false) → RowsReachedFrom A q set from reached
    rows_done reached done so none =
        record {
          start = so.start;
          closed = partly_done (RowEdge A q set) (LeadsOver A q set from) from (row_count (tables_of t) q) (omega (arith, few)) ([], tt, refl) (λ i a j l so e. leads_on A q set from i a j so e)
              (λ i a j l e. s.step_in q i a j low l e.1) reached done so none;
          only = so.only;
        }
