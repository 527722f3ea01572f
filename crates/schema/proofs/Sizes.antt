-- What the test of counts and lengths tells. Assumes nothing.
use Rattle.std.proofs.Common.{◌≡◌, ℕ, ◌+◌, ◌*◌, ◌≤◌, Bool, true, false, cond, not, ◌&&◌, eqb, leb, [], ◌∷◌, length, is_some, Some, None, Option, sym, refl}
use Rattle.refusal.specs.declared.fault.Refusal.{Refusal}
use Rattle.refusal.specs.Order.{first_of}
use Rattle.refusal.specs.declared.fault.Fault.TheVariants.{Size, State, Row, Domain}
use Rattle.std.proofs.lemmas.Option.{none-some}
use Rattle.std.proofs.lemmas.Bool.{true≢false, or_parts, not-false, and_parts, leb-true, eqb-true}
use Rattle.schema.specs.Faults.{outside, size_wrong, at_lowest, table_fault, faulty}
use Rattle.schema.specs.Tables.{Tables}

pub record Within (low high n : ℕ) : Type 0 where
  pub from : low ≤ n
  pub to : n ≤ high

pub inside : (low high n : ℕ) → outside low high n ≡ false → Within low high n
inside low high n h = let p = and_parts _ _ (not-false (leb low n && leb n high) h) in record { from = leb-true low n p.0; to = leb-true n high p.1 }

same : (m n : ℕ) → not (eqb m n) ≡ false → m ≡ n
same m n h = eqb-true m n (not-false (eqb m n) h)

-- each count is inside its limits, and each table as long as the counts make it
pub record Sized (T : Tables) : Type 0 where
  pub symbols : Within 1 32 T.symbols
  pub states : Within 1 64 T.states
  pub rows : Within 1 1024 T.rows
  pub domains : Within 1 64 T.domains
  pub transitions : length T.transitions ≡ T.states * T.symbols
  pub state_table : length T.state_table ≡ 4 * T.states
  pub row_table : length T.row_table ≡ T.rows * (T.symbols + 1)

pub sized : (T : Tables) → size_wrong T ≡ false → Sized T
sized T h =
    let all = or_parts _ _ h in
    let a = or_parts _ _ all.0 in
    let b = or_parts _ _ a.1 in
    let c = or_parts _ _ b.1 in
    let d = or_parts _ _ all.1 in
    let e = or_parts _ _ d.1 in
    record {
      symbols = inside 1 32 T.symbols a.0;
      states = inside 1 64 T.states b.0;
      rows = inside 1 1024 T.rows c.0;
      domains = inside 1 64 T.domains c.1;
      transitions = same _ _ d.0;
      state_table = same _ _ e.0;
      row_table = same _ _ e.1;
    }

-- tables without a fault have sound counts and lengths
pub sound_size : (T : Tables) → table_fault T ≡ None → size_wrong T ≡ false
sound_size T sound = by (size_wrong T) sound
  where
    by : (wrong : Bool) → first_of (cond wrong (Some (record { fault = Size; place = 0 })) None ∷ at_lowest T State ∷ at_lowest T Row ∷ at_lowest T Domain ∷ []) ≡ None → wrong ≡ false
    by true h = absurd (none-some _ (sym h))
    by false h = refl

-- tables that are not faulty have no fault
pub sound_tables : (T : Tables) → faulty T ≡ false → table_fault T ≡ None
sound_tables T sound = by (table_fault T) sound
  where
    by : (o : Option Refusal) → is_some o ≡ false → o ≡ None
    by (Some e) h = absurd (true≢false h)
    by None h = refl
