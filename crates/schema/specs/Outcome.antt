-- What `live` answers, and that it has one answer. Assumes nothing.
use Rattle.std.specs.Prelude.{◌≡◌, ℕ, Bool, List, Some, None, Ok, Err, Result}
use Rattle.refusal.specs.declared.fault.Refusal.{Refusal}
use Rattle.schema.specs.Examples.{SmallSchemas}
use Rattle.schema.specs.Faults.{table_fault}
use Rattle.schema.specs.Live.{LiveMask}
use Rattle.schema.specs.Tables.{Tables, automaton}

-- the tables have no fault, and the mask is that of their live states; or the fault of the tables
abbrev pub LiveAnswer : Tables → List (ℕ → Bool) → Result ℕ Refusal → Type 0
LiveAnswer T domains (Ok mask) = (table_fault T ≡ None) × LiveMask (automaton T domains) T.states mask
LiveAnswer T domains (Err e) = table_fault T ≡ Some e

-- the live states of a schema have one mask, and its tables one fault
unfoldable pub OneLiveAnswer : Type 0
OneLiveAnswer =
    (T : Tables) (domains : List (ℕ → Bool)) (r s : Result ℕ Refusal)
    → LiveAnswer T domains r → LiveAnswer T domains s → r ≡ s

-- what holds of `live`, whatever it is handed
pub record LiveLaws : Type 0 where
  pub one : OneLiveAnswer
  pub examples : SmallSchemas
