-- What trimming answers, and what it leaves in its three outputs. Assumes nothing.
use Rattle.std.specs.Prelude.{◌≡◌, ℕ, Bool, true, false, ◌&&◌, ◌⊎◌, List, length, Some, None, Ok, Err, Decides, Result, nat_le}
use Rattle.refusal.specs.declared.fault.Fault.TheVariants.{Room, Nothing}
use Rattle.refusal.specs.declared.fault.Refusal.{Refusal}
use Rattle.codec.specs.Numbers.{overwritten}
use Rattle.schema.specs.Faults.{table_fault}
use Rattle.schema.specs.Live.{Live}
use Rattle.schema.specs.Permitted.{permit}
use Rattle.schema.specs.Tables.{Tables, automaton}
use Rattle.trim.specs.Kept.{Kept}
use Rattle.trim.specs.Trimmed.{trimmed}

-- what the three outputs hold
pub record Outputs : Type 0 where
  pub transitions : List ℕ
  pub state_table : List ℕ
  pub row_table : List ℕ

abbrev pub outputs : List ℕ → List ℕ → List ℕ → Outputs
outputs t s r = record { transitions = t; state_table = s; row_table = r }

-- each table has room in its output
abbrev pub tables_fit : Tables → Outputs → Bool
tables_fit T out =
    nat_le (length T.transitions) (length out.transitions)
    && (nat_le (length T.state_table) (length out.state_table)
    && nat_le (length T.row_table) (length out.row_table))

-- each table at its output's front, and what the output held past it
abbrev pub written : Tables → Outputs → Outputs
written T out =
    outputs
    (overwritten out.transitions 0 T.transitions)
    (overwritten out.state_table 0 T.state_table)
    (overwritten out.row_table 0 T.row_table)

module _ (T : Tables) (domains : List (ℕ → Bool)) (permitted : ℕ → Bool) where
  -- the tables have no fault, the test passes just the kept states, and the start is one of them
  pub record KeptSet (kept : ℕ → Bool) : Type 0 where
    pub sound : table_fault T ≡ None
    pub exact : (q : ℕ) → Decides (kept q) (Kept (automaton T domains) permitted q)
    pub start : kept 0 ≡ true

  -- `nothing`, place 0: no tree over the permitted symbols is accepted
  pub record NothingLeft (e : Refusal) : Type 0 where
    pub sound : table_fault T ≡ None
    pub dead : Live (permit permitted (automaton T domains)) 0 → ⊥
    pub is : e ≡ record { fault = Nothing; place = 0 }

  module _ (out : Outputs) where
    -- `room`, place 0: an output is too short
    pub record NoRoom (e : Refusal) : Type 0 where
      pub kept : ℕ → Bool
      pub keeps : KeptSet kept
      pub short : tables_fit (trimmed T permitted kept) out ≡ false
      pub is : e ≡ record { fault = Room; place = 0 }

    -- the counts are answered, and the outputs hold the trimmed tables and what lay past them
    pub record WritesTables (counts : ℕ × ℕ) (out' : Outputs) : Type 0 where
      pub kept : ℕ → Bool
      pub keeps : KeptSet kept
      pub room : tables_fit (trimmed T permitted kept) out ≡ true
      pub states : counts.0 ≡ (trimmed T permitted kept).states
      pub rows : counts.1 ≡ (trimmed T permitted kept).rows
      pub after : out' ≡ written (trimmed T permitted kept) out

    -- the one outcome: the answer, or the first refusal, which leaves the outputs as found
    abbrev pub Outcome : Result (ℕ × ℕ) Refusal → Outputs → Type 0
    Outcome (Ok counts) out' = WritesTables counts out'
    Outcome (Err e) out' = ((table_fault T ≡ Some e) ⊎ (NothingLeft e ⊎ NoRoom e)) × (out' ≡ out)

-- trimming has one answer, and leaves one thing in each output
unfoldable pub OneTrimming : Type 0
OneTrimming =
    (T : Tables) (domains : List (ℕ → Bool)) (permitted : ℕ → Bool) (out : Outputs)
    (r s : Result (ℕ × ℕ) Refusal) (one two : Outputs)
    → Outcome T domains permitted out r one → Outcome T domains permitted out s two
    → (r ≡ s) × (one ≡ two)
