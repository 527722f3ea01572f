-- The law of trimming: what the trimmed tables are good for. Assumes nothing.
use Rattle.std.specs.Prelude.{◌≡◌, ℕ, ◌<◌, Bool, true, ◌&&◌, List, None, Decides}
use Rattle.codec.specs.Trees.{Tree}
use Rattle.schema.specs.Automata.{Automaton, accepts}
use Rattle.schema.specs.Faults.{table_fault}
use Rattle.schema.specs.Permitted.{permit, over}
use Rattle.schema.specs.Tables.{Tables, automaton}
use Rattle.trim.specs.Examples.{SmallTrims}
use Rattle.trim.specs.Kept.{Kept, Used}
use Rattle.trim.specs.Outcome.{OneTrimming}
use Rattle.trim.specs.Trimmed.{new_number, trimmed}

-- over the same domains: the result passes the test of the tables, it accepts exactly the old trees
-- over permitted symbols, the states kept are exactly those bound to some node of some such tree,
-- and so is every state of the result
pub record Trims (T : Tables) (domains : List (ℕ → Bool)) (permitted kept : ℕ → Bool) : Type 0 where
  pub sound : table_fault (trimmed T permitted kept) ≡ None
  pub trees :
      (t : Tree)
      → accepts (automaton (trimmed T permitted kept) domains) 0 t
      ≡ (accepts (automaton T domains) 0 t && over permitted t)
  pub used : (q : ℕ) → Decides (kept q) (Used (automaton T domains) permitted q)
  pub useful :
      (q : ℕ) → q < new_number T permitted kept T.states
      → Used (automaton (trimmed T permitted kept) domains) (λ _. true) q

pub record TrimmingLaw : Type 0 where
  -- working as if the other symbols had no next state accepts exactly the trees over permitted
  -- symbols; so where that accepts nothing, no accepted tree is over permitted symbols
  pub reading :
      (A : Automaton) (permitted : ℕ → Bool) (q : ℕ) (t : Tree)
      → accepts (permit permitted A) q t ≡ (accepts A q t && over permitted t)
  -- of tables without a fault, where something is kept
  pub trims :
      (T : Tables) (domains : List (ℕ → Bool)) (permitted kept : ℕ → Bool)
      → table_fault T ≡ None
      → ((q : ℕ) → Decides (kept q) (Kept (automaton T domains) permitted q)) → kept 0 ≡ true
      → Trims T domains permitted kept

-- what holds of `trim`, whatever it is handed
pub record TrimLaws : Type 0 where
  pub one : OneTrimming
  pub trimming : TrimmingLaw
  pub examples : SmallTrims
