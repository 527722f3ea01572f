-- What checking a tree answers. Assumes nothing.
use Rattle.std.specs.Prelude.{◌≡◌, ℕ, ◌<◌, Bool, List, [], Some, None, Ok, Err, Option, Result}
use Rattle.std.specs.List.{AllByRecursion}
use Rattle.refusal.specs.declared.fault.Refusal.{Refusal}
use Rattle.codec.specs.Encoding.{Encodes}
use Rattle.codec.specs.Numbers.{Got, got, stop}
use Rattle.codec.specs.Reading.{read_all}
use Rattle.codec.specs.Trees.{Tree}
use Rattle.schema.specs.Automata.{Automaton, accepts}
use Rattle.schema.specs.Faults.{table_fault}
use Rattle.schema.specs.Tables.{Tables, automaton}

-- a refusal that was found, or else what the work answers
abbrev pub unless : {X : Type 0} → Option Refusal → Result X Refusal → Result X Refusal
unless (Some e) r = Err e
unless None r = r

-- the tree that was read is accepted by state 0, or not; or the fault of the bytes, which outweighs
-- a no
abbrev pub verdict : Automaton → Got Tree → Result Bool Refusal
verdict A (got t rest) = Ok (accepts A 0 t)
verdict A (stop e) = Err e

-- the tables are tested first; then one tree is read, with nothing after it, and checked
abbrev pub checked : Tables → List (ℕ → Bool) → List ℕ → ℕ → Result Bool Refusal
checked T domains bytes levels =
    unless (table_fault T) (verdict (automaton T domains) (read_all T.symbols levels bytes))

-- over sound tables, the answer is that of a tree exactly where the bytes are its encoding, over
-- the schema's symbols and with a level for each of its levels
pub record ChecksTrees : Type 0 where
  pub answered :
      (T : Tables) (domains : List (ℕ → Bool)) (bytes : List ℕ) (levels : ℕ) (b : Bool)
      → AllByRecursion (λ x. x < 256) bytes → checked T domains bytes levels ≡ Ok b
      → (t : Tree) × Encodes T.symbols levels t bytes [] × (accepts (automaton T domains) 0 t ≡ b)
  pub told :
      (T : Tables) (domains : List (ℕ → Bool)) (bytes : List ℕ) (levels : ℕ) (t : Tree)
      → table_fault T ≡ None → Encodes T.symbols levels t bytes []
      → checked T domains bytes levels ≡ Ok (accepts (automaton T domains) 0 t)
