-- What an item makes of the answer so far: the state that must accept the node that comes next,
-- none once something speaks against the tree. Assumes nothing.
use Rattle.std.specs.Prelude.{◌≡◌, ℕ, ◌<◌, ◌≤◌, Bool, false, Some, None, Ok, Err, Option, Result}
use Rattle.std.specs.Bool.{then_some}
use Rattle.refusal.specs.declared.fault.Fault.TheVariants as fault
use Rattle.refusal.specs.declared.fault.Refusal.{Refusal}
use Rattle.codec.specs.declared.item.Level.{Level}
use Rattle.codec.specs.Items.{Progress, Keeps}
use Rattle.schema.specs.Automata.{Automaton}
use Rattle.checking.specs.declared.cursor.Cursor.{Cursor}

-- the number as a symbol of a schema with so many, or the fault at a place that it is none
abbrev pub Known : ℕ → ℕ → ℕ → Result ℕ Refusal → Type 0
Known symbols x place (Ok a) = (a ≡ x) × (x < symbols)
Known symbols x place (Err e) = (symbols ≤ x) × (e ≡ record { fault = fault.Symbol; place = place })

-- the answer stays where the test passes, and is no otherwise
abbrev pub answer_if : Option ℕ → (ℕ → Bool) → Option ℕ
answer_if (Some q) test = then_some (test q) q
answer_if None test = None

-- the node on top, of state q, goes on at the next row, and the next state must accept the child;
-- where either is lacking the answer is no, and the reader stays as it is
abbrev pub both_known :
    Option ℕ → Option ℕ → ℕ → Progress Cursor → Option ℕ → Progress Cursor → Type 0
both_known (Some r) (Some p) q before answer after =
    (answer ≡ Some p) × Keeps (record { state = q; row = r }) before after
both_known _ _ q before answer after = (answer ≡ None) × (after ≡ before)

-- one symbol more at the node on top, with what it leaves of the answer and the reader; the answer
-- stays no, and without a node on top it is no
abbrev pub TakesSymbol :
    Automaton → ℕ → Option ℕ → Option (Level Cursor) → Progress Cursor → Option ℕ → Progress Cursor
    → Type 0
TakesSymbol A a (Some q) (Some f) before answer after =
    both_known (A.step f.at.state f.at.row a) (A.next f.at.state a) f.at.state before answer after
TakesSymbol A a _ _ before answer after = (answer ≡ None) × (after ≡ before)

-- the children of the node on top may end where they are
abbrev pub may_end : Automaton → Option (Level Cursor) → Bool
may_end A (Some f) = A.ends f.at.state f.at.row
may_end A None = false
