-- Watchers as machines over symbols, and the sequences that they want. Assumes nothing.
use Rattle.std.specs.Prelude.{◌≡◌, ℕ, ◌<◌, min, Bool, true, false, cond, not, ◌||◌, List, [], ◌∷◌, ◌++◌, Some, None, Option, ◌==◌, nat_lt}
use Rattle.std.proofs.Common.{lit<, arith}
use Rattle.schema.specs.declared.faults.TheConstants.{STATE_ROWS}
use Rattle.schema.specs.Automata.{Automaton}
use Rattle.search.specs.declared.watcher.TheConstants.{WATCHER_STATES}

-- the state before the first symbol, the state after a symbol, and whether a sequence that led to a
-- state is wanted
pub record Watching : Type 0 where
  pub start : ℕ
  pub after : ℕ → ℕ → ℕ
  pub wants : ℕ → Bool

-- the state before the first symbol and those after a symbol are below n; states and symbols are
-- bytes
pub record WatcherStatesBelow (n : ℕ) (W : Watching) : Type 0 where
  pub start : W.start < n
  pub after : (s b : ℕ) → s < 256 → b < 256 → W.after s b < n

-- the state after a sequence, from a state on
abbrev pub watched : Watching → ℕ → List ℕ → ℕ
watched W s [] = s
watched W s (a ∷ w) = watched W (W.after s a) w

-- the watcher wants the sequence
abbrev pub wanted : Watching → List ℕ → Bool
wanted W w = W.wants (watched W W.start w)

-- every sequence is wanted
abbrev pub anything : Watching
anything = record { start = 0; after = λ s b. 0; wants = λ s. true }

pub anything_low : WatcherStatesBelow 1 anything
anything_low = record { start = lit< tt; after = λ s b fits fits'. lit< tt }

-- 1 once the symbol came, and 0 before
abbrev pub holding : ℕ → Watching
holding a = record { start = 0; after = λ s b. cond (s == 1 || b == a) 1 0; wants = λ s. (s == 1) }

pub holding_low : (a : ℕ) → WatcherStatesBelow 2 (holding a)
holding_low a = record { start = lit< tt; after = λ s b fits fits'. by (s == 1 || b == a) }
  where
    by : (t : Bool) → cond t 1 0 < 2
    by true = lit< tt
    by false = lit< tt

-- the symbol stands in the sequence
abbrev pub Holds : ℕ → List ℕ → Type 0
Holds a w = (u : List ℕ) × (v : List ℕ) × (w ≡ u ++ a ∷ v)

-- the next row, where there is a next state too; STATE_ROWS is gone, and so is what is not below it
abbrev pub row_or_gone : Option ℕ → Option ℕ → ℕ
row_or_gone (Some r) (Some s) = min r STATE_ROWS
row_or_gone (Some r) None = STATE_ROWS
row_or_gone None o = STATE_ROWS

-- the row of state p that the sequence led to, or gone as soon as a symbol has no next row or no
-- next state there; wanted where it is gone, and where the row is none to end at
abbrev pub refusing : Automaton → ℕ → Watching
refusing A p = record {
  start = 0;
  after = λ s b. cond (nat_lt s STATE_ROWS) (row_or_gone (A.step p s b) (A.next p b)) STATE_ROWS;
  wants = λ s. not (nat_lt s STATE_ROWS) || not (A.ends p s);
}

pub refusing_low : (A : Automaton) (p : ℕ) → WatcherStatesBelow WATCHER_STATES (refusing A p)
refusing_low A p = record { start = lit< tt; after = λ s b fits fits'. by (nat_lt s STATE_ROWS) (A.step p s b) (A.next p b) }
  where
    by : (t : Bool) (row state : Option ℕ) → cond t (row_or_gone row state) STATE_ROWS < WATCHER_STATES
    by true (Some r) (Some s) = omega arith
    by true (Some r) None = lit< tt
    by true None state = lit< tt
    by false row state = lit< tt
