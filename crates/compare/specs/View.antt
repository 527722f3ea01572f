-- The view of a work area, and what begins and ends a comparison. Assumes nothing.
use Rattle.std.specs.Prelude.{ℕ, ◌+◌, Bool, true, false, cond, not, ◌&&◌, List, [], ◌∷◌, ◌==◌}
use Rattle.schema.specs.Tables.{Tables}
use Rattle.compare.specs.declared.area.Area.{Area}
use Rattle.compare.specs.declared.pairs.Listed.{Listed}
use Rattle.compare.specs.declared.phase.Phase.{Phase}
use Rattle.compare.specs.declared.phase.Phase.TheVariants.{Free, Running, Ready}
use Rattle.compare.specs.declared.phase.Verdict.TheVariants.{Included}
use Rattle.compare.specs.Listing.{entries_of}
use Rattle.compare.specs.Pairs.{start}

-- number and serial; the phase; the symbol count and the two state counts, as noted; the listed
-- pairs, and how many are examined
pub record View : Type 0 where
  pub number : ℕ
  pub serial : ℕ
  pub phase : Phase
  pub symbols : ℕ
  pub firsts : ℕ
  pub seconds : ℕ
  pub pairs : List Listed
  pub examined : ℕ

-- the view of an area
abbrev pub view : Area → View
view a = record {
  number = a.number;
  serial = a.serial;
  phase = a.phase;
  symbols = a.symbols;
  firsts = a.pairs.firsts;
  seconds = a.pairs.seconds;
  pairs = entries_of a.pairs;
  examined = a.examined;
}

-- an area without a comparison: nothing is noted, listed or examined
abbrev pub free : ℕ → ℕ → View
free number serial = record {
  number = number;
  serial = serial;
  phase = Free;
  symbols = 0;
  firsts = 0;
  seconds = 0;
  pairs = [];
  examined = 0;
}

-- a comparison of two schemas begins: the serial is one higher, the counts are noted, nothing
-- earlier stays; (0, 0) is listed where the first schema's state 0 is live, and otherwise the area
-- is ready with included
abbrev pub begun : View → Tables → Tables → Bool → View
begun w T U live = record {
  number = w.number;
  serial = w.serial + 1;
  phase = cond live Running (Ready Included);
  symbols = T.symbols;
  firsts = T.states;
  seconds = U.states;
  pairs = cond live (start ∷ []) [];
  examined = 0;
}

-- the area with another phase
abbrev pub in_phase : View → Phase → View
in_phase w p = record w { phase = p }

-- the area has no comparison
abbrev pub is_free : Phase → Bool
is_free Free = true
is_free p = false

-- the claim with the serial, of this area, is the holder: there is a comparison, and the claim is
-- of it
abbrev pub held_by : View → ℕ → Bool
held_by w serial = not (is_free w.phase) && serial == w.serial
