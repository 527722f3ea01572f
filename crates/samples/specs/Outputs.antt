-- A lent output that bytes are written on, one number behind the other. Assumes nothing.
use Rattle.std.specs.Prelude.{◌≡◌, ℕ, ◌+◌, ◌-◌, ◌<◌, ◌≤◌, List, length, Some, None, Option}
use Rattle.codec.specs.Numbers.{Written}
use Rattle.samples.specs.declared.output.Output.{Output}

-- the place lies in the output, or right behind it
abbrev pub Within : Output → Type 0
Within s = s.place ≤ length s.bytes.now

-- how many bytes of the output lie at the place and behind it
abbrev pub room_left : Output → ℕ
room_left s = length s.bytes.now - s.place

-- bytes are written at the place, which then lies behind them; no other byte changes, and the
-- output is the one that was lent
pub record Appended (bytes : List ℕ) (before after : Output) : Type 0 where
  pub written : Written before.bytes.now before.place bytes after.place after.bytes.now
  pub lent : after.bytes.ghost_name ≡ before.bytes.ghost_name

-- what writing bytes answers and leaves; none: they have no room_left there, and how many of them
-- were written is not said
abbrev pub Appends : List ℕ → Output → Option (Unit {0}) → Output → Type 0
Appends bytes before (Some u) after = Appended bytes before after
Appends bytes before None after = length before.bytes.now < before.place + length bytes
