-- The groups so far are the low part of the number. Assumes nothing.
use Rattle.std.proofs.Common.{◌≡◌, ◌+◌, drop}
use Rattle.codec.proofs.Groups.{Partial}
use Rattle.codec.proofs.number.read_number.Given as goal

abbrev pub invariant-loop-group : goal.invariant-loop-group
invariant-loop-group l = (l.rest ≡ drop l.place l.input) × Partial l.input l.place l.value (l.place + l.group) l.group
