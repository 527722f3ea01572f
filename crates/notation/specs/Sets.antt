-- What a word says where a set of small numbers is wanted. Assumes nothing.
use Rattle.std.specs.Prelude.{◌≡◌, ℕ, Some, None, Ok, Err, Result, IfErr}
use Rattle.notation.specs.Lists.{dash}
use Rattle.notation.specs.Words.{Word}
use Rattle.notation.specs.declared.trouble.Trouble.{Trouble}
use Rattle.notation.specs.declared.trouble.Trouble.TheVariants.{Unreadable, Ended}

-- a set is wanted: `-` says an empty one, and a word that says none is unreadable
abbrev pub SetOf : Word → Result ℕ Trouble → Type 0
SetOf (Some w) r = (w.now ≡ dash → r ≡ Ok 0) × IfErr r (λ e. e ≡ Unreadable w)
SetOf None r = r ≡ Err Ended
