-- What the words of a line give, one after the other. Assumes nothing.
use Rattle.std.specs.Prelude.{◌≡◌, ℕ, ◌^◌, ◌<◌, List, Some, None, Option, Ok, Err, Result, IfErr}
use Rattle.std.specs.Borrow.{Bor}
use Rattle.std.specs.Result.{OkIff}
use Rattle.std.specs.Str.Iter.{split_whitespace_steps}
use Rattle.std.specs.Str.Parse.{IsNumeral, digits_value}
use Rattle.std.specs.declared.str.SplitWhitespace.{SplitWhitespace}
use Rattle.notation.specs.declared.trouble.Trouble.{Trouble}
use Rattle.notation.specs.declared.trouble.Trouble.TheVariants.{Unreadable, Ended}

-- a word of the line, where there is one
abbrev pub Word : Type 0
Word = Option (Bor (List ℕ))

-- the next word comes off what is left of the line, where there is one, and gives the result
abbrev pub Takes : {A : Type 0} → SplitWhitespace → SplitWhitespace → (Word → A → Type 0) → A → Type 0
Takes left after Gives r = (w : Word) × split_whitespace_steps left w after × Gives w r

-- no word is wanted
abbrev pub EndOf : Word → Result (Unit {0}) Trouble → Type 0
EndOf (Some w) r = r ≡ Err (Unreadable w)
EndOf None r = r ≡ Ok tt

-- the number that a text of decimal digits says
abbrev pub number_in : List ℕ → ℕ
number_in text = digits_value 10 text

-- the text is decimal digits, of a number below the bound
abbrev pub IsNumberBelow : ℕ → List ℕ → Type 0
IsNumberBelow bound text = IsNumeral 10 text × (number_in text < bound)

-- a word of digits is wanted, of a number of 32 bits
abbrev pub NumberOf : Word → Result ℕ Trouble → Type 0
NumberOf (Some w) r =
    OkIff r (IsNumberBelow (2 ^ 32) w.now) (number_in w.now) × IfErr r (λ e. e ≡ Unreadable w)
NumberOf None r = r ≡ Err Ended
