-- What `parse` says of a text with no plus in front.
use Rattle.std.proofs.Common.{◌≡◌, ℕ, ◌^◌, List, get_or, Ok, Err, Result, subst}
use Rattle.std.specs.Option.{SomeIff}
use Rattle.std.specs.Result.{OkIff, result_ok}
use Rattle.std.specs.Str.Parse.{ParsesUnsigned}
use Rattle.std.proofs.lemmas.Str.Parse.{without_leading_plus_none}
use Rattle.notation.specs.Words.{IsNumberBelow, number_in}

-- an answer stays what it is when its error is left out
checked_from_converted : {E : Type 0} (r : Result ℕ E) (P : Type 0) (v : ℕ) → OkIff r P v → SomeIff (result_ok r) P v
checked_from_converted (Ok x) P v h = h
checked_from_converted (Err e) P v h = h

-- the number is read just where the whole text is a numeral that fits
pub plain_reads : {E : Type 0} (bs : List ℕ) (r : Result ℕ E) → (get_or bs 0 0 ≡ 43 → ⊥) →
    ParsesUnsigned 32 10 bs r → SomeIff (result_ok r) (IsNumberBelow (2 ^ 32) bs) (number_in bs)
plain_reads bs r no_plus h =
    checked_from_converted r (IsNumberBelow (2 ^ 32) bs) (number_in bs)
    (subst (λ ds. OkIff r (IsNumberBelow (2 ^ 32) ds) (number_in ds)) (without_leading_plus_none bs no_plus) h)
