-- A text with no plus in front is read as `parse` reads it.
use Rattle.std.proofs.Common.{◌^◌, ◌<◌, sym, subst, arith, rules}
use Rattle.std.specs.Option.{SomeIff}
use Rattle.std.specs.Str.Parse.{IsNumeral, digits_value}
use Rattle.std.proofs.lemmas.Str.Pattern.{starts_char}
use Rattle.notation.proofs.Numbers.{plain_reads}
use Rattle.notation.proofs.words.digits.Goals as goal

pub returns : goal.returns
returns c =
    let bs = c.args.text.now in
    let plus = starts_char 43 bs c.starts_with.result c.starts_with.ensures.cases (omega arith) (omega arith) in
    subst (λ r. SomeIff r (IsNumeral 10 bs × (digits_value 10 bs < 2 ^ 32)) (digits_value 10 bs)) (sym c.ok.ensures.value)
    (plain_reads bs c.parse.result (λ p. let yes-plus = plus.1 p in search rules) c.parse.ensures.value.0)
