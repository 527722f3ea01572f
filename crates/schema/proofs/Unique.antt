-- A set of live states has one mask, so `live` has one answer. Assumes nothing.
use Rattle.std.proofs.Common.{◌≡◌, ℕ, ◌/◌, ◌%◌, ◌^◌, ◌<◌, eqb, Ok, Err, sym, ap, ◌∙◌, arith}
use Rattle.std.proofs.lemmas.Bool.Decides.{nat_tests, same_from_decides}
use Rattle.std.proofs.lemmas.Nat.{mod_below}
use Rattle.std.proofs.lemmas.Nat.Bits.{same_from_bits}
use Rattle.std.proofs.lemmas.Option.{none-some, same_Some}
use Rattle.bits.specs.Bits.{bit}
use Rattle.schema.specs.Automata.{Automaton}
use Rattle.schema.specs.Live.{Live, LiveMask}
use Rattle.schema.specs.Outcome.{OneLiveAnswer, LiveLaws}
use Rattle.schema.specs.Tables.{automaton}
use Rattle.schema.proofs.Small.{small_schemas}

-- two sets with the same members are one number
one_set : (a b : ℕ) → ((i : ℕ) → bit a i ≡ bit b i) → a ≡ b
one_set a b same = same_from_bits a b (λ i. by (a / 2 ^ i % 2) (b / 2 ^ i % 2) (mod_below (a / 2 ^ i) 2 (omega arith)) (mod_below (b / 2 ^ i) 2 (omega arith)) (same i))
  where
    by : (d e : ℕ) → d < 2 → e < 2 → eqb d 1 ≡ eqb e 1 → d ≡ e
    by d e two two' is = grind (arith, nat_tests)

one_mask : (A : Automaton) (n a b : ℕ) → LiveMask A n a → LiveMask A n b → a ≡ b
one_mask A n a b first second = one_set a b (λ q. same_from_decides {P = (q < n) × Live A q} (bit a q) (bit b q) (first q) (second q))

one_live_answer : OneLiveAnswer
unfolding OneLiveAnswer
one_live_answer T domains (Ok a) (Ok b) first second = ap Ok (one_mask (automaton T domains) T.states a b first.1 second.1)
one_live_answer T domains (Ok a) (Err f) first second = absurd (none-some _ (sym first.0 ∙ second))
one_live_answer T domains (Err e) (Ok b) first second = absurd (none-some _ (sym second.0 ∙ first))
one_live_answer T domains (Err e) (Err f) first second = ap Err (same_Some _ _ (sym first ∙ second))

pub live_laws : LiveLaws
live_laws = record { one = one_live_answer; examples = small_schemas }
