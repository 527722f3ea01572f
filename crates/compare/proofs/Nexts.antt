-- Pairs of next states, listed under one symbol after the other. Assumes nothing.
use Rattle.std.proofs.Common.{◌≡◌, ℕ, zero, suc, ◌<◌, ◌≤◌, Bool, true, false, cond, List, [], ◌∷◌, ◌++◌, length, Some, None, Option, sym, refl, ap, ◌∙◌, arith}
use Rattle.std.proofs.lemmas.List.{length-append}
use Rattle.std.proofs.lemmas.Bool.{cond-true}
use Rattle.schema.specs.Automata.{Automaton}
use Rattle.std.proofs.lemmas.Option.{none-some, same_Some}
use Rattle.compare.specs.declared.pairs.Listed.{Listed}
use Rattle.compare.specs.Pairs.{fits, listed, with_pair, after_listing}
use Rattle.compare.specs.Stepping.{next_pair, with_found, with_next, with_nexts}
use Rattle.compare.proofs.Keeping.{fits_from}

module _ (i a : ℕ) where
  -- no pair is there where a next state is missing
  pub first_missing : (b : Bool) (o p : Option ℕ) → o ≡ None → None ≡ next_pair i a b o p
  first_missing b o p none = by b ∙ ap (λ q. next_pair i a b q p) (sym none)
    where
      by : (b : Bool) → None ≡ next_pair i a b None p
      by true = refl
      by false = refl

  pub second_missing : (b : Bool) (o p : Option ℕ) → p ≡ None → None ≡ next_pair i a b o p
  second_missing b o p none = by b o ∙ ap (λ q. next_pair i a b o q) (sym none)
    where
      by : (b : Bool) (o : Option ℕ) → None ≡ next_pair i a b o None
      by true (Some s) = refl
      by true None = refl
      by false o = refl

  -- a pair that is there is of two next states
  found_there : (b : Bool) (o p : Option ℕ) (e : Listed) → next_pair i a b o p ≡ Some e → (o ≡ Some e.first) × (p ≡ Some e.second) × (e.parent ≡ i)
  found_there true (Some s) (Some u) e is = let same = same_Some _ _ is in (ap (λ (x : Listed). Some x.first) same, ap (λ (x : Listed). Some x.second) same, sym (ap (λ (x : Listed). x.parent) same))
  found_there true (Some s) None e is = absurd (none-some _ is)
  found_there true None p e is = absurd (none-some _ is)
  found_there false o p e is = absurd (none-some _ is)

  -- it is listed, where the next states lie inside the counts
  pub listed_next : (es : List Listed) (b : Bool) (o p : Option ℕ) (e : Listed) (n m : ℕ) → Some e ≡ next_pair i a b o p → ((s : ℕ) → o ≡ Some s → s < n) → ((u : ℕ) → p ≡ Some u → u < m) → i < length es → after_listing n m es e ≡ with_next i a b o p es
  listed_next es b o p e n m is low high led =
      let there = found_there b o p e (sym is) in
      cond-true (fits n m (length es) e) (with_pair es e) es (fits_from n m (length es) e (record { first_inside = low e.first there.0; second_inside = high e.second there.1; led = λ _. omega (arith, there.2, led) }))
      ∙ ap (λ q. with_found q es) is

-- listing adds behind what is there
with_pair_longer : (es : List Listed) (e : Listed) → length es ≤ length (with_pair es e)
with_pair_longer es e = by (listed es e.first e.second)
  where
    by : (b : Bool) → length es ≤ length (cond b es (es ++ e ∷ []))
    by true = omega arith
    by false = omega (arith, length-append es (e ∷ []))

with_found_longer : (r : Option Listed) (es : List Listed) → length es ≤ length (with_found r es)
with_found_longer (Some e) es = with_pair_longer es e
with_found_longer None es = omega arith

pub with_nexts_longer : (A B : Automaton) (live : ℕ → Bool) (p q i n : ℕ) (es : List Listed) → length es ≤ length (with_nexts A B live p q i n es)
with_nexts_longer A B live p q i zero es = omega arith
with_nexts_longer A B live p q i (suc a) es = omega (arith, with_nexts_longer A B live p q i a es, with_found_longer (next_pair i a (live a) (A.next p a) (B.next q a)) (with_nexts A B live p q i a es))
