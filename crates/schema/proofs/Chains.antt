-- What a chain answers, where its closure answers by a test. Assumes nothing.
use Rattle.std.proofs.Common.{◌≡◌, ℕ, ◌<◌, ◌≤◌, Bool, true, false, List, Some, None, Option, length, get_or, sym, refl, subst, arith, Bor}
use Rattle.std.specs.Bool.{MatchBool, ⊤}
use Rattle.std.specs.Fn.{Called, CalledAt}
use Rattle.std.specs.Iterator.{YieldsThen}
use Rattle.std.specs.List.{AllWithin, FoldsTo, HoldsAt, range_with_len}
use Rattle.std.specs.Option.{MatchOption}
use Rattle.std.specs.declared.ops.Range.{Range}
use Rattle.std.proofs.iter.Yields.{nat_range_steps}
use Rattle.std.proofs.lemmas.Iterator.{YieldsList-from_range, cases_from_any, first_from_Range}
use Rattle.std.proofs.lemmas.List.FromFn.{length-range_with_len, get_or-range_with_len}
use denote.Param.Members.{Mut}
use Rattle.schema.specs.Automata.{passes}
use Rattle.schema.specs.Below.{some_below, lowest}
use Rattle.schema.proofs.Searches.{none_below, some_found, lowest_found, lowest_none_below}

-- `any` over the numbers below a bound
pub some_below_from_any : {F : Type 0} {g : Mut F (ℕ × Unit {0}) Bool} (u : Range ℕ) (f : F) (r : Bool) (n : ℕ) (test : ℕ → Bool)
    → (xs : List ℕ) × (o : Option ℕ) × (j : F) × YieldsThen nat_range_steps (record { start = 0; end = n }) xs o u × FoldsTo (λ p x q. Called g p (x, tt) false q) f xs j × MatchOption o (r ≡ false) (λ x. (r ≡ true) × ((h : F) × Called g j (x, tt) true h))
    → ((x : ℕ) (b : Bool) (q : F) → Called g f (x, tt) b q → (q ≡ f) × (x < n → b ≡ test x)) → r ≡ some_below n test
some_below_from_any u f r n test ran answers =
    by r (cases_from_any u f r (λ x. x < n → test x ≡ true) (λ x. x < n → test x ≡ false) ran (YieldsList-from_range 0 n n refl (omega arith)) (λ x q k low. sym ((answers x true q k).1 low)) (λ x q k. let a = answers x false q k in (a.0, λ low. sym (a.1 low))))
  where
    all : List ℕ
    all = range_with_len 0 n

    long : length all ≡ n
    long = length-range_with_len 0 n

    by : (b : Bool) → MatchBool b ((k : ℕ) × (k < length all) × HoldsAt (λ x. x < n → test x ≡ true) all k) (AllWithin (λ x. x < n → test x ≡ false) all 0 (length all)) → b ≡ some_below n test
    by true h =
        let low : h.0 < n = omega (arith, h.1, long) in
        let at : get_or all h.0 0 ≡ h.0 = omega (arith, get_or-range_with_len 0 n h.0 0 low) in
        sym (some_found test n h.0 low (subst (λ (i : ℕ). i < n → test i ≡ true) at (h.2 0) low))
    by false h =
        sym (none_below test n (λ i low.
        let at : get_or all i 0 ≡ i = omega (arith, get_or-range_with_len 0 n i 0 low) in
        subst (λ (k : ℕ). k < n → test k ≡ false) at (h i 0 (omega arith) (omega (arith, long))) low))

-- `find` over the numbers below a bound
pub lowest_from_find : {F : Type 0} {g : Mut F (Bor ℕ × Unit {0}) Bool} (u : Range ℕ) (f : F) (r : Option ℕ) (n : ℕ) (test : ℕ → Bool)
    → (xs : List ℕ) × (j : F) × YieldsThen nat_range_steps (record { start = 0; end = n }) xs r u × FoldsTo (λ p x q. CalledAt g p x false q) f xs j × MatchOption r ⊤ (λ x. (h : F) × CalledAt g j x true h)
    → ((x : ℕ) (b : Bool) (q : F) → CalledAt g f x b q → (q ≡ f) × (x < n → b ≡ test x)) → lowest n test ≡ r
lowest_from_find u f r n test ran answers =
    by r (first_from_Range (record { start = 0; end = n }) u f r (λ x. x < n → test x ≡ true) (λ x. x < n → test x ≡ false) ran (λ x q k low. sym ((answers x true q k).1 low)) (λ x q k. let a = answers x false q k in (a.0, λ low. sym (a.1 low))))
  where
    by : (o : Option ℕ) → MatchOption o ((k : ℕ) → 0 ≤ k → k < n → k < n → test k ≡ false) (λ i. (0 ≤ i) × (i < n) × (i < n → test i ≡ true) × ((k : ℕ) → 0 ≤ k → k < i → k < n → test k ≡ false)) → lowest n test ≡ o
    by None h = lowest_none_below test n (λ k low. h k (omega arith) low low)
    by (Some i) h = lowest_found test n i h.1 (lowest_none_below test i (λ k low. h.3 k (omega arith) low (omega (arith, h.1)))) (h.2 h.1)

-- `is_some_and`
pub passes_from_is_some_and : (o : Option ℕ) (r : Bool) (test : ℕ → Bool) {P : ℕ → Type 0} → MatchOption o (r ≡ false) P → ((x : ℕ) → P x → r ≡ test x) → r ≡ passes o test
passes_from_is_some_and (Some x) r test told answers = answers x told
passes_from_is_some_and None r test told answers = told
