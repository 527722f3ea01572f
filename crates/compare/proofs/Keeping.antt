-- What is kept of a list of pairs: from the test to the plain facts and back. Assumes nothing.
use Rattle.std.proofs.Common.{◌≡◌, ℕ, zero, suc, ◌^◌, ◌<◌, ◌≤◌, Bool, true, false, not, ◌&&◌, ◌||◌, eqb, ltb, leb, List, length, get_or, take, sym, refl, ap, subst, ⊎_elim, arith}
use Rattle.std.proofs.lemmas.List.{length-take-le}
use Rattle.std.proofs.lemmas.Bool.{and_from, and_parts, cases_eq, cases_lt, eq-eqb, eqb-true, le-leb, leb-true, lt-ltb, ltb-true, not_from_false, not-true, or_cases, or_left, or_right}
use Rattle.bits.specs.Bits.{bit}
use Rattle.compare.specs.declared.pairs.Listed.{Listed}
use Rattle.compare.specs.Pairs.{all_below, agree, start, is_blank, listed, fits, all_fit, none_twice, bits_say, blank_from, kept_pairs, Fits}

-- `kept_pairs` in plain facts
pub record Kept (n m : ℕ) (slots : List Listed) (k : ℕ) (bits : List ℕ) : Type 0 where
  pub few_firsts : n ≤ 64
  pub few_seconds : m ≤ 64
  pub short : k ≤ 4096
  pub fit : (i : ℕ) → i < k → Fits n m i (get_or (take k slots) i start)
  pub once : (i : ℕ) → i < k → listed (take i (take k slots)) (get_or (take k slots) i start).first (get_or (take k slots) i start).second ≡ false
  pub masks : length bits ≡ 64
  pub narrow : (p : ℕ) → p < 64 → get_or bits p 0 < 2 ^ 64
  pub say : (p q : ℕ) → p < 64 → q < 64 → bit (get_or bits p 0) q ≡ listed (take k slots) p q
  pub slots_long : length slots ≡ 4096
  pub rest : (i : ℕ) → k ≤ i → i < 4096 → get_or slots i start ≡ start

module _ (test : ℕ → Bool) where
  -- where all pass, each does
  pub every : (n : ℕ) → all_below n test ≡ true → (i : ℕ) → i < n → test i ≡ true
  unfolding all_below
  every zero all i low = absurd (omega arith)
  every (suc n) all i low =
      let parts = and_parts (all_below n test) (test n) all in
      ⊎_elim (every n parts.0 i) (λ high. let last : n ≡ i = omega arith in subst (λ (k : ℕ). test k ≡ true) last parts.1) (cases_lt i n)

  -- and back
  pub from_every : (n : ℕ) → ((i : ℕ) → i < n → test i ≡ true) → all_below n test ≡ true
  unfolding all_below
  from_every zero each = refl
  from_every (suc n) each = and_from _ _ (from_every n (λ i low. each i (omega arith))) (each n (omega arith))

agree_tells : (a b : Bool) → agree a b ≡ true → a ≡ b
agree_tells true b h = sym h
agree_tells false b h = sym (not-true b h)

agree_from : (a b : Bool) → a ≡ b → agree a b ≡ true
agree_from true b e = sym e
agree_from false b e = not_from_false b (sym e)

blank_tells : (e : Listed) → is_blank e ≡ true → e ≡ start
blank_tells e h =
    let parts = and_parts (eqb e.first 0 && eqb e.second 0) (eqb e.parent 0 && eqb e.symbol 0) h in
    let states = and_parts (eqb e.first 0) (eqb e.second 0) parts.0 in
    let origin = and_parts (eqb e.parent 0) (eqb e.symbol 0) parts.1 in
    λ i. record { first = eqb-true e.first 0 states.0 i; second = eqb-true e.second 0 states.1 i; parent = eqb-true e.parent 0 origin.0 i; symbol = eqb-true e.symbol 0 origin.1 i }

-- an entry that can stand at its place, in plain facts
pub fits_tells : (n m i : ℕ) (e : Listed) → fits n m i e ≡ true → Fits n m i e
fits_tells n m i e h =
    let parts = and_parts (ltb e.first n && ltb e.second m) (eqb i 0 || ltb e.parent i) h in
    let states = and_parts (ltb e.first n) (ltb e.second m) parts.0 in
    record {
      first_inside = ltb-true e.first n states.0;
      second_inside = ltb-true e.second m states.1;
      led = λ later. ⊎_elim (λ root. absurd (omega (arith, eqb-true i 0 root))) (ltb-true e.parent i) (or_cases (eqb i 0) (ltb e.parent i) parts.1);
    }

-- and back
pub fits_from : (n m i : ℕ) (e : Listed) → Fits n m i e → fits n m i e ≡ true
fits_from n m i e f =
    and_from _ _
    (and_from _ _ (lt-ltb e.first n f.first_inside) (lt-ltb e.second m f.second_inside))
    (⊎_elim (λ root. or_left _ _ (eq-eqb i 0 root)) (λ later. or_right _ _ (lt-ltb e.parent i (f.led (omega arith)))) (cases_eq i 0))

module _ (n m : ℕ) (slots : List Listed) (k : ℕ) (bits : List ℕ) where
  abbrev es : List Listed
  es = take k slots

  -- the tests of one place, one mask and one slot
  abbrev fits_at : ℕ → Bool
  fits_at i = fits n m i (get_or es i start)

  abbrev new_at : ℕ → Bool
  new_at i = not (listed (take i es) (get_or es i start).first (get_or es i start).second)

  abbrev says_at : ℕ → ℕ → Bool
  says_at p q = agree (bit (get_or bits p 0) q) (listed es p q)

  abbrev mask_at : ℕ → Bool
  mask_at p = ltb (get_or bits p 0) (2 ^ 64) && all_below 64 (says_at p)

  abbrev blank_at : ℕ → Bool
  blank_at i = ltb i k || is_blank (get_or slots i start)

  -- what is kept, in plain facts
  pub kept_pairs_tell : kept_pairs n m slots k bits ≡ true → Kept n m slots k bits
  unfolding kept_pairs all_fit none_twice bits_say blank_from
  kept_pairs_tell h =
      let halves = and_parts ((leb n 64 && leb m 64) && leb k 4096) _ h in
      let counts = and_parts (leb n 64 && leb m 64) (leb k 4096) halves.0 in
      let states = and_parts (leb n 64) (leb m 64) counts.0 in
      let lists = and_parts (all_fit n m es && none_twice es) (bits_say bits es && blank_from k slots) halves.1 in
      let order = and_parts (all_fit n m es) (none_twice es) lists.0 in
      let marks = and_parts (bits_say bits es) (blank_from k slots) lists.1 in
      let masks = and_parts (eqb (length bits) 64) (all_below 64 mask_at) marks.0 in
      let rest = and_parts (eqb (length slots) 4096) (all_below 4096 blank_at) marks.1 in
      let long : length slots ≡ 4096 = eqb-true (length slots) 4096 rest.0 in
      let short : k ≤ 4096 = leb-true k 4096 counts.1 in
      let many : length es ≡ k = length-take-le k slots (omega arith) in
      let mask : (p : ℕ) → p < 64 → (ltb (get_or bits p 0) (2 ^ 64) ≡ true) × (all_below 64 (says_at p) ≡ true) = λ p low. and_parts (ltb (get_or bits p 0) (2 ^ 64)) (all_below 64 (says_at p)) (every mask_at 64 masks.1 p low) in
      record {
        few_firsts = leb-true n 64 states.0;
        few_seconds = leb-true m 64 states.1;
        short = short;
        fit = λ i low. fits_tells n m i (get_or es i start) (every fits_at (length es) order.0 i (omega arith));
        once = λ i low. not-true _ (every new_at (length es) order.1 i (omega arith));
        masks = eqb-true (length bits) 64 masks.0;
        narrow = λ p low. ltb-true (get_or bits p 0) (2 ^ 64) (mask p low).0;
        say = λ p q low narrow. agree_tells _ _ (every (says_at p) 64 (mask p low).1 q narrow);
        slots_long = long;
        rest = λ i past inside.
            ⊎_elim (λ early. absurd (omega (arith, ltb-true i k early))) (blank_tells (get_or slots i start)) (or_cases (ltb i k) _ (every blank_at 4096 rest.1 i inside));
      }

  -- and back
  pub kept_pairs_from : Kept n m slots k bits → kept_pairs n m slots k bits ≡ true
  unfolding kept_pairs all_fit none_twice bits_say blank_from
  kept_pairs_from h =
      let many : length es ≡ k = length-take-le k slots (omega (arith, h.short, h.slots_long)) in
      and_from _ _
      (and_from _ _ (and_from _ _ (le-leb n 64 h.few_firsts) (le-leb m 64 h.few_seconds)) (le-leb k 4096 h.short))
      (and_from _ _
      (and_from _ _
      (from_every fits_at (length es) (λ i low. fits_from n m i (get_or es i start) (h.fit i (omega arith))))
      (from_every new_at (length es) (λ i low. not_from_false _ (h.once i (omega arith)))))
      (and_from _ _
      (and_from _ _ (eq-eqb (length bits) 64 h.masks)
      (from_every mask_at 64 (λ p low. and_from _ _ (lt-ltb (get_or bits p 0) (2 ^ 64) (h.narrow p low)) (from_every (says_at p) 64 (λ q narrow. agree_from _ _ (h.say p q low narrow))))))
      (and_from _ _ (eq-eqb (length slots) 4096 h.slots_long)
      (from_every blank_at 4096 (λ i inside. ⊎_elim (λ early. or_left _ _ (lt-ltb i k early)) (λ past. or_right _ _ (ap is_blank (h.rest i past inside))) (cases_lt i k))))))
