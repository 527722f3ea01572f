-- What the two counts and the listed entries say of a list of pairs: all else. Assumes nothing.
use Rattle.std.proofs.Common.{◌≡◌, ℕ, ◌+◌, ◌/◌, ◌%◌, ◌^◌, ◌<◌, ◌≤◌, true, false, ◌&&◌, ◌||◌, eqb, ltb, List, [], ◌∷◌, ◌++◌, length, get_or, take, set, Some, sym, ap, ◌∙◌, subst, ⊎_elim, mul_comm, arith}
use mathlib.Core.Bool.{Bool-set}
use mathlib.Core.HLevel.{is_prop→PathP}
use Rattle.std.specs.List.{slice_get}
use Rattle.std.proofs.lemmas.Nat.{mod_below}
use Rattle.std.proofs.lemmas.Nat.Bits.{same_from_bits_below}
use Rattle.std.proofs.lemmas.Option.{slice_get_within, get_or_from_slice_get}
use Rattle.std.proofs.lemmas.List.{ext_get_or, get_or-take}
use Rattle.std.proofs.lemmas.Bool.{both_ways, cases_lt, cases_order, cond-true, cond-false}
use Rattle.std.proofs.lemmas.Bool.Decides.{nat_tests}
use Rattle.codec.proofs.Entries.{nth_take}
use Rattle.bits.specs.Bits.{bit}
use Rattle.compare.specs.declared.pairs.Listed.{Listed}
use Rattle.compare.specs.declared.pairs.Pairs.{Pairs}
use Rattle.compare.specs.Listing.{entries_of, FewPairs, EntriesFit, ListedOnce, Determined}
use Rattle.compare.specs.Pairs.{start, listed, fits, with_pair, after_listing, kept_pairs, Fits}
use Rattle.compare.proofs.Keeping.{Kept, fits_tells, kept_pairs_tell}
use Rattle.compare.proofs.Standing.{listed_nth}
use Rattle.compare.proofs.Steps.{many, few_kept, none_past_masks, says, room_left, pushed, kept_more}

-- what is kept of a list of pairs, in plain facts
pub kept_of : (p : Pairs) → Kept p.firsts p.seconds p.entries p.length p.bits
kept_of p = kept_pairs_tell p.firsts p.seconds p.entries p.length p.bits p.sound

-- there are as many entries as the length says
pub many_of : (p : Pairs) → length (entries_of p) ≡ p.length
many_of p = many p.firsts p.seconds p.entries p.length p.bits (kept_of p)

-- a bit of a mask says whether the pair is listed
pub says_of : (p : Pairs) (a b : ℕ) → a < 64 → bit (get_or p.bits a 0) b ≡ listed (entries_of p) a b
says_of p = says p.firsts p.seconds p.entries p.length p.bits (kept_of p)

-- no pair is listed past the masks
pub none_past_of : (p : Pairs) (a b : ℕ) → 64 ≤ a → listed (entries_of p) a b ≡ false
none_past_of p = none_past_masks p.firsts p.seconds p.entries p.length p.bits (kept_of p)

pub few_pairs : FewPairs
few_pairs p = omega (arith, few_kept p.firsts p.seconds p.entries p.length p.bits (kept_of p), mul_comm p.firsts p.seconds)

pub entries_fit : EntriesFit
entries_fit p i e h = let low : i < p.length = omega (arith, slice_get_within (entries_of p) i e h, many_of p) in subst (Fits p.firsts p.seconds i) (get_or_from_slice_get (entries_of p) i e start h) ((kept_of p).fit i low)

-- an entry is not of the states of an earlier one
apart : (p : Pairs) (i j : ℕ) (e f : Listed) → i < j → slice_get (entries_of p) i ≡ Some e → slice_get (entries_of p) j ≡ Some f → e.first ≡ f.first → e.second ≡ f.second → ⊥
apart p i j e f earlier at_i at_j firsts_same seconds-same =
    let es = entries_of p in
    let there : listed (take j es) e.first e.second ≡ true = listed_nth (take j es) i e (nth_take j es i earlier ∙ at_i) in
    let low : j < p.length = omega (arith, slice_get_within es j f at_j, many_of p) in
    let once : listed (take j es) f.first f.second ≡ false = subst (λ (x : Listed). listed (take j es) x.first x.second ≡ false) (get_or_from_slice_get es j f start at_j) ((kept_of p).once j low) in
    both_ways (listed (take j es) f.first f.second) once (sym (ap (λ (a : ℕ). listed (take j es) a e.second) firsts_same ∙ ap (listed (take j es) f.first) seconds-same) ∙ there)

pub listed_once : ListedOnce
listed_once p i j e f at_i at_j firsts_same seconds-same =
    ⊎_elim
    (λ same. same)
    (⊎_elim (λ earlier. absurd (apart p i j e f earlier at_i at_j firsts_same seconds-same)) (λ later. absurd (apart p j i f e later at_j at_i (sym firsts_same) (sym seconds-same))))
    (cases_order i j)

-- one pair more
module _ (p : Pairs) (e : Listed) where
  abbrev stands : Type 0
  stands = fits p.firsts p.seconds p.length e ≡ true

  abbrev new : Type 0
  new = listed (entries_of p) e.first e.second ≡ false

  -- what listing it leaves
  abbrev after : List Listed
  after = after_listing p.firsts p.seconds (entries_of p) e

  at_end : stands → fits p.firsts p.seconds (length (entries_of p)) e ≡ true
  at_end h = ap (λ (k : ℕ). fits p.firsts p.seconds k e) (many_of p) ∙ h

  its_place : stands → Fits p.firsts p.seconds p.length e
  its_place h = fits_tells p.firsts p.seconds p.length e h

  -- there is a mask for it
  pub row_of : stands → e.first < 64
  row_of h = omega (arith, (its_place h).first_inside, (kept_of p).few_firsts)

  -- and a slot, where it is new
  pub room_of : stands → new → p.length < 4096
  room_of h n = room_left p.firsts p.seconds p.entries p.length p.bits (kept_of p) e (its_place h) n

  -- what is kept stays kept with its entry and its bit
  pub kept_with : stands → new → (mask : ℕ) → mask < 2 ^ 64 → ((i : ℕ) → bit mask i ≡ (bit (get_or p.bits e.first 0) i || (ltb e.second 64 && eqb e.second i))) → kept_pairs p.firsts p.seconds (set p.entries p.length e) (p.length + 1) (set p.bits e.first mask) ≡ true
  kept_with h n = kept_more p.firsts p.seconds p.entries p.length p.bits (kept_of p) e (its_place h) n

  -- a new pair that can stand there is put behind the others
  pub after_new : stands → new → take (p.length + 1) (set p.entries p.length e) ≡ after
  after_new h n =
      pushed p.firsts p.seconds p.entries p.length p.bits (kept_of p) e (its_place h) n
      ∙ sym (cond-true _ (with_pair (entries_of p) e) (entries_of p) (at_end h) ∙ cond-false _ (entries_of p) (entries_of p ++ e ∷ []) n)

-- two numbers with the same 64 bits
same_bits : (a b : ℕ) → a < 2 ^ 64 → b < 2 ^ 64 → ((i : ℕ) → i < 64 → bit a i ≡ bit b i) → a ≡ b
same_bits a b low low' same = same_from_bits_below 64 a b low low' (λ i inside. by (a / 2 ^ i % 2) (b / 2 ^ i % 2) (mod_below (a / 2 ^ i) 2 (omega arith)) (mod_below (b / 2 ^ i) 2 (omega arith)) (same i inside))
  where
    by : (d e : ℕ) → d < 2 → e < 2 → eqb d 1 ≡ eqb e 1 → d ≡ e
    by d e low low' agrees = grind (arith, nat_tests)

module _ (p q : Pairs) (Listed-same : entries_of p ≡ entries_of q) where
  same_length : p.length ≡ q.length
  same_length = sym (many_of p) ∙ ap length Listed-same ∙ many_of q

  same_slots : p.entries ≡ q.entries
  same_slots =
      ext_get_or start p.entries q.entries ((kept_of p).slots_long ∙ sym (kept_of q).slots_long)
      (λ i inside.
      ⊎_elim
      (λ low. sym (get_or-take p.length p.entries i start low) ∙ ap (λ (es : List Listed). get_or es i start) Listed-same ∙ get_or-take q.length q.entries i start (omega (arith, same_length)))
      (λ past. let end : i < 4096 = omega (arith, (kept_of p).slots_long) in (kept_of p).rest i past end ∙ sym ((kept_of q).rest i (omega (arith, same_length)) end))
      (cases_lt i p.length))

  same_masks : p.bits ≡ q.bits
  same_masks =
      ext_get_or 0 p.bits q.bits ((kept_of p).masks ∙ sym (kept_of q).masks)
      (λ a inside.
      let low : a < 64 = omega (arith, (kept_of p).masks) in
      same_bits (get_or p.bits a 0) (get_or q.bits a 0) ((kept_of p).narrow a low) ((kept_of q).narrow a low)
      (λ b narrow. (kept_of p).say a b low narrow ∙ ap (λ (es : List Listed). listed es a b) Listed-same ∙ sym ((kept_of q).say a b low narrow)))

pub determined : Determined
determined p q firsts_same seconds-same Listed-same =
    let slots = same_slots p q Listed-same in
    let long = same_length p q Listed-same in
    let masks = same_masks p q Listed-same in
    λ i. record {
      firsts = firsts_same i;
      seconds = seconds-same i;
      entries = slots i;
      length = long i;
      bits = masks i;
      sound = is_prop→PathP (λ j. kept_pairs (firsts_same j) (seconds-same j) (slots j) (long j) (masks j) ≡ true) (λ j. Bool-set _ _) p.sound q.sound i;
    }
