-- A list of pairs without entries, and with one more, keeps what is to be kept. Assumes nothing.
use Rattle.std.proofs.Common.{◌≡◌, ℕ, ◌+◌, ◌*◌, ◌^◌, ◌<◌, ◌≤◌, Bool, true, false, ◌&&◌, ◌||◌, eqb, ltb, List, [], ◌∷◌, ◌++◌, length, get_or, take, set, replicate, sym, ap, ◌∙◌, subst, ⊎_elim, arith}
use Rattle.std.proofs.lemmas.Nat.{mul-le}
use Rattle.std.proofs.lemmas.List.{get_or_append_left, get_or_push, get_or-replicate, get_or-set_other, get_or-set_same, length-replicate, length-set, length-take-le, take_all, take-append-le, take_more_set}
use Rattle.std.proofs.lemmas.Bool.{cases_Bool, cases_eq, cases_lt}
use Rattle.bits.specs.Bits.{bit}
use Rattle.bits.proofs.Members.{bit_zero, none_past}
use Rattle.search.proofs.Visits.{listed_more}
use Rattle.compare.specs.declared.pairs.Listed.{Listed}
use Rattle.compare.specs.Pairs.{start, is_of, listed, kept_pairs, Fits}
use Rattle.compare.proofs.Crowding.{few, room}
use Rattle.compare.proofs.Keeping.{Kept, kept_pairs_from}
use Rattle.compare.proofs.Standing.{listed_push, listed_tells}

-- with no entry every slot is start and every bit 0
pub kept_none : (n m : ℕ) → n ≤ 64 → m ≤ 64 → kept_pairs n m (replicate 4096 start) 0 (replicate 64 0) ≡ true
kept_none n m some-firsts some-seconds =
    kept_pairs_from n m (replicate 4096 start) 0 (replicate 64 0)
    (record {
      few_firsts = some-firsts;
      few_seconds = some-seconds;
      short = omega arith;
      fit = λ i low. absurd (omega arith);
      once = λ i low. absurd (omega arith);
      masks = length-replicate {A = ℕ} 64 0;
      narrow = λ p low. subst (λ (b : ℕ). b < 2 ^ 64) (sym (get_or-replicate {A = ℕ} 64 p 0 0 low)) (omega arith);
      say = λ p q low narrow. ap (λ (b : ℕ). bit b q) (get_or-replicate {A = ℕ} 64 p 0 0 low) ∙ bit_zero q;
      slots_long = length-replicate 4096 start;
      rest = λ i past inside. get_or-replicate 4096 i start start inside;
    })

module _ (n m : ℕ) (slots : List Listed) (k : ℕ) (bits : List ℕ) (so : Kept n m slots k bits) where
  abbrev es : List Listed
  es = take k slots

  pub many : length es ≡ k
  many = length-take-le k slots (omega (arith, so.short, so.slots_long))

  fit : (i : ℕ) → i < length es → Fits n m i (get_or es i start)
  fit i low = so.fit i (omega (arith, many))

  once : (i : ℕ) → i < length es → listed (take i es) (get_or es i start).first (get_or es i start).second ≡ false
  once i low = so.once i (omega (arith, many))

  pub few_kept : length es ≤ m * n
  few_kept = few n m es fit once

  -- a listed pair lies inside the two counts
  listed_inside : (p q : ℕ) → listed es p q ≡ true → (p < n) × (q < m)
  listed_inside p q h =
      let at = listed_tells es p q h in
      let stands = fit at.0 at.1 in
      (omega (arith, at.2, stands.first_inside), omega (arith, at.3, stands.second_inside))

  outside : (p q : ℕ) → ((p < n) × (q < m) → ⊥) → listed es p q ≡ false
  outside p q out = ⊎_elim (λ h. absurd (out (listed_inside p q h))) (λ h. h) (cases_Bool (listed es p q))

  -- no pair is listed whose first state is past the masks
  pub none_past_masks : (p q : ℕ) → 64 ≤ p → listed es p q ≡ false
  none_past_masks p q past = outside p q (λ within. omega (arith, within.0, so.few_firsts))

  -- a bit of a mask says whether the pair is listed, past the bits too
  pub says : (p q : ℕ) → p < 64 → bit (get_or bits p 0) q ≡ listed es p q
  says p q low =
      ⊎_elim
      (so.say p q low)
      (λ past. none_past (get_or bits p 0) q (so.narrow p low) past ∙ sym (outside p q (λ within. omega (arith, within.1, so.few_seconds))))
      (cases_lt q 64)

  module _ (e : Listed) (stands : Fits n m k e) (new : listed es e.first e.second ≡ false) where
    pub room_left : k < 4096
    room_left = omega (arith, many, room n m es fit once e stands.first_inside stands.second_inside new, mul-le m n 64 64 so.few_seconds so.few_firsts)

    pub pushed : take (k + 1) (set slots k e) ≡ es ++ e ∷ []
    pushed = take_more_set slots k e (omega (arith, room_left, so.slots_long))

    fit_more : (i : ℕ) → i < k + 1 → Fits n m i (get_or (es ++ e ∷ []) i start)
    fit_more i low =
        ⊎_elim
        (λ old. subst (Fits n m i) (sym (get_or_append_left es (e ∷ []) start i (omega (arith, many)))) (so.fit i old))
        (λ last. let at : k ≡ i = omega arith in subst (Fits n m i) (sym (get_or_push es e start i (many ∙ at))) (subst (λ (j : ℕ). Fits n m j e) at stands))
        (cases_lt i k)

    once_more : (i : ℕ) → i < k + 1 → listed (take i (es ++ e ∷ [])) (get_or (es ++ e ∷ []) i start).first (get_or (es ++ e ∷ []) i start).second ≡ false
    once_more i low =
        ap (λ (fs : List Listed). listed fs (get_or (es ++ e ∷ []) i start).first (get_or (es ++ e ∷ []) i start).second) (take-append-le i es (e ∷ []) (omega (arith, many)))
        ∙ ⊎_elim
        (λ old. ap (λ (x : Listed). listed (take i es) x.first x.second) (get_or_append_left es (e ∷ []) start i (omega (arith, many))) ∙ so.once i old)
        (λ last.
        let at : k ≡ i = omega arith in
        ap (λ (x : Listed). listed (take i es) x.first x.second) (get_or_push es e start i (many ∙ at))
        ∙ ap (λ (fs : List Listed). listed fs e.first e.second) (take_all i es (omega (arith, many))) ∙ new)
        (cases_lt i k)

    -- with one entry more in its slot, and its bit set
    pub kept_more : (mask : ℕ) → mask < 2 ^ 64 → ((i : ℕ) → bit mask i ≡ (bit (get_or bits e.first 0) i || (ltb e.second 64 && eqb e.second i))) → kept_pairs n m (set slots k e) (k + 1) (set bits e.first mask) ≡ true
    kept_more mask Fits-mask adds =
        kept_pairs_from n m (set slots k e) (k + 1) (set bits e.first mask)
        (record {
          few_firsts = so.few_firsts;
          few_seconds = so.few_seconds;
          short = omega (arith, room_left);
          fit = subst (λ (fs : List Listed). (i : ℕ) → i < k + 1 → Fits n m i (get_or fs i start)) (sym pushed) fit_more;
          once = subst (λ (fs : List Listed). (i : ℕ) → i < k + 1 → listed (take i fs) (get_or fs i start).first (get_or fs i start).second ≡ false) (sym pushed) once_more;
          masks = length-set bits e.first mask ∙ so.masks;
          narrow = λ p low.
              ⊎_elim
              (λ here. subst (λ (b : ℕ). b < 2 ^ 64) (sym (ap (λ (i : ℕ). get_or (set bits e.first mask) i 0) here ∙ get_or-set_same bits e.first mask 0 row_inside)) Fits-mask)
              (λ other. subst (λ (b : ℕ). b < 2 ^ 64) (sym (get_or-set_other bits e.first p mask 0 other)) (so.narrow p low))
              (cases_eq p e.first);
          say = λ p q low narrow.
              listed_more bits e.first e.second mask row_inside (omega (arith, stands.second_inside, so.few_seconds)) adds p q
              ∙ ap (λ (b : Bool). b || is_of p q e) (so.say p q low narrow)
              ∙ sym (listed_push es e p q) ∙ ap (λ (fs : List Listed). listed fs p q) (sym pushed);
          slots_long = length-set slots k e ∙ so.slots_long;
          rest = λ i past inside. let apart : i ≡ k → ⊥ = λ same. omega arith in get_or-set_other slots k i e start apart ∙ so.rest i (omega arith) inside;
        })
      where
        row_inside : e.first < length bits
        row_inside = omega (arith, stands.first_inside, so.few_firsts, so.masks)
