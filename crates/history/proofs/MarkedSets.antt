-- The marked gap of two joint domains, and the marked ranges: those refused and those taken.
-- Assumes nothing.
use Rattle.std.proofs.Common.{◌≡◌, ℕ, zero, suc, ◌+◌, ◌-◌, ◌<◌, ◌≤◌, Bool, false, cond, not, ◌&&◌, ltb, inr, [], ◌∷◌, Some, Ok, Err, refl, ap, ◌∙◌, ⊎_elim, lit<, arith}
use Rattle.std.proofs.lemmas.Bool.{cases_lt, cond-true, le-ltb, lt-ltb, and_left, and_right}
use Rattle.std.proofs.lemmas.Bool.Decides.{nat_tests}
use Rattle.domain.specs.Kinds.{has_keyword, has_letter}
use Rattle.domain.specs.declared.coverage.Range.{Range}
use Rattle.domain.specs.Making.{coverage_of, at, Follows, Makes}
use Rattle.domain.specs.Sets.{Smallest, alone}
use Rattle.refusal.specs.declared.fault.Fault.TheVariants as fault
use Rattle.refusal.specs.declared.fault.Refusal.{Refusal}
use Rattle.bits.proofs.Members.{bit_zero}
use Rattle.history.specs.Marked.{just_letters, from_to, touching_ranges, parted_ranges, IsRefusal}

-- the code points of a range
abbrev letters : Range → ℕ → Bool
letters range = has_letter (coverage_of (range ∷ []))

-- the gap of two joint domains with nothing on the left: that of the letters, on the right
pub joint_gap : Smallest (alone (just_letters (from_to 65 90)) (just_letters (from_to 65 89))) (Some 2147483738)
joint_gap = record { value = lit< tt; passes = refl; before = before }
  where
    -- below the middle nothing is in the first
    left : (v : ℕ) → v < 2147483648 → just_letters (from_to 65 90) v ≡ false
    left v low = cond-true (ltb v 2147483648) _ _ (lt-ltb v 2147483648 low) ∙ and_right (ltb v 64) _ (bit_zero v)

    -- from there on, what is before the gap is in both or in none
    right : (x : ℕ) → x < 90 → (letters (from_to 65 90) x && not (letters (from_to 65 89) x)) ≡ false
    right x low = grind (arith, nat_tests)

    before :
        (v : ℕ) → v < 2147483738 →
        alone (just_letters (from_to 65 90)) (just_letters (from_to 65 89)) v ≡ false
    before v low =
        ⊎_elim
        (λ small. and_left _ _ (left v small))
        (λ large.
        let at = le-ltb v 2147483648 large in
        ap (λ (t : Bool). cond t (has_keyword (record { bits = 0 }) v) (letters (from_to 65 90) (v - 2147483648)) && not (cond t (has_keyword (record { bits = 0 }) v) (letters (from_to 65 89) (v - 2147483648)))) at
        ∙ right (v - 2147483648) (omega (arith, low, large)))
        (cases_lt v 2147483648)

-- each range of two passes a test that both pass
each_of_two : (test : ℕ → Type 0) → test 0 → test 1 → (i : ℕ) → i < 2 → test i
each_of_two test first second zero low = first
each_of_two test first second (suc zero) low = second
each_of_two test first second (suc (suc i)) low = absurd (omega (arith, low))

pub touching_refused : (e : Refusal) × Makes touching_ranges (Err e) × IsRefusal 5 1 e
touching_refused = (record { fault = fault.Range; place = 1 }, inr (lit< tt, record { listed = lit< tt; before = before; broken = broken }, refl), (refl, refl))
  where
    before : Follows touching_ranges 1
    before =
        record {
          ordered = λ i low. each_of_two (λ j. (at touching_ranges j).first ≤ (at touching_ranges j).last) (omega arith) (omega arith) i (omega (arith, low));
          inside = λ i low. each_of_two (λ j. (at touching_ranges j).last ≤ 1114111) (omega arith) (omega arith) i (omega (arith, low));
          apart = λ i j earlier low. absurd (omega (arith, earlier, low));
        }

    broken : Follows touching_ranges 2 → ⊥
    broken f = absurd (omega (arith, f.apart 0 1 (lit< tt) (lit< tt)))

pub parted_taken : Makes parted_ranges (Ok (coverage_of parted_ranges))
parted_taken = record { few = omega arith; rule = rule; uses = refl; whole = refl }
  where
    rule : Follows parted_ranges 2
    rule =
        record {
          ordered = each_of_two (λ j. (at parted_ranges j).first ≤ (at parted_ranges j).last) (omega arith) (omega arith);
          inside = each_of_two (λ j. (at parted_ranges j).last ≤ 1114111) (omega arith) (omega arith);
          apart = λ i j earlier low. by i j earlier low;
        }
      where
        by : (i j : ℕ) → i < j → j < 2 → (at parted_ranges i).last + 1 < (at parted_ranges j).first
        by zero zero earlier low = absurd (omega (arith, earlier))
        by zero (suc zero) earlier low = omega arith
        by zero (suc (suc j)) earlier low = absurd (omega (arith, low))
        by (suc i) j earlier low = absurd (omega (arith, earlier, low))
