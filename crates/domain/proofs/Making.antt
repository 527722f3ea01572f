-- Ranges tested one after the other against the rule, and that making a coverage has one answer.
-- Assumes nothing.
use Rattle.std.proofs.Common.{◌≡◌, ℕ, ◌+◌, ◌-◌, ◌<◌, ◌≤◌, List, ◌++◌, length, take, drop, replicate, Ok, Err, sym, refl, ap, ◌∙◌, ⊎_elim, arith, below_more}
use Rattle.std.proofs.lemmas.List.{take_all, take-append-le, drop-replicate}
use Rattle.std.proofs.lemmas.Bool.{cases_order}
use Rattle.refusal.specs.declared.fault.Refusal.{Refusal}
use Rattle.domain.specs.declared.coverage.Range.{Range}
use Rattle.domain.specs.declared.coverage.Coverage.{Coverage}
use Rattle.domain.specs.Making.{unused, at, Follows, Breaks, Accepts, RefusedFor, OneAnswer, MakingLaws}

-- the first k ranges follow the rule, and the next may begin from `free` on
pub record Sofar (rs : List Range) (k free : ℕ) : Type 0 where
  pub follows : Follows rs k
  pub above : (i : ℕ) → i < k → (at rs i).last + 2 ≤ free
  pub met : 0 < free → (i : ℕ) × (i < k) × ((at rs i).last + 2 ≡ free)

module _ (rs : List Range) where
  pub none : Sofar rs 0 0
  none =
      record {
        follows = record { ordered = λ i h. absurd (omega arith); inside = λ i h. absurd (omega arith); apart = λ i j h l. absurd (omega arith) };
        above = λ i h. absurd (omega arith);
        met = λ h. absurd (omega arith);
      }

  pub more : (k free : ℕ) → Sofar rs k free → free ≤ (at rs k).first → (at rs k).first ≤ (at rs k).last → (at rs k).last ≤ 1114111 → Sofar rs (k + 1) ((at rs k).last + 2)
  more k free so begins ordered inside =
      record {
        follows = record {
          ordered = below_more (λ i. (at rs i).first ≤ (at rs i).last) k so.follows.ordered ordered;
          inside = below_more (λ i. (at rs i).last ≤ 1114111) k so.follows.inside inside;
          apart = λ i j h l. below_more (λ j. (i : ℕ) → i < j → (at rs i).last + 1 < (at rs j).first) k (λ j l i h. so.follows.apart i j h l) (λ i h. omega (arith, so.above i h)) j l i h;
        };
        above = below_more (λ i. (at rs i).last + 2 ≤ (at rs k).last + 2) k (λ i h. omega (arith, so.above i h)) (omega arith);
        met = λ _. (k, omega arith, refl);
      }

  -- fewer of the ranges follow the rule too
  fewer : (k n : ℕ) → k ≤ n → Follows rs n → Follows rs k
  fewer k n le f =
      record { ordered = λ i h. f.ordered i (omega arith); inside = λ i h. f.inside i (omega arith); apart = λ i j h l. f.apart i j h (omega arith) }

  not_both : (c : Coverage) (e : Refusal) → Accepts rs c → RefusedFor rs e → ⊥
  not_both c e a =
      ⊎_elim (λ r. omega (arith, r.0, a.few)) (λ r. r.1.broken (fewer (e.place + 1) (length rs) (omega (arith, r.1.listed)) a.rule))

  -- there is one first range that breaks the rule
  one_place : (j k : ℕ) → Breaks rs j → Breaks rs k → j ≡ k
  one_place j k a b =
      ⊎_elim (λ e. e)
      (⊎_elim (λ l. absurd (a.broken (fewer (j + 1) k (omega arith) b.before))) (λ l. absurd (b.broken (fewer (k + 1) j (omega arith) a.before))))
      (cases_order j k)

  one_refusal : (e f : Refusal) → RefusedFor rs e → RefusedFor rs f → e ≡ f
  one_refusal e f =
      ⊎_elim
      (λ many. ⊎_elim (λ r. many.1 ∙ sym r.1) (λ r. absurd (omega (arith, many.0, r.0))))
      (λ wrong. ⊎_elim (λ r. absurd (omega (arith, wrong.0, r.0)))
      (λ r. let kinds = wrong.2 ∙ sym r.2 in let places = one_place e.place f.place wrong.1 r.1 in λ i. record { fault = kinds i; place = places i }))

-- ranges that follow the rule, written over unused places, are their coverage
pub written : (rs ys : List Range) → length rs ≤ 8 → Follows rs (length rs) → ys ≡ rs → Accepts rs (record { ranges = ys ++ drop (length rs - 0) (replicate 8 unused); count = length rs })
written rs ys few rule same =
    let left : 8 - (length rs - 0) ≡ 8 - length rs = omega arith in
    let table : ys ++ drop (length rs - 0) (replicate 8 unused) ≡ rs ++ replicate (8 - length rs) unused =
    ap (λ (zs : List Range). zs ++ drop (length rs - 0) (replicate 8 unused)) same
    ∙ ap (λ (zs : List Range). rs ++ zs) (drop-replicate (length rs - 0) 8 unused ∙ ap (λ (m : ℕ). replicate m unused) left) in
    record {
      few = few;
      rule = rule;
      uses = ap (take (length rs)) table ∙ take-append-le (length rs) rs _ (omega arith) ∙ take_all (length rs) rs (omega arith);
      whole = λ i. record { ranges = table i; count = length rs };
    }

one_answer : OneAnswer
one_answer rs (Ok c) (Ok d) a b = ap Ok (a.whole ∙ sym b.whole)
one_answer rs (Ok c) (Err e) a b = absurd (not_both rs c e a b)
one_answer rs (Err e) (Ok c) a b = absurd (not_both rs c e b a)
one_answer rs (Err e) (Err f) a b = ap Err (one_refusal rs e f a b)

pub making_laws : MakingLaws
making_laws = record { one = one_answer; limits = record { ranges = refl; last = refl; middle = refl } }
