-- One member more, and sets that grow by what numbers lead to. Assumes nothing.
use Rattle.std.proofs.Common.{◌≡◌, ℕ, ◌+◌, ◌<◌, ◌≤◌, true, ◌&&◌, ◌||◌, eqb, ltb, ◌⊎◌, Some, None, Option, sym, ap, ◌∙◌, subst, inl, inr, ⊎_elim, refl, arith}
use Rattle.std.proofs.lemmas.Bool.{and_parts, and_from, cases_lt, eqb-true, eq-eqb, lt-ltb, or_cases, or_left, or_right}
use Rattle.std.proofs.lemmas.Option.{none-some, same_Some}
use Rattle.bits.specs.Bits.{bit}
use Rattle.bits.specs.Gathering.{LedOnto}

-- a member of a set with one more
pub in_one_more : (set more k i : ℕ) → bit more i ≡ (bit set i || (ltb k 64 && eqb k i)) → bit more i ≡ true → (bit set i ≡ true) ⊎ (k ≡ i)
in_one_more set more k i adds there =
    ⊎_elim inl (λ new. inr (eqb-true k i (and_parts (ltb k 64) (eqb k i) new).1)) (or_cases (bit set i) _ (sym adds ∙ there))

pub one_more_keeps : (set more k i : ℕ) → bit more i ≡ (bit set i || (ltb k 64 && eqb k i)) → bit set i ≡ true → bit more i ≡ true
one_more_keeps set more k i adds there = adds ∙ or_left (bit set i) _ there

pub one_more_has : (set more k : ℕ) → bit more k ≡ (bit set k || (ltb k 64 && eqb k k)) → k < 64 → bit more k ≡ true
one_more_has set more k adds inside = adds ∙ or_right (bit set k) _ (and_from _ _ (lt-ltb k 64 inside) (eq-eqb k k refl))

-- one number more, and where it leads
module _ (Leads : ℕ → Option ℕ → Type 0) (before : ℕ) where
  found_wider : (k i : ℕ) → (a : ℕ) × (a < k) × Leads a (Some i) → (a : ℕ) × (a < k + 1) × Leads a (Some i)
  found_wider k i m = (m.0, omega (arith, m.1), m.2)

  pub led_more : (k reached more : ℕ) (o : Option ℕ) (next : ℕ) → LedOnto Leads k before reached → Leads k o → o ≡ Some next → ((i : ℕ) → bit more i ≡ (bit reached i || (ltb next 64 && eqb next i))) → LedOnto Leads (k + 1) before more
  led_more k reached more o next so here is adds =
      record {
        kept = λ i h. one_more_keeps reached more next i (adds i) (so.kept i h);
        added = λ a low.
            ⊎_elim
            (λ l. let old = so.added a l in (old.0, old.1, λ i same inside. one_more_keeps reached more next i (adds i) (old.2 i same inside)))
            (λ up.
            let last : k ≡ a = omega (arith, low) in
            (o, subst (λ (n : ℕ). Leads n o) last here, λ i same inside. let e : next ≡ i = same_Some _ _ (sym is ∙ same) in subst (λ (n : ℕ). bit more n ≡ true) e (one_more_has reached more next (adds next) (omega (arith, e, inside)))))
            (cases_lt a k);
        only = λ i h.
            ⊎_elim
            (λ old. ⊎_elim inl (λ m. inr (found_wider k i m)) (so.only i old))
            (λ e. inr (k, omega arith, subst (Leads k) (is ∙ ap Some e) here))
            (in_one_more reached more next i (adds i) h);
      }

  pub led_nowhere : (k reached : ℕ) (o : Option ℕ) → LedOnto Leads k before reached → Leads k o → o ≡ None → LedOnto Leads (k + 1) before reached
  led_nowhere k reached o so here none =
      record {
        kept = so.kept;
        added = λ a low.
            ⊎_elim
            (so.added a)
            (λ up. let last : k ≡ a = omega (arith, low) in (o, subst (λ (n : ℕ). Leads n o) last here, λ i same inside. absurd (none-some i (sym none ∙ same))))
            (cases_lt a k);
        only = λ i h. ⊎_elim inl (λ m. inr (found_wider k i m)) (so.only i h);
      }

  pub led_all : (k n reached : ℕ) → k ≤ n → n ≤ k → LedOnto Leads k before reached → LedOnto Leads n before reached
  led_all k n reached upto past so = let e : k ≡ n = omega arith in subst (λ (m : ℕ). LedOnto Leads m before reached) e so
