-- Groups of seven bits, read one after the other from the lowest on. Assumes nothing.
use Rattle.std.proofs.Common.{◌≡◌, ℕ, zero, suc, ◌+◌, ◌-◌, ◌*◌, ◌%◌, ◌^◌, ◌<◌, ◌≤◌, true, false, ltb, List, [], ◌∷◌, length, drop, Some, None, sym, refl, ap, ◌∙◌, ⊎_elim, mod-eq_of_lt, mul_assoc, mul_comm, mul-add, arith, length-drop}
use Rattle.std.proofs.lemmas.Nat.{pow-add}
use Rattle.std.proofs.lemmas.Bool.{cases_lt, cond-false, le-ltb}
use Rattle.std.proofs.lemmas.Bool.Decides.{nat_tests}
use Rattle.std.specs.List.{slice_get}
use Rattle.refusal.specs.declared.fault.Fault.TheVariants as fault
use Rattle.codec.proofs.Entries.{drop_none, drop_some}
use Rattle.codec.specs.Numbers.{Got, got, stop, above, stop_at, read_groups, read_number, is_wrong_group}

-- what the groups from an index on give, above the value of those before them

abbrev pub lift : ℕ → ℕ → Got ℕ → Got ℕ
lift value scale (got high rest) = got (value + scale * high) rest
lift value scale (stop e) = stop e

lift_above : (value scale low : ℕ) (g : Got ℕ) → lift value scale (above low g) ≡ lift (value + low * scale) (scale * 128) g
lift_above value scale low (got high rest) =
    ap (λ (n : ℕ). got n rest) (omega (arith, mul-add scale low (128 * high), mul_assoc scale 128 high, mul_comm scale low))
lift_above value scale low (stop e) = refl

-- a low group, scaled, neither wraps nor meets the groups below it
pub record Scaled (value low group : ℕ) : Type 0 where
  pub whole : low * 2 ^ (7 * group) % 4294967296 ≡ low * 2 ^ (7 * group)
  pub fits : value + low * 2 ^ (7 * group) < 2 ^ 32
  pub below : group < 4 → value + low * 2 ^ (7 * group) < 2 ^ (7 * (group + 1))

pub scaled : (value low group : ℕ) → group ≤ 4 → value < 2 ^ (7 * group) → low < 128 → (3 < group → low ≤ 15) → Scaled value low group
scaled value low zero few small seven four = record { whole = omega arith; fits = omega arith; below = λ h. omega arith }
scaled value low (suc zero) few small seven four = record { whole = omega arith; fits = omega arith; below = λ h. omega arith }
scaled value low (suc (suc zero)) few small seven four = record { whole = omega arith; fits = omega arith; below = λ h. omega arith }
scaled value low (suc (suc (suc zero))) few small seven four = record { whole = omega arith; fits = omega arith; below = λ h. omega arith }
scaled value low (suc (suc (suc (suc zero)))) few small seven four =
    let four = four (omega arith) in record { whole = omega arith; fits = omega arith; below = λ h. absurd (omega arith) }
scaled value low (suc (suc (suc (suc (suc g))))) few small seven four = absurd (omega arith)

module _ (at end : ℕ) where
  -- the groups from an index on
  abbrev pub from : ℕ → List ℕ → Got ℕ
  from group bs = read_groups at end (4 - group) (ltb 0 group) bs

  pub group_none : (group : ℕ) → group ≤ 4 → from group [] ≡ stop_at fault.Short end
  group_none zero few = refl
  group_none (suc zero) few = refl
  group_none (suc (suc zero)) few = refl
  group_none (suc (suc (suc zero))) few = refl
  group_none (suc (suc (suc (suc zero)))) few = refl
  group_none (suc (suc (suc (suc (suc g))))) few = absurd (omega arith)

  pub group_wrong : (group b : ℕ) (bs : List ℕ) → group ≤ 4 → is_wrong_group group b ≡ true → from group (b ∷ bs) ≡ stop_at fault.Number at
  group_wrong zero b bs few wrong = grind (arith, nat_tests)
  group_wrong (suc zero) b bs few wrong = grind (arith, nat_tests)
  group_wrong (suc (suc zero)) b bs few wrong = grind (arith, nat_tests)
  group_wrong (suc (suc (suc zero))) b bs few wrong = grind (arith, nat_tests)
  group_wrong (suc (suc (suc (suc zero)))) b bs few wrong = grind (arith, nat_tests)
  group_wrong (suc (suc (suc (suc (suc g))))) b bs few wrong = absurd (omega arith)

  pub group_last : (group b : ℕ) (bs : List ℕ) → group ≤ 4 → is_wrong_group group b ≡ false → b < 128 → from group (b ∷ bs) ≡ got b bs
  group_last zero b bs few right low = grind (arith, nat_tests)
  group_last (suc zero) b bs few right low = grind (arith, nat_tests)
  group_last (suc (suc zero)) b bs few right low = grind (arith, nat_tests)
  group_last (suc (suc (suc zero))) b bs few right low = grind (arith, nat_tests)
  group_last (suc (suc (suc (suc zero)))) b bs few right low = grind (arith, nat_tests)
  group_last (suc (suc (suc (suc (suc g))))) b bs few right low = absurd (omega arith)

  pub group_more : (group b : ℕ) (bs : List ℕ) → group < 4 → 128 ≤ b → from group (b ∷ bs) ≡ above (b - 128) (from (group + 1) bs)
  group_more zero b bs few high = cond-false (ltb b 128) _ _ (le-ltb b 128 high)
  group_more (suc zero) b bs few high = cond-false (ltb b 128) _ _ (le-ltb b 128 high)
  group_more (suc (suc zero)) b bs few high = cond-false (ltb b 128) _ _ (le-ltb b 128 high)
  group_more (suc (suc (suc zero))) b bs few high = cond-false (ltb b 128) _ _ (le-ltb b 128 high)
  group_more (suc (suc (suc (suc g)))) b bs few high = absurd (omega arith)

-- what is known of the number at a place of the input after some of its groups
pub record Partial (input : List ℕ) (place value at group : ℕ) : Type 0 where
  pub few : group ≤ 4
  pub small : value < 2 ^ (7 * group)
  pub reached : at ≡ place + group
  pub reads : read_number (length input) (drop place input) ≡ lift value (2 ^ (7 * group)) (from place (length input) group (drop at input))

module _ (input : List ℕ) (place : ℕ) where
  -- where a number is read does not matter past the input's end
  at_place : (bs : List ℕ) → bs ≡ drop place input → read_number (length input) bs ≡ read_groups place (length input) 4 false bs
  at_place [] is = refl
  at_place (b ∷ bs) is =
      ap (λ (p : ℕ). read_groups p (length input) 4 false (b ∷ bs)) (omega (arith, ap length is ∙ length-drop place input))

  lift_none : (g : Got ℕ) → g ≡ lift 0 1 g
  lift_none (got v rest) = ap (λ (n : ℕ). got n rest) (omega arith)
  lift_none (stop e) = refl

  pub no_group : Partial input place 0 place 0
  no_group = record { few = omega arith; small = omega arith; reached = omega arith; reads = at_place (drop place input) refl ∙ lift_none _ }

  module _ (value at group : ℕ) (so : Partial input place value at group) where
    pub ends_short : slice_get input at ≡ None → read_number (length input) (drop place input) ≡ stop_at fault.Short (length input)
    ends_short past =
        so.reads ∙ ap (λ (bs : List ℕ). lift value (2 ^ (7 * group)) (from place (length input) group bs)) (drop_none input at past)
        ∙ ap (lift value (2 ^ (7 * group))) (group_none place (length input) group so.few)

    module _ (b : ℕ) (here : slice_get input at ≡ Some b) where
      -- the groups left begin with this byte
      begins : read_number (length input) (drop place input) ≡ lift value (2 ^ (7 * group)) (from place (length input) group (b ∷ drop (at + 1) input))
      begins = so.reads ∙ ap (λ (bs : List ℕ). lift value (2 ^ (7 * group)) (from place (length input) group bs)) (drop_some input at b here)

      pub wrong_group : is_wrong_group group b ≡ true → read_number (length input) (drop place input) ≡ stop_at fault.Number place
      wrong_group wrong = begins ∙ ap (lift value (2 ^ (7 * group))) (group_wrong place (length input) group b (drop (at + 1) input) so.few wrong)

      module _ (right : is_wrong_group group b ≡ false) (byte : b < 256) where
        fifth : 3 < group → b % 128 ≤ 15
        fifth h = grind (arith, nat_tests)

        pub scaled_group : Scaled value (b % 128) group
        scaled_group = scaled value (b % 128) group so.few so.small (omega arith) fifth

        pub last_group : b < 128 → read_number (length input) (drop place input) ≡ got (value + b % 128 * 2 ^ (7 * group) % 4294967296) (drop (at + 1) input)
        last_group low =
            begins ∙ ap (lift value (2 ^ (7 * group))) (group_last place (length input) group b (drop (at + 1) input) so.few right low)
            ∙ ap (λ (n : ℕ). got n (drop (at + 1) input)) (omega (arith, scaled_group.whole, mul_comm (2 ^ (7 * group)) b, ap (λ (n : ℕ). n * 2 ^ (7 * group)) (mod-eq_of_lt low)))

        not_fifth : 128 ≤ b → group < 4
        not_fifth high = ⊎_elim (λ h. h) (λ h. absurd (omega (arith, fifth_byte h))) (cases_lt group 4)
          where
            fifth_byte : 4 ≤ group → b ≤ 15
            fifth_byte h = grind (arith, nat_tests)

        pub next_group : 128 ≤ b → Partial input place (value + b % 128 * 2 ^ (7 * group) % 4294967296) (at + 1) (group + 1)
        next_group high =
            let early = not_fifth high in
            let low : b - 128 ≡ b % 128 = omega arith in
            let scale : ℕ = 2 ^ (7 * group) in
            let above-it : Got ℕ = from place (length input) (group + 1) (drop (at + 1) input) in
            let sum : value + (b - 128) * scale ≡ value + b % 128 * scale % 4294967296 = ap (λ (n : ℕ). value + n * scale) low ∙ ap (λ (n : ℕ). value + n) (sym scaled_group.whole) in
            let seven : 7 * group + 7 ≡ 7 * (group + 1) = omega arith in
            let scales : scale * 128 ≡ 2 ^ (7 * (group + 1)) = sym (pow-add 2 (7 * group) 7) ∙ ap (λ (n : ℕ). 2 ^ n) seven in
            record {
              few = omega arith;
              small = omega (arith, scaled_group.whole, scaled_group.below early);
              reached = omega (arith, so.reached);
              reads = begins ∙ ap (lift value (2 ^ (7 * group))) (group_more place (length input) group b (drop (at + 1) input) early high)
                  ∙ lift_above value scale (b - 128) above-it
                  ∙ ap (λ (n : ℕ). lift n (scale * 128) above-it) sum ∙ ap (λ (n : ℕ). lift (value + b % 128 * scale % 4294967296) n above-it) scales;
            }
