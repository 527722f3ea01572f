-- Rounds: what they find accepts a tree, their number is its rank, and where they find nothing more
-- all live states are found. Assumes nothing.
use Rattle.std.proofs.Common.{◌≡◌, ℕ, ◌+◌, ◌^◌, ◌<◌, ◌≤◌, Bool, true, false, cond, List, [], ◌∷◌, Some, None, Option, Decides, sym, refl, ap, ◌∙◌, subst, ⊎_elim, arith}
use lib.Bits.{bit_or, or_lt}
use Rattle.std.specs.List.{AllByRecursion, slice_get}
use Rattle.std.proofs.ByRecursion.{All-weaker}
use Rattle.std.proofs.lemmas.Bool.{and_parts, and_from, both_ways, cases_Bool, cases_eq, cases_lt, cond-true, cond-false, or_cases, or_left, or_parts, or_right}
use Rattle.codec.specs.Trees.{Tree, node, Children, none, child, word, height, heights}
use Rattle.bits.specs.Bits.{bit}
use Rattle.bits.proofs.Digits.{lowest_member}
use Rattle.schema.specs.Automata.{Automaton, passes, present, row_runs, has_next, allowed, accepts, accepts_all}
use Rattle.bits.specs.Below.{count_below}
use Rattle.schema.specs.Live.{FoundOver, NewlyFound, Rank, Ranked}
use Rattle.schema.specs.Rows.{RunsOverFrom}
use Rattle.schema.proofs.Bound.{passed}
use Rattle.bits.proofs.Counting.{count_le, count_full, count_grows}
use Rattle.bits.proofs.Members.{bit_zero, bit-bit_or}

-- two sets with the same members have the same sequences
pub runs_over_same : (A : Automaton) (q r : ℕ) (set other : ℕ → Bool) → ((a : ℕ) → set a ≡ other a) → RunsOverFrom A q set r → RunsOverFrom A q other r
runs_over_same A q r set other same h = (h.0, All-weaker (λ a. set a ≡ true) (λ a. other a ≡ true) (λ a in-set. sym (same a) ∙ in-set) h.0 h.1, h.2)

-- the state accepts a tree lower than m
abbrev Below : Automaton → ℕ → ℕ → Type 0
Below A m q = (t : Tree) × (accepts A q t ≡ true) × (height t < m)

-- after some rounds: the states that accept a tree lower than their number, and at each its rank is
-- noted
pub record AfterRounds (A : Automaton) (n live : ℕ) (ranks : List (Option ℕ)) (rounds : ℕ) : Type 0 where
  pub small : live < 2 ^ 64
  pub exact : (q : ℕ) → Decides (bit live q) ((q < n) × Below A rounds q)
  pub noted : (q : ℕ) → bit live q ≡ true → (m : ℕ) × (slice_get ranks q ≡ Some (Some m)) × (m < 64) × Rank A q m
  pub others : (q : ℕ) → q < 64 → bit live q ≡ false → slice_get ranks q ≡ Some None
  pub many : rounds ≤ count_below 64 (bit live)

module _ (A : Automaton) (n : ℕ) (few : n ≤ 64) (inside : (q a s : ℕ) → q < n → A.next q a ≡ Some s → s < n) where
  -- children for a sequence into states with trees lower than m
  record Grown (m q : ℕ) (w : List ℕ) : Type 0 where
    children : Children
    spells : word children ≡ w
    all : accepts_all A q children ≡ true
    next : has_next A q w ≡ true
    low : heights children ≤ m

  grow : (m : ℕ) (states : ℕ → Bool) → ((s : ℕ) → states s ≡ true → Below A m s) → (q : ℕ) (w : List ℕ) → AllByRecursion (λ a. passes (A.next q a) states ≡ true) w → Grown m q w
  grow m states lower q [] over = record { children = none; spells = refl; all = refl; next = refl; low = omega arith }
  grow m states lower q (a ∷ w) over =
      let s = passed (A.next q a) states over.0 in
      let t = lower s.0 s.2 in
      let rest = grow m states lower q w over.1 in
      record {
        children = child a t.0 rest.children;
        spells = ap (λ (u : List ℕ). a ∷ u) rest.spells;
        all = and_from _ _ (subst (λ o. passes o (λ s. accepts A s t.0) ≡ true) (sym s.1) t.1) rest.all;
        next = and_from _ _ (ap present s.1) rest.next;
        low = omega (arith, t.2, rest.low);
      }

  -- what is found over states with trees lower than m has one lower than m + 1
  found_below : (m : ℕ) (states : ℕ → Bool) → ((s : ℕ) → states s ≡ true → Below A m s) → (q : ℕ) → FoundOver A states q → Below A (m + 1) q
  found_below m states lower q f =
      let w = f.1.0 in
      let b = grow m states lower q w f.1.1 in (
        node f.0.0 b.children,
        and_from _ _ f.0.1 (and_from _ _ (subst (λ (u : List ℕ). allowed A q u ≡ true) (sym b.spells) (and_from _ _ f.1.2 b.next)) b.all),
        omega (arith, b.low),
      )

  -- a tree whose children are lower than m is found over the states that accept one lower than m
  found_of : (m : ℕ) (states : ℕ → Bool) → ((s : ℕ) → s < n → Below A m s → states s ≡ true) → (q : ℕ) → q < n → Below A (m + 1) q → FoundOver A states q
  found_of m states holds q low (node v cs, h, lower) =
      let value = and_parts (A.has q v) _ h in
      let content = and_parts (allowed A q (word cs)) _ value.1 in
      let runs = and_parts (row_runs A q 0 (word cs)) _ content.0 in
      ((v, value.0), (word cs, over cs content.1 (omega arith), runs.0))
    where
      over : (cs : Children) → accepts_all A q cs ≡ true → heights cs ≤ m → AllByRecursion (λ a. passes (A.next q a) states ≡ true) (word cs)
      over none h lower = tt
      over (child a t cs) h lower =
          let parts = and_parts (passes (A.next q a) (λ s. accepts A s t)) _ h in
          let s = passed (A.next q a) (λ s. accepts A s t) parts.0 in
          (subst (λ o. passes o states ≡ true) (sym s.1) (holds s.0 (inside q a s.0 low s.1) (t, s.2, omega arith)), over cs parts.1 (omega arith))

  pub no_round : (ranks : List (Option ℕ)) → ((q : ℕ) → q < 64 → slice_get ranks q ≡ Some None) → AfterRounds A n 0 ranks 0
  no_round ranks empty =
      record {
        small = omega arith;
        exact = λ q. (λ h. absurd (both_ways (bit 0 q) (bit_zero q) h), λ h. absurd (omega (arith, h.1.2)));
        noted = λ q h. absurd (both_ways (bit 0 q) (bit_zero q) h);
        others = λ q low out. empty q low;
        many = omega arith;
      }

  module _ (live : ℕ) (ranks : List (Option ℕ)) (rounds found : ℕ) (so : AfterRounds A n live ranks rounds) (round : (q : ℕ) → Decides (bit found q) ((q < n) × NewlyFound A (bit live) q)) (fits : found < 2 ^ 64) where
    lower : (s : ℕ) → bit live s ≡ true → Below A rounds s
    lower s there = ((so.exact s).0 there).1

    -- a state that the round found has a tree of the round's height and none lower
    new_rank : (q : ℕ) → bit found q ≡ true → Rank A q rounds
    new_rank q new =
        let told = (round q).0 new in
        let t = found_below rounds (bit live) lower q told.1.1 in
        let least = λ (u : Tree) (h : accepts A q u ≡ true). ⊎_elim (λ l. absurd (both_ways (bit live q) told.1.0 ((so.exact q).1 (told.0, (u, h, l))))) (λ g. g) (cases_lt (height u) rounds) in
        ((t.0, t.1, omega (arith, t.2, least t.0 t.1)), least)

    round_small : bit_or live found < 2 ^ 64
    round_small = or_lt 64 live found so.small fits

    -- a round that finds something finds a state that was not there
    first_new : (found ≡ 0 → ⊥) → (j : ℕ) × (bit found j ≡ true) × (bit live j ≡ false) × (j < 64)
    first_new some =
        let first = lowest_member found (positive found some) fits in
        let there = first.member in
        let told = (round _).0 there in
        (_, there, told.1.0, omega (arith, told.0))
      where
        positive : (m : ℕ) → (m ≡ 0 → ⊥) → 0 < m
        positive m some = ⊎_elim (λ e. absurd (some e)) (λ ne. omega (arith, ne)) (cases_eq m 0)

    more_found : (found ≡ 0 → ⊥) → count_below 64 (bit live) < count_below 64 (bit (bit_or live found))
    more_found some =
        let j = first_new some in
        count_grows (bit live) (bit (bit_or live found)) (λ i h. bit-bit_or live found i ∙ or_left _ _ h) 64 j.0 j.3 j.2 (bit-bit_or live found j.0 ∙ or_right (bit live j.0) _ j.1)

    more_many : (found ≡ 0 → ⊥) → rounds + 1 ≤ count_below 64 (bit (bit_or live found))
    more_many some = one_more _ _ so.many (more_found some)
      where
        one_more : (before after : ℕ) → rounds ≤ before → before < after → rounds + 1 ≤ after
        one_more before after h l = omega arith

    rounds_few : (found ≡ 0 → ⊥) → rounds < 64
    rounds_few some = below _ (more_many some) (count_le 64 (bit (bit_or live found)))
      where
        below : (after : ℕ) → rounds + 1 ≤ after → after ≤ 64 → rounds < 64
        below after h l = omega arith

    -- the round's number is noted at what the round found, and all else is as before
    module _ (some : found ≡ 0 → ⊥) (after : List (Option ℕ)) (notes : (q : ℕ) → q < 64 → slice_get after q ≡ cond (bit found q) (Some (Some rounds)) (slice_get ranks q)) where
      noted_old : (q : ℕ) → bit live q ≡ true → (m : ℕ) × (slice_get after q ≡ Some (Some m)) × (m < 64) × Rank A q m
      noted_old q old =
          let out = ⊎_elim (λ new. absurd (both_ways (bit live q) ((round q).0 new).1.0 old)) (λ out. out) (cases_Bool (bit found q)) in
          let before = so.noted q old in
          (before.0, notes q (omega (arith, ((so.exact q).0 old).0)) ∙ cond-false _ (Some (Some rounds)) (slice_get ranks q) out ∙ before.1, before.2, before.3)

      noted_new : (q : ℕ) → bit found q ≡ true → (m : ℕ) × (slice_get after q ≡ Some (Some m)) × (m < 64) × Rank A q m
      noted_new q new =
          (rounds, notes q (omega (arith, ((round q).0 new).0)) ∙ cond-true _ (Some (Some rounds)) (slice_get ranks q) new, rounds_few some, new_rank q new)

      noted_others : (q : ℕ) → q < 64 → bit (bit_or live found) q ≡ false → slice_get after q ≡ Some None
      noted_others q low out =
          let parts = or_parts (bit live q) (bit found q) (sym (bit-bit_or live found q) ∙ out) in
          notes q low ∙ cond-false _ (Some (Some rounds)) (slice_get ranks q) parts.1 ∙ so.others q low parts.0

      pub one_round : AfterRounds A n (bit_or live found) after (rounds + 1)
      one_round =
          record {
            small = round_small;
            exact = λ q. (
              λ h.
                  ⊎_elim
                  (λ old. let told = (so.exact q).0 old in (told.0, (told.1.0, told.1.1, omega (arith, told.1.2))))
                  (λ new. let told = (round q).0 new in (told.0, found_below rounds (bit live) lower q told.1.1))
                  (or_cases (bit live q) (bit found q) (sym (bit-bit_or live found q) ∙ h)),
              λ h.
                  bit-bit_or live found q
                  ∙ ⊎_elim
                  (λ old. or_left _ _ old)
                  (λ out. or_right (bit live q) _ ((round q).1 (h.0, (out, found_of rounds (bit live) (λ s low b. (so.exact s).1 (low, b)) q h.0 h.1))))
                  (cases_Bool (bit live q)),
            );
            noted = λ q h. ⊎_elim (noted_old q) (noted_new q) (or_cases (bit live q) (bit found q) (sym (bit-bit_or live found q) ∙ h));
            others = noted_others;
            many = more_many some;
          }

    -- where nothing more is found, every state that accepts a tree is in the set
    mutual
      all_found : found ≡ 0 → (q : ℕ) (t : Tree) → q < n → accepts A q t ≡ true → bit live q ≡ true
      all_found end q (node v cs) low h =
          let value = and_parts (A.has q v) _ h in
          let content = and_parts (allowed A q (word cs)) _ value.1 in
          let runs = and_parts (row_runs A q 0 (word cs)) _ content.0 in
          let f : FoundOver A (bit live) q = ((v, value.0), (word cs, all_below end q cs low content.1, runs.0)) in
          ⊎_elim (λ there. there) (λ out. absurd (both_ways (bit found q) (ap (λ (m : ℕ). bit m q) end ∙ bit_zero q) ((round q).1 (low, (out, f))))) (cases_Bool (bit live q))

      all_below : found ≡ 0 → (q : ℕ) (cs : Children) → q < n → accepts_all A q cs ≡ true → AllByRecursion (λ a. passes (A.next q a) (bit live) ≡ true) (word cs)
      all_below end q none low h = tt
      all_below end q (child a t cs) low h =
          let parts = and_parts (passes (A.next q a) (λ s. accepts A s t)) _ h in
          let s = passed (A.next q a) (λ s. accepts A s t) parts.0 in
          (subst (λ o. passes o (bit live) ≡ true) (sym s.1) (all_found end s.0 t (inside q a s.0 low s.1) s.2), all_below end q cs low parts.1)

    pub finished : found ≡ 0 → Ranked A n live ranks
    finished end = record { live = λ q. (λ h. let told = (so.exact q).0 h in (told.0, (told.1.0, told.1.1)), λ h. all_found end q h.1.0 h.0 h.1.1); noted = so.noted; others = so.others }

  -- after as many rounds as there are numbers below 64 every state is found
  pub all_rounds : (live : ℕ) (ranks : List (Option ℕ)) (rounds : ℕ) → AfterRounds A n live ranks rounds → 64 ≤ rounds → Ranked A n live ranks
  all_rounds live ranks rounds so enough =
      record {
        live = λ q. (λ h. let told = (so.exact q).0 h in (told.0, (told.1.0, told.1.1)), λ h. count_full (bit live) 64 (omega (arith, so.many, enough)) q (omega (arith, h.0, few)));
        noted = so.noted;
        others = so.others;
      }
