-- Reading gives a number, and a tree, exactly where the bytes begin with its encoding. Assumes
-- nothing.
use Rattle.std.proofs.Common.{◌≡◌, ℕ, zero, suc, ◌+◌, ◌-◌, ◌*◌, ◌/◌, ◌%◌, ◌^◌, ◌<◌, ◌≤◌, Bool, true, false, cond, ◌&&◌, ◌||◌, eqb, ltb, ◌⊎◌, List, [], ◌∷◌, ◌++◌, length, sym, refl, ap, ◌∙◌, subst, inl, inr, ⊎_elim, append_assoc, arith}
use native.Mathlib.Nat.{div-add-mod}
use Rattle.std.specs.List.{AllByRecursion}
use Rattle.std.proofs.lemmas.Nat.{pow-add, pow_below, shr_below}
use Rattle.std.proofs.lemmas.Bool.{cases_lt, cases_Bool, cond-true, cond-false, lt-ltb, le-ltb, ltb-true, eqb-false, ltb-false, ne_eqb, or_parts}
use Rattle.std.proofs.lemmas.Bool.Decides.{nat_tests}
use Rattle.refusal.specs.declared.fault.Fault.TheVariants as fault
use Rattle.refusal.specs.declared.fault.Refusal.{Refusal}
use Rattle.codec.specs.Encoding.{tree_bytes, children_bytes, Proper, ProperAll, Encodes, ReadsEncodings}
use Rattle.codec.specs.Numbers.{Got, got, stop, above, stop_at, groups_of, number_bytes, read_groups, read_number}
use Rattle.codec.specs.Reading.{ReadingExamples, then, read_symbol, read_children, read_tree}
use Rattle.codec.specs.Trees.{Tree, node, Children, none, child, many, height, heights}

-- what was read is no refusal, and is one thing only
not_stop : {X : Type 0} {x : X} {rest : List ℕ} {e : Refusal} → ◌≡◌ {A = Got X} (stop e) (got x rest) → ⊥
not_stop e = let z : ◌≡◌ {A = ℕ} 0 1 = cc in omega arith

same_value : {X : Type 0} {x y : X} {r s : List ℕ} → ◌≡◌ {A = Got X} (got x r) (got y s) → x ≡ y
same_value e = cc

same_rest : {X : Type 0} {x y : X} {r s : List ℕ} → ◌≡◌ {A = Got X} (got x r) (got y s) → r ≡ s
same_rest e = cc

-- the bytes after some bytes are bytes too
all_after : (xs ys : List ℕ) → AllByRecursion (λ b. b < 256) (xs ++ ys) → AllByRecursion (λ b. b < 256) ys
all_after [] ys all = all
all_after (x ∷ xs) ys all = all_after xs ys all.1

module _ (at end : ℕ) where
  -- a group, with at most k + 1 more where those after it read back
  group_back : (k : ℕ) (some : Bool) (n : ℕ) (rest : List ℕ) → (some ≡ true → 0 < n) → (128 ≤ n → read_groups at end k true (groups_of k (n / 128) ++ rest) ≡ got (n / 128) rest) → read_groups at end (suc k) some (groups_of (suc k) n ++ rest) ≡ got n rest
  group_back k some n rest positive later =
      ⊎_elim
      (λ low.
      ap (λ (bs : List ℕ). read_groups at end (suc k) some (bs ++ rest)) (cond-true (ltb n 128) (n ∷ []) ((n % 128 + 128) ∷ groups_of k (n / 128)) (lt-ltb n 128 low))
      ∙ cond-true (ltb n 128) _ _ (lt-ltb n 128 low) ∙ cond-false (some && eqb n 0) _ _ (last some positive))
      (λ high.
      ap (λ (bs : List ℕ). read_groups at end (suc k) some (bs ++ rest)) (cond-false (ltb n 128) (n ∷ []) ((n % 128 + 128) ∷ groups_of k (n / 128)) (le-ltb n 128 high))
      ∙ cond-false (ltb (n % 128 + 128) 128) _ _ (le-ltb (n % 128 + 128) 128 (omega arith)) ∙ ap (above (n % 128 + 128 - 128)) (later high)
      ∙ ap (λ (m : ℕ). got m rest) (omega (arith, div-add-mod n 128)))
      (cases_lt n 128)
    where
      last : (b : Bool) → (b ≡ true → 0 < n) → (b && eqb n 0) ≡ false
      last true positive = ne_eqb n 0 (λ e. omega (arith, positive refl))
      last false positive = refl

  -- groups after the first read back as the number that they spell
  later_back : (k n : ℕ) (rest : List ℕ) → 0 < n → n < 2 ^ (4 + 7 * k) → read_groups at end k true (groups_of k n ++ rest) ≡ got n rest
  later_back zero n rest some fits = grind (arith, nat_tests)
  later_back (suc k) n rest some fits =
      let bits : 4 + 7 * k + 7 ≡ 4 + 7 * suc k = omega arith in
      group_back k true n rest (λ _. some)
      (λ high. later_back k (n / 128) rest (omega arith) (shr_below n (4 + 7 * k) 7 (subst (λ (m : ℕ). n < 2 ^ m) (sym bits) fits)))

  pub number_back : (n : ℕ) (rest : List ℕ) → n < 2 ^ 32 → read_groups at end 4 false (number_bytes n ++ rest) ≡ got n rest
  number_back n rest fits =
      group_back 3 false n rest (λ e. absurd (let z : ◌≡◌ {A = ℕ} 0 1 = cc in omega arith)) (λ high. later_back 3 (n / 128) rest (omega arith) (shr_below n 25 7 fits))

  -- what was read of groups spells them
  record Spelled (k : ℕ) (some : Bool) (n : ℕ) (bs rest : List ℕ) : Type 0 where
    bytes : bs ≡ groups_of k n ++ rest
    fits : n < 2 ^ (4 + 7 * k)
    positive : some ≡ true → 0 < n

  -- the last group
  last_only : (k : ℕ) (some : Bool) (b n : ℕ) (bs rest : List ℕ) → b < 128 → cond (some && eqb b 0) (stop_at fault.Number at) (got b bs) ≡ got n rest → Spelled (suc k) some n (b ∷ bs) rest
  last_only k some b n bs rest low h =
      ⊎_elim
      (λ zero. absurd (not_stop (sym (cond-true (some && eqb b 0) _ _ zero) ∙ h)))
      (λ right.
      let is = sym (cond-false (some && eqb b 0) _ _ right) ∙ h in
      let value = same_value is in
      let same = same_rest is in
      record {
        bytes = (λ i. value i ∷ same i) ∙ ap (λ (l : List ℕ). l ++ rest) (sym (cond-true (ltb n 128) (n ∷ []) ((n % 128 + 128) ∷ groups_of k (n / 128)) (lt-ltb n 128 (omega arith))));
        fits = omega (arith, pow_below 7 (4 + 7 * suc k) (omega arith));
        positive = λ e. let apart = eqb-false b 0 (sym (ap (λ (s : Bool). s && eqb b 0) e) ∙ right) in ⊎_elim (λ z. absurd (apart z)) (λ z. omega arith) (zero_or b);
      })
      (cases_Bool (some && eqb b 0))
    where
      zero_or : (m : ℕ) → (m ≡ 0) ⊎ (0 < m)
      zero_or zero = inl refl
      zero_or (suc m) = inr (omega arith)

  -- one group above those that were read
  above_only : (low : ℕ) (g : Got ℕ) (n : ℕ) (rest : List ℕ) → above low g ≡ got n rest → (high : ℕ) × (g ≡ got high rest) × (n ≡ low + 128 * high)
  above_only low (got high r) n rest h = (high, ap (λ (l : List ℕ). got high l) (same_rest h), sym (same_value h))
  above_only low (stop e) n rest h = absurd (not_stop h)

  groups_only : (k : ℕ) (some : Bool) (n : ℕ) (bs rest : List ℕ) → (k ≡ 0 → some ≡ true) → AllByRecursion (λ b. b < 256) bs → read_groups at end k some bs ≡ got n rest → Spelled k some n bs rest
  groups_only zero some n [] rest later bytes h = absurd (not_stop h)
  groups_only (suc k) some n [] rest later bytes h = absurd (not_stop h)
  groups_only zero some n (b ∷ bs) rest later bytes h =
      ⊎_elim
      (λ wrong. absurd (not_stop (sym (cond-true (eqb b 0 || ltb 15 b) _ _ wrong) ∙ h)))
      (λ right.
      let is = sym (cond-false (eqb b 0 || ltb 15 b) _ _ right) ∙ h in
      let value = same_value is in
      let same = same_rest is in
      let parts = or_parts (eqb b 0) (ltb 15 b) right in
      record { bytes = (λ i. value i ∷ same i); fits = omega (arith, ltb-false 15 b parts.1); positive = λ e. grind (arith, nat_tests) })
      (cases_Bool (eqb b 0 || ltb 15 b))
  groups_only (suc k) some n (b ∷ bs) rest later bytes h =
      ⊎_elim
      (λ low. last_only k some b n bs rest low (sym (cond-true (ltb b 128) _ _ (lt-ltb b 128 low)) ∙ h))
      (λ high.
      let up = above_only (b - 128) (read_groups at end k true bs) n rest (sym (cond-false (ltb b 128) _ _ (le-ltb b 128 high)) ∙ h) in
      let more = groups_only k true up.0 bs rest (λ _. refl) bytes.1 up.1 in
      let byte = bytes.0 in
      let positive = more.positive refl in
      let sum = up.2 in
      let low : n % 128 + 128 ≡ b = omega arith in
      let rise : n / 128 ≡ up.0 = omega arith in
      let bits : 4 + 7 * k + 7 ≡ 4 + 7 * suc k = omega arith in
      let scale = pow-add 2 (4 + 7 * k) 7 in
      record {
        bytes = (λ i. sym low i ∷ more.bytes i) ∙ ap (λ (m : ℕ). (n % 128 + 128) ∷ (groups_of k m ++ rest)) (sym rise)
            ∙ ap (λ (l : List ℕ). l ++ rest) (sym (cond-false (ltb n 128) (n ∷ []) ((n % 128 + 128) ∷ groups_of k (n / 128)) (le-ltb n 128 (omega arith))));
        fits = subst (λ (m : ℕ). n < 2 ^ m) bits (omega (arith, scale, more.fits));
        positive = λ e. omega arith;
      })
      (cases_lt b 128)

  pub number_only : (n : ℕ) (bs rest : List ℕ) → AllByRecursion (λ b. b < 256) bs → read_groups at end 4 false bs ≡ got n rest → (bs ≡ number_bytes n ++ rest) × (n < 2 ^ 32)
  number_only n bs rest bytes h =
      let so = groups_only 4 false n bs rest (λ e. absurd (omega arith)) bytes h in
      (so.bytes, so.fits)

-- what was read one after the other
then_got : {X Y : Type 0} (g : Got X) (f : X → List ℕ → Got Y) (y : Y) (rest : List ℕ) → then g f ≡ got y rest → (x : X) × (r : List ℕ) × (g ≡ got x r) × (f x r ≡ got y rest)
then_got (got x r) f y rest h = (x, r, refl, h)
then_got (stop e) f y rest h = absurd (not_stop h)

module _ (end s : ℕ) where
  -- what follows a node's value, and its child count
  abbrev after_count : ℕ → ℕ → ℕ → List ℕ → Got Tree
  after_count levels v n rest = then (read_children end s (read_tree end s levels) n rest) (λ cs rest. got (node v cs) rest)

  abbrev after_value : ℕ → ℕ → List ℕ → Got Tree
  after_value levels v rest = then (read_number end rest) (after_count levels v)

  -- what follows a child's tree, and its symbol
  abbrev after_tree : ℕ → ℕ → ℕ → Tree → List ℕ → Got Children
  after_tree levels n a t rest = then (read_children end s (read_tree end s levels) n rest) (λ cs rest. got (child a t cs) rest)

  abbrev after_symbol : ℕ → ℕ → ℕ → List ℕ → Got Children
  after_symbol levels n a rest = then (read_tree end s levels rest) (after_tree levels n a)

  -- the test of a symbol that was read from the bytes
  abbrev tested : List ℕ → ℕ → List ℕ → Got ℕ
  tested bs a rest = cond (ltb a s) (got a rest) (stop_at fault.Symbol (end - length bs))

  symbol_back : (a : ℕ) (rest : List ℕ) → s ≤ 2 ^ 32 → a < s → read_symbol end s (number_bytes a ++ rest) ≡ got a rest
  symbol_back a rest few inside =
      ap (λ (g : Got ℕ). then g (tested (number_bytes a ++ rest))) (number_back (end - length (number_bytes a ++ rest)) end a rest (omega arith)) ∙ cond-true (ltb a s) _ _ (lt-ltb a s inside)

  module _ (few : s ≤ 2 ^ 32) where
    mutual
      tree_back : (t : Tree) (levels : ℕ) (rest : List ℕ) → Proper s t → height t < levels → read_tree end s levels (tree_bytes t ++ rest) ≡ got t rest
      tree_back (node v cs) zero rest proper fits = absurd (omega arith)
      tree_back (node v cs) (suc levels) rest proper fits =
          let body = children_bytes cs ++ rest in
          let counted = number_bytes (many cs) ++ body in
          ap (read_tree end s (suc levels)) (append_assoc (number_bytes v) _ rest ∙ ap (λ (l : List ℕ). number_bytes v ++ l) (append_assoc (number_bytes (many cs)) (children_bytes cs) rest))
          ∙ ap (λ (g : Got ℕ). then g (after_value levels)) (number_back (end - length (number_bytes v ++ counted)) end v counted proper.0)
          ∙ ap (λ (g : Got ℕ). then g (after_count levels v)) (number_back (end - length counted) end (many cs) body proper.1)
          ∙ ap (λ (g : Got Children). then g (λ cs rest. got (node v cs) rest)) (children_back cs levels rest proper.2 (omega arith))

      children_back : (cs : Children) (levels : ℕ) (rest : List ℕ) → ProperAll s cs → heights cs ≤ levels → read_children end s (read_tree end s levels) (many cs) (children_bytes cs ++ rest) ≡ got cs rest
      children_back none levels rest proper fits = refl
      children_back (child a t cs) levels rest proper fits =
          let others = children_bytes cs ++ rest in
          let body = tree_bytes t ++ others in
          ap (read_children end s (read_tree end s levels) (suc (many cs))) (append_assoc (number_bytes a) _ rest ∙ ap (λ (l : List ℕ). number_bytes a ++ l) (append_assoc (tree_bytes t) (children_bytes cs) rest))
          ∙ ap (λ (g : Got ℕ). then g (after_symbol levels (many cs))) (symbol_back a body few proper.0)
          ∙ ap (λ (g : Got Tree). then g (after_tree levels (many cs) a)) (tree_back t levels others proper.1 (omega arith))
          ∙ ap (λ (g : Got Children). then g (λ cs rest. got (child a t cs) rest)) (children_back cs levels rest proper.2 (omega arith))

  -- the children that were read, in their bytes
  record SpelledAll (levels n : ℕ) (cs : Children) (bs rest : List ℕ) : Type 0 where
    bytes : bs ≡ children_bytes cs ++ rest
    proper : ProperAll s cs
    fits : heights cs ≤ levels
    all : many cs ≡ n

  symbol_only : (a : ℕ) (bs rest : List ℕ) → AllByRecursion (λ b. b < 256) bs → read_symbol end s bs ≡ got a rest → (bs ≡ number_bytes a ++ rest) × (a < s)
  symbol_only a bs rest bytes h =
      let t = then_got (read_number end bs) (tested bs) a rest h in
      ⊎_elim
      (λ inside.
      let is = sym (cond-true (ltb t.0 s) _ _ inside) ∙ t.3 in
      let value = same_value is in
      let o = number_only (end - length bs) end t.0 bs t.1 bytes t.2 in
      (o.0 ∙ (λ i. number_bytes (value i) ++ same_rest is i), subst (λ (m : ℕ). m < s) value (ltb-true t.0 s inside)))
      (λ outside. absurd (not_stop (sym (cond-false (ltb t.0 s) _ _ outside) ∙ t.3)))
      (cases_Bool (ltb t.0 s))

  -- the children, where trees of that many levels are known to be read from their encodings
  children_only : (levels : ℕ) → ((t : Tree) (bs rest : List ℕ) → AllByRecursion (λ b. b < 256) bs → read_tree end s levels bs ≡ got t rest → Encodes s levels t bs rest) → (n : ℕ) (cs : Children) (bs rest : List ℕ) → AllByRecursion (λ b. b < 256) bs → read_children end s (read_tree end s levels) n bs ≡ got cs rest → SpelledAll levels n cs bs rest
  children_only levels trees zero cs bs rest bytes h =
      subst (λ (c : Children). SpelledAll levels 0 c bs rest) (same_value h) (record { bytes = same_rest h; proper = tt; fits = omega arith; all = refl })
  children_only levels trees (suc n) cs bs rest bytes h =
      let first = then_got (read_symbol end s bs) (after_symbol levels n) cs rest h in
      let a = first.0 in
      let symbol = symbol_only a bs first.1 bytes first.2 in
      let left = all_after (number_bytes a) first.1 (subst (AllByRecursion (λ b. b < 256)) symbol.0 bytes) in
      let second = then_got (read_tree end s levels first.1) (after_tree levels n a) cs rest first.3 in
      let t = second.0 in
      let tree = trees t first.1 second.1 left second.2 in
      let left = all_after (tree_bytes t) second.1 (subst (AllByRecursion (λ b. b < 256)) tree.bytes left) in
      let third = then_got (read_children end s (read_tree end s levels) n second.1) (λ cs rest. got (child a t cs) rest) cs rest second.3 in
      let others = children_only levels trees n third.0 second.1 third.1 left third.2 in
      let same = same_rest third.3 in
      subst (λ (c : Children). SpelledAll levels (suc n) c bs rest) (same_value third.3)
      (record {
        bytes = symbol.0 ∙ ap (λ (l : List ℕ). number_bytes a ++ l) (tree.bytes ∙ ap (λ (l : List ℕ). tree_bytes t ++ l) (others.bytes ∙ ap (λ (l : List ℕ). children_bytes third.0 ++ l) same) ∙ sym (append_assoc (tree_bytes t) (children_bytes third.0) rest))
            ∙ sym (append_assoc (number_bytes a) (tree_bytes t ++ children_bytes third.0) rest);
        proper = (symbol.1, tree.proper, others.proper);
        fits = omega (arith, tree.fits, others.fits);
        all = ap suc others.all;
      })

  tree_only : (levels : ℕ) (t : Tree) (bs rest : List ℕ) → AllByRecursion (λ b. b < 256) bs → read_tree end s levels bs ≡ got t rest → Encodes s levels t bs rest
  tree_only zero t bs rest bytes h = absurd (not_stop h)
  tree_only (suc levels) t bs rest bytes h =
      let first = then_got (read_number end bs) (after_value levels) t rest h in
      let v = first.0 in
      let value = number_only (end - length bs) end v bs first.1 bytes first.2 in
      let left = all_after (number_bytes v) first.1 (subst (AllByRecursion (λ b. b < 256)) value.0 bytes) in
      let second = then_got (read_number end first.1) (after_count levels v) t rest first.3 in
      let n = second.0 in
      let count = number_only (end - length first.1) end n first.1 second.1 left second.2 in
      let left = all_after (number_bytes n) second.1 (subst (AllByRecursion (λ b. b < 256)) count.0 left) in
      let third = then_got (read_children end s (read_tree end s levels) n second.1) (λ cs rest. got (node v cs) rest) t rest second.3 in
      let cs = third.0 in
      let others = children_only levels (tree_only levels) n cs second.1 third.1 left third.2 in
      let same = same_rest third.3 in
      subst (λ (u : Tree). Encodes s (suc levels) u bs rest) (same_value third.3)
      (record {
        bytes = value.0 ∙ ap (λ (l : List ℕ). number_bytes v ++ l) (count.0 ∙ (λ i. number_bytes (sym others.all i) ++ (others.bytes ∙ ap (λ (l : List ℕ). children_bytes cs ++ l) same) i) ∙ sym (append_assoc (number_bytes (many cs)) (children_bytes cs) rest))
            ∙ sym (append_assoc (number_bytes v) (number_bytes (many cs) ++ children_bytes cs) rest);
        proper = (value.1, subst (λ (m : ℕ). m < 2 ^ 32) (sym others.all) count.1, others.proper);
        fits = omega (arith, others.fits);
      })

reading_examples : ReadingExamples
reading_examples = record {
  one_node = refl;
  one_child = refl;
  no_byte = refl;
  no_count = refl;
  no_child = refl;
  wrong_value = refl;
  wrong_count = refl;
  other_symbol = refl;
  too_deep = refl;
  deep_before_short = refl;
  symbol_before_deep = refl;
  left_over = refl;
}

pub reads_encodings : ReadsEncodings
reads_encodings =
    record {
      back = λ end s levels t bs rest few e. ap (read_tree end s levels) e.bytes ∙ tree_back end s few t levels rest e.proper e.fits;
      only = λ end s levels t bs rest bytes h. tree_only end s levels t bs rest bytes h;
      one = λ t u proper-t proper-u same.
          let back-t = tree_back 0 (2 ^ 32) (omega arith) t (height t + height u + 1) [] proper-t (omega arith) in
          let back_u = tree_back 0 (2 ^ 32) (omega arith) u (height t + height u + 1) [] proper-u (omega arith) in
          same_value (sym back-t ∙ ap (λ (bs : List ℕ). read_tree 0 (2 ^ 32) (height t + height u + 1) (bs ++ [])) same ∙ back_u);
      examples = reading_examples;
    }
