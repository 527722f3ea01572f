-- What is left to do in the middle of a tree, and that each item leaves the outcome as it was. Assumes nothing.
use Rattle.std.proofs.Common.{◌≡◌, ℕ, suc, ◌-◌, ◌<◌, ◌≤◌, Bool, true, false, cond, ◌&&◌, ltb, List, [], ◌∷◌, ◌++◌, reverse, length, Some, None, Ok, Err, Option, Result, sym, refl, ap, ◌∙◌, subst, ⊎_elim, arith}
use mathlib.Core.List.{reverse-append}
use Rattle.std.specs.Bool.{then_some}
use Rattle.std.specs.Option.{unwrap_or}
use Rattle.std.proofs.lemmas.List.{length_push}
use Rattle.std.proofs.lemmas.Bool.{true≢false, cond-true, cond-false, lt-ltb, le-ltb}
use Rattle.refusal.specs.declared.fault.Fault.TheVariants as fault
use Rattle.refusal.specs.declared.fault.Refusal.{Refusal}
use Rattle.codec.specs.declared.item.Level.{Level}
use Rattle.codec.specs.Items.{Midway, read_two, Opens, Names, Closes, NodeFault, SymbolFault, Progress, midway, kept, Keeps}
use Rattle.codec.specs.Piles.{topmost, Replaced}
use Rattle.codec.proofs.Slots.{topmost_of, over_top}
use Rattle.codec.specs.Numbers.{Got, got, stop, read_number, stop_at}
use Rattle.codec.specs.Reading.{then, read_symbol, read_children, read_tree}
use Rattle.codec.specs.Trees.{Tree, node, Children, child, word}
use Rattle.schema.specs.Automata.{Automaton, passes, present, row_runs, has_next, accepts, accepts_all}
use Rattle.checking.specs.declared.cursor.Cursor.{Cursor}
use Rattle.checking.specs.Steps.{answer_if, both_known, TakesSymbol}

-- what comes of something that was read
abbrev pub on_got : {X : Type 0} → Got X → (X → List ℕ → Result Bool Refusal) → Result Bool Refusal
on_got (got x rest) f = f x rest
on_got (stop e) f = Err e

module _ (A : Automaton) (end s : ℕ) where
  -- the children that are left at a node, from a row of its state on, are accepted
  abbrev pub rest_accepted : ℕ → ℕ → Children → Bool
  rest_accepted q r cs = row_runs A q r (word cs) && (has_next A q (word cs) && accepts_all A q cs)

  -- the root has ended: nothing may follow
  abbrev pub ended : Bool → List ℕ → Result Bool Refusal
  ended ok [] = Ok ok
  ended ok (b ∷ bs) = Err (record { fault = fault.Rest; place = end - length (b ∷ bs) })

  -- the outcome inside the nodes on the pile, the top one first, with some levels left
  abbrev pub finish : Bool → List (Level Cursor) → ℕ → List ℕ → Result Bool Refusal
  finish ok [] l bs = ended ok bs
  finish ok (f ∷ fs) l bs = on_got (read_children end s (read_tree end s l) f.left bs) (λ cs rest. finish (ok && rest_accepted f.at.state f.at.row cs) fs (suc l) rest)

  -- the outcome before a node that must be accepted by state q
  abbrev pub pending : Bool → ℕ → List (Level Cursor) → ℕ → List ℕ → Result Bool Refusal
  pending ok q fs l bs = on_got (read_tree end s l bs) (λ t rest. finish (ok && accepts A q t) fs l rest)

  -- the outcome by whether a node comes next, for an answer so far; after a no it does not matter by which state
  abbrev pub going : Bool → Option ℕ → List (Level Cursor) → ℕ → List ℕ → Result Bool Refusal
  going true answer fs l bs = pending (present answer) (unwrap_or answer 0) fs l bs
  going false answer fs l bs = finish (present answer) fs l bs

  -- what follows a node's value and child count
  abbrev below : ℕ → ℕ × ℕ → List ℕ → Got Tree
  below l p rest = then (read_children end s (read_tree end s l) p.1 rest) (λ cs rest. got (node p.0 cs) rest)

  two_then : (l : ℕ) (bs : List ℕ) → read_tree end s (suc l) bs ≡ then (read_two end bs) (below l)
  two_then l bs = by (read_number end bs)
    where
      second : (v : ℕ) (g : Got ℕ) → then g (λ n rest. below l (v, n) rest) ≡ then (then g (λ n rest. got (v, n) rest)) (below l)
      second v (got n rest) = refl
      second v (stop e) = refl

      by : (g : Got ℕ) → then g (λ v rest. then (read_number end rest) (λ n rest. below l (v, n) rest)) ≡ then (then g (λ v rest. then (read_number end rest) (λ n rest. got (v, n) rest))) (below l)
      by (got v rest) = second v (read_number end rest)
      by (stop e) = refl

  pub opens : (ok : Bool) (q : ℕ) (fs : List (Level Cursor)) (l v n : ℕ) (bs rest : List ℕ) → read_two end bs ≡ got (v, n) rest → pending ok q fs (suc l) bs ≡ finish (ok && A.has q v) (record { left = n; at = record { state = q; row = 0 } } ∷ fs) l rest
  opens ok q fs l v n bs rest reads =
      ap (λ (g : Got Tree). on_got g (λ t rest. finish (ok && accepts A q t) fs (suc l) rest)) (two_then l bs ∙ ap (λ g. then g (below l)) reads)
      ∙ by (read_children end s (read_tree end s l) n rest)
    where
      same : (h a b c : Bool) → (ok && (h && ((a && b) && c))) ≡ ((ok && h) && (a && (b && c)))
      same h a b c = grind arith

      by : (g : Got Children) → on_got (then g (λ cs rest. got (node v cs) rest)) (λ t rest. finish (ok && accepts A q t) fs (suc l) rest) ≡ on_got g (λ cs rest. finish ((ok && A.has q v) && rest_accepted q 0 cs) fs (suc l) rest)
      by (got cs rest) = ap (λ (b : Bool). finish b fs (suc l) rest) (same (A.has q v) (row_runs A q 0 (word cs)) (has_next A q (word cs)) (accepts_all A q cs))
      by (stop e) = refl

  pub no_node : (ok : Bool) (q : ℕ) (fs : List (Level Cursor)) (l : ℕ) (bs : List ℕ) (e : Refusal) → read_two end bs ≡ stop e → pending ok q fs (suc l) bs ≡ Err e
  no_node ok q fs l bs e reads = ap (λ (g : Got Tree). on_got g (λ t rest. finish (ok && accepts A q t) fs (suc l) rest)) (two_then l bs ∙ ap (λ g. then g (below l)) reads)

  pub closes : (ok : Bool) (f : Level Cursor) (fs : List (Level Cursor)) (l : ℕ) (bs : List ℕ) → f.left ≡ 0 → finish ok (f ∷ fs) l bs ≡ finish (ok && A.ends f.at.state f.at.row) fs (suc l) bs
  closes ok f fs l bs done =
      ap (λ (n : ℕ). on_got (read_children end s (read_tree end s l) n bs) (λ cs rest. finish (ok && rest_accepted f.at.state f.at.row cs) fs (suc l) rest)) done
      ∙ ap (λ (b : Bool). finish (ok && b) fs (suc l) bs) (and_true (A.ends f.at.state f.at.row))
    where
      and_true : (b : Bool) → (b && (true && true)) ≡ b
      and_true true = refl
      and_true false = refl

  -- a node with a child left
  module _ (ok : Bool) (f : Level Cursor) (fs : List (Level Cursor)) (l : ℕ) (bs : List ℕ) (some : 0 < f.left) where
    abbrev q : ℕ
    q = f.at.state

    abbrev r : ℕ
    r = f.at.row

    -- what follows the child's symbol
    abbrev onward : ℕ → List ℕ → Got Children
    onward a rest = then (read_tree end s l rest) (λ t rest. then (read_children end s (read_tree end s l) (f.left - 1) rest) (λ cs rest. got (child a t cs) rest))

    unrolled : finish ok (f ∷ fs) l bs ≡ on_got (then (read_symbol end s bs) onward) (λ cs rest. finish (ok && rest_accepted q r cs) fs (suc l) rest)
    unrolled =
        let one : f.left ≡ suc (f.left - 1) = omega arith in
        ap (λ (n : ℕ). on_got (read_children end s (read_tree end s l) n bs) (λ cs rest. finish (ok && rest_accepted q r cs) fs (suc l) rest)) one

    pub no_symbol : (e : Refusal) → read_number end bs ≡ stop e → finish ok (f ∷ fs) l bs ≡ Err e
    no_symbol e reads =
        unrolled
        ∙ ap (λ (g : Got ℕ). on_got (then (then g (λ a rest. cond (ltb a s) (got a rest) (stop_at fault.Symbol (end - length bs)))) onward) (λ cs rest. finish (ok && rest_accepted q r cs) fs (suc l) rest)) reads

    module _ (a : ℕ) (rest : List ℕ) (reads : read_number end bs ≡ got a rest) where
      read_it : (g : Got ℕ) → cond (ltb a s) (got a rest) (stop_at fault.Symbol (end - length bs)) ≡ g → finish ok (f ∷ fs) l bs ≡ on_got (then g onward) (λ cs rest. finish (ok && rest_accepted q r cs) fs (suc l) rest)
      read_it g is =
          unrolled
          ∙ ap (λ (g : Got ℕ). on_got (then (then g (λ a rest. cond (ltb a s) (got a rest) (stop_at fault.Symbol (end - length bs)))) onward) (λ cs rest. finish (ok && rest_accepted q r cs) fs (suc l) rest)) reads
          ∙ ap (λ (g : Got ℕ). on_got (then g onward) (λ cs rest. finish (ok && rest_accepted q r cs) fs (suc l) rest)) is

      pub strange_symbol : s ≤ a → finish ok (f ∷ fs) l bs ≡ Err (record { fault = fault.Symbol; place = end - length bs })
      strange_symbol past = read_it _ (cond-false (ltb a s) _ _ (le-ltb a s past))

      -- the child and the others after it, whatever they do to the answer
      names : a < s → (f' : Level Cursor) (ok' : Bool) (q' : ℕ) → f'.left ≡ f.left - 1 → ((t : Tree) (cs : Children) → (ok && rest_accepted q r (child a t cs)) ≡ ((ok' && accepts A q' t) && rest_accepted f'.at.state f'.at.row cs)) → finish ok (f ∷ fs) l bs ≡ pending ok' q' (f' ∷ fs) l rest
      names inside f' ok' q' fewer same =
          read_it _ (cond-true (ltb a s) _ _ (lt-ltb a s inside)) ∙ by (read_tree end s l rest)
          ∙ ap (λ (n : ℕ). on_got (read_tree end s l rest) (λ t rest. on_got (read_children end s (read_tree end s l) n rest) (λ cs rest. finish ((ok' && accepts A q' t) && rest_accepted f'.at.state f'.at.row cs) fs (suc l) rest))) (sym fewer)
        where
          others : (t : Tree) (g : Got Children) → on_got (then g (λ cs rest. got (child a t cs) rest)) (λ cs rest. finish (ok && rest_accepted q r cs) fs (suc l) rest) ≡ on_got g (λ cs rest. finish ((ok' && accepts A q' t) && rest_accepted f'.at.state f'.at.row cs) fs (suc l) rest)
          others t (got cs rest) = ap (λ (b : Bool). finish b fs (suc l) rest) (same t cs)
          others t (stop e) = refl

          by : (g : Got Tree) → on_got (then g (λ t rest. then (read_children end s (read_tree end s l) (f.left - 1) rest) (λ cs rest. got (child a t cs) rest))) (λ cs rest. finish (ok && rest_accepted q r cs) fs (suc l) rest) ≡ on_got g (λ t rest. on_got (read_children end s (read_tree end s l) (f.left - 1) rest) (λ cs rest. finish ((ok' && accepts A q' t) && rest_accepted f'.at.state f'.at.row cs) fs (suc l) rest))
          by (got t rest) = others t (read_children end s (read_tree end s l) (f.left - 1) rest)
          by (stop e) = refl

      pub names_on : a < s → (f' : Level Cursor) (r' q' : ℕ) → f'.left ≡ f.left - 1 → f'.at ≡ record { state = q; row = r' } → A.step q r a ≡ Some r' → A.next q a ≡ Some q' → finish ok (f ∷ fs) l bs ≡ pending ok q' (f' ∷ fs) l rest
      names_on inside f' r' q' fewer at row state =
          names inside f' ok q' fewer
          (λ t cs.
          ap (λ (o : Option ℕ). ok && (passes o (λ x. row_runs A q x (word cs)) && ((present (A.next q a) && has_next A q (word cs)) && (passes (A.next q a) (λ x. accepts A x t) && accepts_all A q cs)))) row
          ∙ ap (λ (o : Option ℕ). ok && (row_runs A q r' (word cs) && ((present o && has_next A q (word cs)) && (passes o (λ x. accepts A x t) && accepts_all A q cs)))) state
          ∙ swapped ok (row_runs A q r' (word cs)) (has_next A q (word cs)) (accepts A q' t) (accepts_all A q cs)
          ∙ ap (λ (c : Cursor). (ok && accepts A q' t) && rest_accepted c.state c.row cs) (sym at))
        where
          swapped : (o x h c d : Bool) → (o && (x && (h && (c && d)))) ≡ ((o && c) && (x && (h && d)))
          swapped o x h c d = grind arith

      -- something spoke against the tree before, or the next row or state is lacking
      pub names_no : a < s → (f' : Level Cursor) (q' : ℕ) → f'.left ≡ f.left - 1 → (ok && (present (A.step q r a) && present (A.next q a))) ≡ false → finish ok (f ∷ fs) l bs ≡ pending false q' (f' ∷ fs) l rest
      names_no inside f' q' fewer lacking =
          names inside f' false q' fewer (λ t cs. lost ok (A.step q r a) (A.next q a) (λ x. row_runs A q x (word cs)) (has_next A q (word cs)) (λ x. accepts A x t) (accepts_all A q cs) lacking)
        where
          and_false : (b : Bool) → (b && false) ≡ false
          and_false true = refl
          and_false false = refl

          lost : (ok : Bool) (o p : Option ℕ) (runs : ℕ → Bool) (h : Bool) (accepted : ℕ → Bool) (all : Bool) → (ok && (present o && present p)) ≡ false → (ok && (passes o runs && ((present p && h) && (passes p accepted && all)))) ≡ false
          lost false o p runs h accepted all lacking = refl
          lost true None p runs h accepted all lacking = refl
          lost true (Some x) None runs h accepted all lacking = and_false (runs x)
          lost true (Some x) (Some y) runs h accepted all lacking = absurd (true≢false lacking)

-- an answer that a test was put to
tested : (answer : Option ℕ) (test : ℕ → Bool) → present (answer_if answer test) ≡ (present answer && test (unwrap_or answer 0))
tested None test = refl
tested (Some q) test = by (test q)
  where
    by : (b : Bool) → present (then_some b q) ≡ b
    by true = refl
    by false = refl

-- the reader's levels as the walk sees them: the top one first, and how many more there may be
module _ (A : Automaton) (end s room : ℕ) where
  abbrev pub outcome : Bool → Option ℕ → List (Level Cursor) → List ℕ → Result Bool Refusal
  outcome fresh answer levels bs = going A end s fresh answer (reverse levels) (room - length levels) bs

  reverse_top : (below : List (Level Cursor)) (f : Level Cursor) → reverse (below ++ f ∷ []) ≡ f ∷ reverse below
  reverse_top below f = reverse-append below (f ∷ [])

  module _ (answer : Option ℕ) where
    abbrev ok : Bool
    ok = present answer

    abbrev cursor : Cursor
    cursor = record { state = unwrap_or answer 0; row = 0 }

    -- once inside a node
    within : (answer' : Option ℕ) (b : Bool) (levels : List (Level Cursor)) (bs : List ℕ) (fresh : Bool) → fresh ≡ false → present answer' ≡ b → finish A end s b (reverse levels) (room - length levels) bs ≡ outcome fresh answer' levels bs
    within answer' b levels bs fresh inside is =
        ap (λ (b : Bool). finish A end s b (reverse levels) (room - length levels) bs) (sym is) ∙ ap (λ (f : Bool). outcome f answer' levels bs) (sym inside)

    pub on_value : (b a : Midway Cursor) (v n : ℕ) (bytes : List ℕ) → Opens end room cursor b v n bytes a → outcome b.fresh answer b.levels b.left ≡ outcome a.fresh (answer_if answer (λ q. A.has q v)) a.levels a.left
    on_value b a v n bytes o =
        let space = o.space in
        let deeper = ap length o.deeper ∙ length_push b.levels (record { left = n; at = cursor }) in
        let more : room - length b.levels ≡ suc (room - length a.levels) = omega arith in
        ap (λ (f : Bool). outcome f answer b.levels b.left) o.due
        ∙ ap (λ (l : ℕ). pending A end s ok cursor.state (reverse b.levels) l b.left) more
        ∙ opens A end s ok cursor.state (reverse b.levels) (room - length a.levels) v n b.left a.left o.reads
        ∙ ap (λ (fs : List (Level Cursor)). finish A end s (ok && A.has cursor.state v) fs (room - length a.levels) a.left) (sym (ap reverse o.deeper ∙ reverse_top b.levels _))
        ∙ within (answer_if answer (λ q. A.has q v)) (ok && A.has cursor.state v) a.levels a.left a.fresh o.inside (tested answer (λ q. A.has q v))

    pub on_end : (b a : Midway Cursor) (c : Closes end room cursor b a) → length b.levels ≤ room → outcome b.fresh answer b.levels b.left ≡ outcome a.fresh (answer_if answer (λ _. A.ends c.top.at.state c.top.at.row)) a.levels a.left
    on_end b a c fits =
        let top = c.top in
        let shorter = ap length c.on ∙ length_push a.levels top in
        let more : suc (room - length b.levels) ≡ room - length a.levels = omega arith in
        let ends : Bool = A.ends top.at.state top.at.row in
        ap (λ (f : Bool). outcome f answer b.levels b.left) c.due
        ∙ ap (λ (fs : List (Level Cursor)). finish A end s ok fs (room - length b.levels) b.left) (ap reverse c.on ∙ reverse_top a.levels top)
        ∙ closes A end s ok top (reverse a.levels) (room - length b.levels) b.left c.done
        ∙ ap (λ (l : ℕ). finish A end s (ok && ends) (reverse a.levels) l b.left) more
        ∙ ap (λ (bs : List ℕ). finish A end s (ok && ends) (reverse a.levels) (room - length a.levels) bs) (sym c.same)
        ∙ within (answer_if answer (λ _. ends)) (ok && ends) a.levels a.left a.fresh c.inside (tested answer (λ _. ends))

    -- a symbol of the schema, after which the answer and what the top level keeps are as `name` leaves them
    module _ (b a : Midway Cursor) (x : ℕ) (bytes : List ℕ) (o : Names end room cursor b x bytes a) where
      -- the same outcome from the level that is on top now
      top_now : outcome b.fresh answer b.levels b.left ≡ finish A end s ok (o.top ∷ reverse o.below) (room - length a.levels) b.left
      top_now =
          let same : length b.levels ≡ length a.levels = ap length o.on ∙ length_push o.below _ ∙ sym (ap length o.fewer ∙ length_push o.below _) in
          ap (λ (f : Bool). outcome f answer b.levels b.left) o.due
          ∙ ap (λ (fs : List (Level Cursor)). finish A end s ok fs (room - length b.levels) b.left) (ap reverse o.on ∙ reverse_top o.below o.top)
          ∙ ap (λ (n : ℕ). finish A end s ok (o.top ∷ reverse o.below) (room - n) b.left) same

      pub on_strange : s ≤ x → outcome b.fresh answer b.levels b.left ≡ Err (record { fault = fault.Symbol; place = end - length b.left })
      on_strange past = top_now ∙ strange_symbol A end s ok o.top (reverse o.below) (room - length a.levels) b.left o.more x a.left o.reads past

      -- before the child, with another level on top
      before_child : (answer' : Option ℕ) (f : Level Cursor) (levels : List (Level Cursor)) → levels ≡ o.below ++ f ∷ [] → pending A end s (present answer') (unwrap_or answer' 0) (f ∷ reverse o.below) (room - length a.levels) a.left ≡ outcome a.fresh answer' levels a.left
      before_child answer' f levels is =
          let same : length a.levels ≡ length levels = ap length o.fewer ∙ length_push o.below _ ∙ sym (ap length is ∙ length_push o.below f) in
          ap (λ (fs : List (Level Cursor)). pending A end s (present answer') (unwrap_or answer' 0) fs (room - length a.levels) a.left) (sym (ap reverse is ∙ reverse_top o.below f))
          ∙ ap (λ (n : ℕ). pending A end s (present answer') (unwrap_or answer' 0) (reverse levels) (room - n) a.left) same
          ∙ ap (λ (f : Bool). outcome f answer' levels a.left) (sym o.next)

      -- the level on top after the symbol was read
      abbrev pub read : Level Cursor
      read = record { left = o.top.left - 1; at = o.top.at }

      -- the answer is no, and the levels stay
      refused_here : (ok && (present (A.step read.at.state read.at.row x) && present (A.next read.at.state x))) ≡ false → x < s → (answer' : Option ℕ) → answer' ≡ None → outcome b.fresh answer b.levels b.left ≡ outcome a.fresh answer' a.levels a.left
      refused_here lacking inside answer' is-no =
          top_now ∙ names_no A end s ok o.top (reverse o.below) (room - length a.levels) b.left o.more x a.left o.reads inside read 0 refl lacking ∙ before_child None read a.levels o.fewer
          ∙ ap (λ (n : Option ℕ). outcome a.fresh n a.levels a.left) (sym is-no)

    -- a symbol of the schema, and what `name` makes of the answer and of the reader after it
    module _ (b : Midway Cursor) (p : Progress Cursor) (x : ℕ) (bytes : List ℕ) (o : Names end room cursor b x bytes (midway p)) (inside : x < s) (answer' : Option ℕ) (p' : Progress Cursor) where
      abbrev top : Level Cursor
      top = read b (midway p) x bytes o

      abbrev Same : Type 0
      Same = outcome b.fresh answer b.levels b.left ≡ outcome p'.fresh answer' p'.levels.entries p'.left

      on_no : (ok && (present (A.step top.at.state top.at.row x) && present (A.next top.at.state x))) ≡ false → answer' ≡ None → p' ≡ p → Same
      on_no lacking is-no same =
          refused_here b (midway p) x bytes o lacking inside answer' is-no ∙ ap (λ (p : Progress Cursor). outcome p.fresh answer' p.levels.entries p.left) (sym same)

      on_both : (r' q' : ℕ) → ok ≡ true → A.step top.at.state top.at.row x ≡ Some r' → A.next top.at.state x ≡ Some q' → answer' ≡ Some q' → Keeps (record { state = top.at.state; row = r' }) p p' → Same
      on_both r' q' fine row state is keeps =
          let at : Cursor = record { state = top.at.state; row = r' } in
          let moved : Level Cursor = record { left = top.left; at = at } in
          let on = ap topmost o.fewer ∙ topmost_of o.below top in
          let replaced : Replaced p.levels moved p'.levels = subst (λ t. kept at t p.levels p'.levels) on keeps.levels in
          top_now b (midway p) x bytes o
          ∙ names_on A end s ok o.top (reverse o.below) (room - length p.levels.entries) b.left o.more x p.left o.reads inside moved r' q' refl refl row state
          ∙ ap (λ (ok : Bool). pending A end s ok q' (moved ∷ reverse o.below) (room - length p.levels.entries) p.left) fine
          ∙ before_child b (midway p) x bytes o (Some q') moved p'.levels.entries (over_top p.levels o.below top moved p'.levels o.fewer replaced)
          ∙ ap (λ (n : Option ℕ). outcome p.fresh n p'.levels.entries p.left) (sym is)
          ∙ ap (λ (f : Bool). outcome f answer' p'.levels.entries p.left) (sym keeps.fresh)
          ∙ ap (λ (bs : List ℕ). outcome p'.fresh answer' p'.levels.entries bs) (sym keeps.left)

      pub on_symbol : TakesSymbol A x answer (topmost p.levels.entries) p answer' p' → Same
      on_symbol steps = by answer refl (subst (λ t. TakesSymbol A x answer t p answer' p') (ap topmost o.fewer ∙ topmost_of o.below top) steps)
        where
          known : (next_row next_state : Option ℕ) → ok ≡ true → A.step top.at.state top.at.row x ≡ next_row → A.next top.at.state x ≡ next_state → both_known next_row next_state top.at.state p answer' p' → Same
          known None o fine row state k = on_no (rw (fine, row) refl) k.0 k.1
          known (Some r') None fine row state k = on_no (rw (fine, row, state) refl) k.0 k.1
          known (Some r') (Some q') fine row state k = on_both r' q' fine row state k.0 k.1

          by : (n : Option ℕ) → answer ≡ n → TakesSymbol A x n (Some top) p answer' p' → Same
          by None no-longer k = on_no (ap (λ n. present n && (present (A.step top.at.state top.at.row x) && present (A.next top.at.state x))) no-longer) k.0 k.1
          by (Some q) so_far k = known (A.step top.at.state top.at.row x) (A.next top.at.state x) (ap present so_far) refl refl k

    pub on_node_fault : (b : Midway Cursor) (e : Refusal) → NodeFault end room cursor b e → outcome b.fresh answer b.levels b.left ≡ Err e
    on_node_fault b e n =
        ap (λ (f : Bool). outcome f answer b.levels b.left) n.due
        ∙ ⊎_elim
        (λ full.
        let none : room - length b.levels ≡ 0 = omega (arith, full.0) in
        ap (λ (l : ℕ). pending A end s ok cursor.state (reverse b.levels) l b.left) none ∙ ap Err (sym full.1))
        (λ bad.
        let more : room - length b.levels ≡ suc (room - length b.levels - 1) = omega (arith, bad.0) in
        ap (λ (l : ℕ). pending A end s ok cursor.state (reverse b.levels) l b.left) more
        ∙ no_node A end s ok cursor.state (reverse b.levels) (room - length b.levels - 1) b.left e bad.1)
        n.fault

    pub on_symbol_fault : (b : Midway Cursor) (e : Refusal) → SymbolFault end room cursor b e → outcome b.fresh answer b.levels b.left ≡ Err e
    on_symbol_fault b e n =
        ap (λ (f : Bool). outcome f answer b.levels b.left) n.due
        ∙ ap (λ (fs : List (Level Cursor)). finish A end s ok fs (room - length b.levels) b.left) (ap reverse n.on ∙ reverse_top n.below n.top)
        ∙ no_symbol A end s ok n.top (reverse n.below) (room - length b.levels) b.left n.more e n.reads
