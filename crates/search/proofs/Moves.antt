-- Moves over pairs of a row and a watcher's state: they lead to a goal exactly along the sequences
-- that are sought. Assumes nothing.
use Rattle.std.proofs.Common.{◌≡◌, ℕ, Bool, true, false, cond, ◌&&◌, List, [], ◌∷◌, ◌++◌, reverse, Some, None, Option, sym, refl, ap, ◌∙◌}
use mathlib.Core.List.{reverse-cons}
use Rattle.std.specs.Option.{option_and_then, option_map}
use Rattle.std.specs.List.{AllByRecursion}
use Rattle.std.proofs.lemmas.List.{reverse-reverse}
use Rattle.std.proofs.lemmas.Bool.{and_parts, and_from, both_ways}
use Rattle.std.proofs.lemmas.Option.{none-some, option_and_then_some, same_Some}
use Rattle.schema.specs.Automata.{Automaton, passes, row_runs}
use Rattle.search.specs.declared.pairs.RowPair.{RowPair}
use Rattle.search.specs.Pairs.{next_row_pair, row_links}
use Rattle.search.specs.Sequences.{Sought}
use Rattle.search.specs.Watching.{Watching, watched}
use Rattle.search.proofs.Breadth.{leads}

-- a row and a watcher's state
pub record Place : Type 0 where
  pub row : ℕ
  pub watch : ℕ

-- the place of an entry
abbrev pub place_of : RowPair → Place
place_of p = record { row = p.row; watch = p.watch }

module _ (A : Automaton) (q : ℕ) (set : ℕ → Bool) (W : Watching) where
  -- what a symbol of the set leads to
  abbrev pub move : Place → ℕ → Option Place
  move n a = option_map (λ r. record { row = r; watch = W.after n.watch a }) (cond (set a) (A.step q n.row a) None)

  -- where a sequence may end, and the watcher wants it
  abbrev pub is_goal : Place → Bool
  is_goal n = A.ends q n.row && W.wants n.watch

  abbrev pub first : Place
  first = record { row = 0; watch = W.start }

  -- where a sequence leads to from a place
  abbrev follow : Place → List ℕ → Option Place
  follow n [] = Some n
  follow n (a ∷ w) = option_and_then (λ m. follow m w) (move n a)

  follow_push : (w : List ℕ) (n : Place) (a : ℕ) → follow n (w ++ a ∷ []) ≡ option_and_then (λ m. move m a) (follow n w)
  follow_push [] n a = by (move n a)
    where
      by : (o : Option Place) → option_and_then Some o ≡ o
      by (Some m) = refl
      by None = refl
  follow_push (b ∷ w) n a = by (move n b) (λ m. follow_push w m a)
    where
      by : (o : Option Place) → ((m : Place) → follow m (w ++ a ∷ []) ≡ option_and_then (λ m. move m a) (follow m w)) → option_and_then (λ m. follow m (w ++ a ∷ [])) o ≡ option_and_then (λ m. move m a) (option_and_then (λ m. follow m w) o)
      by (Some m) rest = rest m
      by None rest = refl

  -- read from either end
  follow_leads : (w : List ℕ) → follow first (reverse w) ≡ leads row_links move is_goal first place_of w
  follow_leads [] = refl
  follow_leads (a ∷ w) = ap (follow first) (reverse-cons a w) ∙ follow_push (reverse w) first a ∙ ap (option_and_then (λ m. move m a)) (follow_leads w)

  -- the parts of a move
  moved : (n m : Place) (a : ℕ) → move n a ≡ Some m → (set a ≡ true) × (A.step q n.row a ≡ Some m.row) × (m.watch ≡ W.after n.watch a)
  moved n m a to = by (set a) (A.step q n.row a) refl refl to
    where
      by : (b : Bool) (o : Option ℕ) → set a ≡ b → A.step q n.row a ≡ o → option_map (λ r. record { row = r; watch = W.after n.watch a }) (cond b o None) ≡ Some m → (set a ≡ true) × (A.step q n.row a ≡ Some m.row) × (m.watch ≡ W.after n.watch a)
      by true (Some r) in-set is to = let same = same_Some _ _ to in (in-set, is ∙ ap (λ (x : Place). Some x.row) same, sym (ap (λ (x : Place). x.watch) same))
      by true None in-set is to = absurd (none-some _ to)
      by false o in-set is to = absurd (none-some _ to)

  pub move_steps : (n m : Place) (a : ℕ) → move n a ≡ Some m → A.step q n.row a ≡ Some m.row
  move_steps n m a to = (moved n m a to).1

  move_from : (n : Place) (a r : ℕ) → set a ≡ true → A.step q n.row a ≡ Some r → move n a ≡ Some (record { row = r; watch = W.after n.watch a })
  move_from n a r in-set is = ap (λ b. option_map (λ r. record { row = r; watch = W.after n.watch a }) (cond b (A.step q n.row a) None)) in-set ∙ ap (option_map (λ r. record { row = r; watch = W.after n.watch a })) is

  passes_some : (o : Option ℕ) (test : ℕ → Bool) → passes o test ≡ true → (x : ℕ) × (o ≡ Some x) × (test x ≡ true)
  passes_some (Some x) test h = (x, refl, h)
  passes_some None test h = absurd (both_ways false refl h)

  -- a sequence that leads to a goal is sought, and the other way round, from any place
  sought_from : (w : List ℕ) (n m : Place) → follow n w ≡ Some m → is_goal m ≡ true → AllByRecursion (λ a. set a ≡ true) w × (row_runs A q n.row w ≡ true) × (W.wants (watched W n.watch w) ≡ true)
  sought_from [] n m to there = let parts = and_parts (A.ends q n.row) (W.wants n.watch) (ap is_goal (same_Some _ _ to) ∙ there) in (tt, parts.0, parts.1)
  sought_from (a ∷ w) n m to there =
      let s : (x : Place) × (move n a ≡ Some x) × (follow x w ≡ Some m) = option_and_then_some (λ x. follow x w) (move n a) m to (λ x is on. (x, is, on)) in
      let by = moved n s.0 a s.1 in
      let rest = sought_from w s.0 m s.2 there in
      ((by.0, rest.0), ap (λ o. passes o (λ r. row_runs A q r w)) by.1 ∙ rest.1, ap (λ (x : ℕ). W.wants (watched W x w)) (sym by.2) ∙ rest.2)

  follows_from : (w : List ℕ) (n : Place) → AllByRecursion (λ a. set a ≡ true) w → row_runs A q n.row w ≡ true → W.wants (watched W n.watch w) ≡ true → (m : Place) × (follow n w ≡ Some m) × (is_goal m ≡ true)
  follows_from [] n over runs wants = (n, refl, and_from _ _ runs wants)
  follows_from (a ∷ w) n over runs wants =
      let r = passes_some (A.step q n.row a) (λ r. row_runs A q r w) runs in
      let rest = follows_from w (record { row = r.0; watch = W.after n.watch a }) over.1 r.2 wants in
      (rest.0, ap (option_and_then (λ x. follow x w)) (move_from n a r.0 over.0 r.1) ∙ rest.1, rest.2)

  -- over the search's moves, the last symbol first
  pub sought_of_goal : (w : List ℕ) (m : Place) → leads row_links move is_goal first place_of w ≡ Some m → is_goal m ≡ true → Sought A q set W (reverse w)
  sought_of_goal w m to there = let s = sought_from (reverse w) first m (follow_leads w ∙ to) there in record { over = s.0; runs = s.1; wants = s.2 }

  -- a goal that a sequence leads to
  pub record Reaches (w : List ℕ) : Type 0 where
    pub place : Place
    pub to : leads row_links move is_goal first place_of w ≡ Some place
    pub there : is_goal place ≡ true

  pub goal_of_sought : (w : List ℕ) → Sought A q set W w → Reaches (reverse w)
  goal_of_sought w s =
      let f = follows_from w first s.over s.runs s.wants in
      record { place = f.0; to = sym (follow_leads (reverse w)) ∙ ap (follow first) (reverse-reverse w) ∙ f.1; there = f.2 }

  -- a symbol leads from a pair to one that was found from entry i
  pub record MovesTo (p f : RowPair) (a i : ℕ) : Type 0 where
    pub to : move (place_of p) a ≡ Some (place_of f)
    pub row : A.step q p.row a ≡ Some f.row
    pub watch : f.watch ≡ W.after p.watch a
    pub symbol : f.symbol ≡ a
    pub parent : f.parent ≡ i

  pub pair_moves : (p f : RowPair) (a i : ℕ) → next_row_pair A q set W p a i ≡ Some f → MovesTo p f a i
  pair_moves p f a i is = by (cond (set a) (A.step q p.row a) None) refl is
    where
      by : (o : Option ℕ) → cond (set a) (A.step q p.row a) None ≡ o → option_map (λ r. record { row = r; watch = W.after p.watch a; symbol = a; parent = i }) o ≡ Some f → MovesTo p f a i
      by (Some r) e is =
          let same = same_Some _ _ is in
          let to : move (place_of p) a ≡ Some (place_of f) = ap (option_map (λ r. record { row = r; watch = W.after p.watch a })) e ∙ ap (λ x. Some (place_of x)) same in
          record {
            to = to;
            row = (moved (place_of p) (place_of f) a to).1;
            watch = (moved (place_of p) (place_of f) a to).2;
            symbol = sym (ap {B = ℕ} (λ (x : RowPair). x.symbol) same);
            parent = sym (ap {B = ℕ} (λ (x : RowPair). x.parent) same);
          }
      by None e is = absurd (none-some _ is)

  pub pair_stays : (p : RowPair) (a i : ℕ) (m : Place) → next_row_pair A q set W p a i ≡ None → move (place_of p) a ≡ Some m → ⊥
  pair_stays p a i m is to = by (cond (set a) (A.step q p.row a) None) is to
    where
      by : (o : Option ℕ) → option_map {U = RowPair} (λ r. record { row = r; watch = W.after p.watch a; symbol = a; parent = i }) o ≡ None → option_map {U = Place} (λ r. record { row = r; watch = W.after p.watch a }) o ≡ Some m → ⊥
      by (Some r) is to = none-some _ (sym is)
      by None is to = none-some _ to
