-- A search under way: the pile, the listed pairs and the cursor from turn to turn, and the answers.
-- Assumes nothing.
use Rattle.std.proofs.Common.{◌≡◌, ℕ, ◌+◌, ◌*◌, ◌<◌, ◌≤◌, Bool, true, false, ◌&&◌, ◌||◌, eqb, List, [], ◌∷◌, ◌++◌, reverse, length, Some, None, Option, sym, ap, ◌∙◌, subst, ⊎_elim, arith}
use Rattle.std.specs.List.{slice_get}
use Rattle.std.proofs.lemmas.List.{length_push, length-reverse}
use Rattle.std.proofs.lemmas.Bool.{both_ways, cases_lt}
use Rattle.std.proofs.lemmas.Option.{none-some, same_Some}
use Rattle.codec.specs.Piles.{slots, Stack}
use Rattle.bits.specs.Bits.{bit}
use Rattle.schema.specs.Automata.{Automaton}
use Rattle.schema.specs.Tables.{tables, sets, automaton_of, row_count}
use Rattle.schema.specs.declared.tables.Schema.{Schema}
use Rattle.schema.specs.declared.tested.Tested.{Tested}
use Rattle.schema.proofs.Sizes.{sized}
use Rattle.schema.proofs.Sound.{sound}
use Rattle.search.specs.declared.visited.Visited.{Visited}
use Rattle.search.specs.declared.pairs.RowPair.{RowPair}
use Rattle.search.specs.declared.search.Question.{Question}
use Rattle.search.specs.Visits.{is_visited, NewlyVisited, AlreadyVisited, Visits}
use Rattle.search.specs.Pairs.{row_links, first_row_pair, next_row_pair, goal, Finds}
use Rattle.search.specs.Paths.{Met}
use Rattle.search.specs.Questions.{automaton_asked}
use Rattle.search.specs.Sequences.{Sought}
use Rattle.search.specs.Watching.{Watching, WatcherStatesBelow}
use Rattle.search.proofs.Breadth.{leads, Midway, none_left, found_before, tried, done, new_sequence, new_leads, grown, begun}
use Rattle.search.proofs.Visits.{Noted, nothing_noted, noted_few, room_left, noted_more}
use Rattle.search.proofs.Moves.{Place, place_of, move, is_goal, first, move_steps, sought_of_goal, goal_of_sought, pair_moves, pair_stays}
use Rattle.search.proofs.Orders.{NotAfter, nothing_before_empty, no_later_reversed}
use Rattle.search.proofs.Paths.{Traces, trace_short, traces_first, word_of_traces}
use Rattle.search.proofs.Places.{nth_kept, nth_cases, nth_inside}

-- the rows of a state: some, at most 16, leading to one another, and only under the schema's
-- symbols, of which there are at most 32
pub record Fenced (A : Automaton) (q rows symbols : ℕ) : Type 0 where
  pub some : 0 < rows
  pub few : rows ≤ 16
  pub stays : (r a j : ℕ) → r < rows → A.step q r a ≡ Some j → j < rows
  pub known : (r a j : ℕ) → A.step q r a ≡ Some j → a < symbols
  pub short : symbols ≤ 32

-- such are the rows of a tested schema
pub fenced : {D : Type 0} (holds : D → ℕ → Bool) (t : Tested D) (q : ℕ) → q < t.measured.schema.states → Fenced (automaton_of holds t.measured.schema) q (row_count (tables t.measured.schema) q) t.measured.schema.symbols
fenced holds t q low =
    let s = sound (tables t.measured.schema) (sets holds t.measured.schema) t.sound in
    record { some = (s.rows q low).from; few = (s.rows q low).to; stays = λ r a j inside is. s.step_in q r a j low inside is; known = λ r a j is. s.step_symbol q r a j is; short = (sized (tables t.measured.schema) t.measured.sized).symbols.to }

module _ (A : Automaton) (q : ℕ) (set : ℕ → Bool) (W : Watching) (rows symbols states : ℕ) where
  abbrev go : Place → ℕ → Option Place
  go = move A q set W

  abbrev at_goal : Place → Bool
  at_goal = is_goal A q set W

  abbrev from : Place
  from = first A q set W

  abbrev Half : List RowPair → ℕ → ℕ → Type 0
  Half es k b = Midway row_links go at_goal from place_of es k b

  -- entry k is being tried, its symbols below b were; each entry's row is one of the state's
  pub record Underway (l : Visited) (pile : Stack RowPair) (k b : ℕ) : Type 0 where
    pub fence : Fenced A q rows symbols
    pub below : WatcherStatesBelow states W
    pub narrow : states ≤ 17
    pub midway : Half pile.entries k b
    pub noted : Noted states l pile.entries
    pub inside : (i : ℕ) (e : RowPair) → slice_get pile.entries i ≡ Some e → e.row < rows
    pub room : 272 ≤ slots pile

  -- and p is that entry
  pub record Trying (l : Visited) (pile : Stack RowPair) (k b : ℕ) (p : RowPair) : Type 0 where
    pub under : Underway l pile k b
    pub here : slice_get pile.entries k ≡ Some p

  -- a sequence read off at an entry, its last symbol first, is what a search finds
  answered : (es : List RowPair) (i : ℕ) (w : List ℕ) (n : Place) → Traces row_links es i w → leads row_links go at_goal from place_of w ≡ Some n → at_goal n ≡ true → ((v : List ℕ) → Sought A q set W v → NotAfter w (reverse v)) → i < length es → i < 16 * states → Finds A q set W states es (Some i)
  answered es i w n t to there least inside few =
      record {
        inside = inside;
        sequence = reverse w;
        spelled = word_of_traces row_links es i w t;
        shortest = record { passes = sought_of_goal A q set W w n to there; least = λ v s. no_later_reversed w v (least v s) };
        few = omega (arith, length-reverse w, trace_short row_links es i w t);
      }

  -- the ends of a search
  module _ {l : Visited} {pile : Stack RowPair} {k b : ℕ} (u : Underway l pile k b) where
    -- all entries were tried
    nothing_sought : length pile.entries ≤ k → Finds A q set W states pile.entries None
    nothing_sought past = λ w s.
        let g = goal_of_sought A q set W w s in
        none_left row_links go at_goal from place_of pile.entries k b u.midway past (reverse w) g.place g.to g.there

    -- as many as there are pairs
    pub all_tried : 272 ≤ k → Finds A q set W states pile.entries None
    all_tried most = nothing_sought (omega (arith, most, u.narrow, noted_few states l pile.entries u.noted))

    -- there is no entry any more
    pub past_end : slice_get pile.entries k ≡ None → Finds A q set W states pile.entries None
    past_end none =
        nothing_sought
        (⊎_elim
        (λ low. let e = nth_inside pile.entries k low in absurd (none-some _ (sym none ∙ e.1)))
        (λ past. past)
        (cases_lt k (length pile.entries)))

  -- a symbol at the entry that is being tried
  module _ {l : Visited} {pile : Stack RowPair} {k b : ℕ} {p : RowPair} (t : Trying l pile k b p) where
    abbrev es : List RowPair
    es = pile.entries

    tried_there : ((n : Place) → go (place_of p) b ≡ Some n → Met row_links es place_of k b n) → Trying l pile k (b + 1) p
    tried_there known =
        let u = t.under in
        record {
          under = record { fence = u.fence; below = u.below; narrow = u.narrow; midway = tried row_links go at_goal from place_of es k b u.midway p t.here known; noted = u.noted; inside = u.inside; room = u.room };
          here = t.here;
        }

    -- all symbols were tried
    pub next_entry : symbols ≤ b → Underway l pile (k + 1) 0
    next_entry all =
        let u = t.under in
        record {
          fence = u.fence;
          below = u.below;
          narrow = u.narrow;
          midway = done row_links go at_goal from place_of es k b u.midway p t.here (λ a n to. omega (arith, u.fence.known p.row a n.row (move_steps A q set W (place_of p) n a to)));
          noted = u.noted;
          inside = u.inside;
          room = u.room;
        }

    -- it leads nowhere
    pub leads_nowhere : next_row_pair A q set W p b k ≡ None → Trying l pile k (b + 1) p
    leads_nowhere none = tried_there (λ n to. absurd (pair_stays A q set W p b k n none to))

    -- it leads to a pair
    module _ {f : RowPair} (is : next_row_pair A q set W p b k ≡ Some f) (state-fits : p.watch < 256) where
      narrow : f.watch < states
      narrow =
          let m = pair_moves A q set W p f b k is in
          let symbol : b < 256 = omega (arith, t.under.fence.known p.row b f.row m.row, t.under.fence.short) in
          omega (arith, m.watch, t.under.below.after p.watch b state-fits symbol)

      low : f.row < rows
      low = t.under.fence.stays p.row b f.row (t.under.inside k p t.here) (pair_moves A q set W p f b k is).row

      -- which is listed
      pub to_known : {l' : Visited} {pile' : Stack RowPair} → AlreadyVisited f l pile l' pile' → Trying l' pile' k (b + 1) p
      to_known {l'} {pile'} o =
          let e = t.under.noted.seen f.row f.watch o.old in
          let same : place_of e.entry ≡ place_of f = ap (λ (r : ℕ). record { row = r; watch = e.entry.watch }) e.row ∙ ap (λ (s : ℕ). record { row = f.row; watch = s }) e.watch in
          let so = tried_there (λ n to. record { at = e.at; entry = e.entry; is = e.is; same = same ∙ same_Some _ _ (sym (pair_moves A q set W p f b k is).to ∙ to); from = λ above. found_before row_links go at_goal from place_of es k b t.under.midway e.at e.entry above e.is }) in
          subst (λ x. Trying x pile' k (b + 1) p) (sym o.same_list) (subst (λ x. Trying l x k (b + 1) p) (sym o.same_pile) so)

      -- which is new
      module _ {i : ℕ} {l' : Visited} {pile' : Stack RowPair} (o : NewlyVisited f l pile i l' pile') where
        few : f.row < 16
        few = omega (arith, low, t.under.fence.few)

        listed : (r s : ℕ) → is_visited l' r s ≡ (is_visited l r s || (eqb f.row r && eqb f.watch s))
        listed = o.visited few (omega (arith, narrow, t.under.narrow))

        room : length es < 16 * states
        room = room_left states l l' es f t.under.noted few narrow o.new listed

        grows : pile'.entries ≡ es ++ f ∷ []
        grows = o.pushed (omega (arith, room, t.under.narrow, t.under.room))

        -- and no goal
        pub to_new : goal A q W f ≡ false → Trying l' pile' k (b + 1) p
        to_new not-goal =
            let u = t.under in
            let m = pair_moves A q set W p f b k is in
            record {
              under = record {
                fence = u.fence;
                below = u.below;
                narrow = u.narrow;
                midway = subst (λ l. Half l k (b + 1)) (sym grows) (grown row_links go at_goal from place_of es k b u.midway p t.here f m.parent m.symbol m.to not-goal);
                noted = subst (Noted states l') (sym grows) (noted_more states l l' es f u.noted few narrow o.new listed);
                inside = λ j e at. ⊎_elim (u.inside j e) (λ new. subst (λ (x : RowPair). x.row < rows) new.1 low) (nth_cases f es j e (ap (λ l. slice_get l j) (sym grows) ∙ at));
                room = omega (arith, o.long, u.room);
              };
              here = ap (λ l. slice_get l k) grows ∙ nth_kept f es k p t.here;
            }

        -- and a goal
        pub to_goal : goal A q W f ≡ true → Finds A q set W states pile'.entries (Some i)
        to_goal there =
            let m = pair_moves A q set W p f b k is in
            let w = new_sequence row_links go at_goal from place_of es k b t.under.midway p t.here f m.parent m.symbol m.to in
            let new = new_leads row_links go at_goal from place_of es k b t.under.midway p t.here f m.parent m.symbol m.to in
            let at : length es ≡ i = sym o.place in
            let read = subst (λ l. Traces row_links l i w) (sym grows) (subst (λ (j : ℕ). Traces row_links (es ++ f ∷ []) j w) at new.read) in
            let first = λ (v : List ℕ) (s : Sought A q set W v). let g = goal_of_sought A q set W v s in new.first (reverse v) g.place g.to g.there in
            answered pile'.entries i w (place_of f) read new.leads_to there first (omega (arith, at, ap length grows, length_push es f)) (omega (arith, at, room))

  -- before the first turn: nothing is listed, and the pair of the first row and the watcher's start
  -- comes on an empty pile
  module _ (fence : Fenced A q rows symbols) (below : WatcherStatesBelow states W) (narrow : states ≤ 17) (l : Visited) (pile : Stack RowPair) (p : RowPair) (l' : Visited) (pile' : Stack RowPair) (none : (r s : ℕ) → is_visited l r s ≡ false) (empty : pile.entries ≡ []) (room : 272 ≤ length pile.free) (is : p ≡ first_row_pair W) where
    starts_low : p.watch < states
    starts_low = omega (arith, below.start, ap {B = ℕ} (λ (x : RowPair). x.watch) is)

    alone : (i : ℕ) → NewlyVisited p l pile i l' pile' → pile'.entries ≡ p ∷ []
    alone i o = o.pushed (omega (arith, room, ap length empty)) ∙ ap (λ es. es ++ p ∷ []) empty

    at_first : place_of p ≡ from
    at_first = ap place_of is

    row : p.row ≡ 0
    row = ap {B = ℕ} (λ (x : RowPair). x.row) is

    pub begins : (i : Option ℕ) → Visits p l pile i l' pile' → goal A q W p ≡ false → Underway l' pile' 0 0
    begins (Some i) o not-goal =
        let noted = noted_more states l l' [] p (nothing_noted states l none) (omega (arith, row)) starts_low o.new (o.visited (omega (arith, row)) (omega (arith, starts_low))) in
        record {
          fence = fence;
          below = below;
          narrow = narrow;
          midway = subst (λ l. Half l 0 0) (sym (alone i o)) (begun row_links go at_goal from place_of p at_first not-goal);
          noted = subst (Noted states l') (sym (alone i o)) noted;
          inside = λ j e at. ⊎_elim (λ old. absurd (none-some _ old)) (λ new. omega (arith, fence.some, row, ap {B = ℕ} (λ (x : RowPair). x.row) new.1)) (nth_cases p [] j e (ap (λ l. slice_get l j) (sym (alone i o)) ∙ at));
          room = omega (arith, o.long);
        }
    begins None o not-goal = absurd (both_ways (is_visited l p.row p.watch) (none p.row p.watch) o.old)

    -- the empty sequence is sought
    pub at_once : (i : Option ℕ) → Visits p l pile i l' pile' → goal A q W p ≡ true → Finds A q set W states pile'.entries i
    at_once (Some i) o there =
        let bottom : i ≡ 0 = o.place ∙ ap length empty in
        answered pile'.entries i [] (place_of p) (traces_first row_links pile'.entries i bottom) (ap Some (sym at_first)) there (λ v s. nothing_before_empty (reverse v)) (omega (arith, bottom, ap length (alone i o))) (omega (arith, bottom, below.start))
    at_once None o there = absurd (both_ways (is_visited l p.row p.watch) (none p.row p.watch) o.old)

-- a search for the answer to a question
module _ {D W : Type 0} (holds : D → ℕ → Bool) (watching : W → Watching) (states : ℕ) (s : Question D W) where
  abbrev schema_asked : Schema D
  schema_asked = s.tested.now.measured.schema

  abbrev pub Searching : Visited → Stack RowPair → ℕ → ℕ → Type 0
  Searching = Underway (automaton_asked holds s) s.state (bit s.symbols) (watching s.watcher.now) (row_count (tables schema_asked) s.state) schema_asked.symbols states

  -- and the entry that is being tried
  abbrev pub Examining : Visited → Stack RowPair → ℕ → ℕ → RowPair → Type 0
  Examining = Trying (automaton_asked holds s) s.state (bit s.symbols) (watching s.watcher.now) (row_count (tables schema_asked) s.state) schema_asked.symbols states
