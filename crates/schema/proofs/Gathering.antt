-- Numbers gathered along edges, and the rows that sequences lead to. Assumes nothing.
use Rattle.std.proofs.Common.{◌≡◌, ℕ, ◌<◌, ◌≤◌, Bool, true, false, cond, ◌&&◌, ◌||◌, eqb, ltb, List, [], ◌∷◌, ◌++◌, Some, None, Option, Decides, sym, refl, ap, ◌∙◌, subst, inl, inr, ⊎_elim, append-nil, arith}
use Rattle.std.specs.List.{AllByRecursion}
use Rattle.std.proofs.ByRecursion.{All-push}
use Rattle.std.proofs.lemmas.Option.{none-some, same_Some}
use Rattle.std.proofs.lemmas.Bool.{and_parts, and_from, both_ways, cases_Bool, not_from_false}
use Rattle.bits.specs.Bits.{bit, LowestMember, without}
use Rattle.bits.specs.Gathering.{LedOnto}
use Rattle.bits.proofs.Leading.{in_one_more, one_more_has}
use Rattle.schema.proofs.Bound.{passed}
use Rattle.bits.proofs.Members.{bit_zero}
use Rattle.schema.proofs.Searches.{some_found, some_tells}
use Rattle.schema.specs.Automata.{Automaton, passes, row_runs}
use Rattle.schema.specs.Below.{some_below}
use Rattle.schema.specs.Rows.{onward, leads, AfterEdge, RowEdge, RunsOverFrom, LeadsOver, RowsReachedFrom}

-- what the numbers below n lead to, where they lead along the edges from p
pub edges_of_led : {Leads : ℕ → Option ℕ → Type 0} (Edge : ℕ → ℕ → ℕ → Type 0) (p n before after : ℕ) (step : ℕ → Option ℕ) → ((a j : ℕ) → Edge p a j → (a < n) × (step a ≡ Some j)) → ((a j : ℕ) → step a ≡ Some j → Edge p a j) → ((a : ℕ) (o : Option ℕ) → a < n → Leads a o → o ≡ step a) → LedOnto Leads n before after
    → AfterEdge Edge p before after
edges_of_led Edge p n before after step leads edge told so =
    record {
      kept = so.kept;
      added = λ a j e low. let at = leads a j e in let added = so.added a at.0 in added.2 j (told a added.0 at.0 added.1 ∙ at.1) low;
      only = λ i h. ⊎_elim inl (λ m. inr (m.0, edge m.0 i (sym (told m.0 (Some i) m.1 m.2)))) (so.only i h);
    }

-- what a set gathers along edges from a number on: each has the property, which the edges carry
-- over
module _ (Edge : ℕ → ℕ → ℕ → Type 0) (Good : ℕ → Type 0) (from : ℕ) where
  -- on the way: the numbers done lead only to numbers reached
  pub record Partly (count reached done : ℕ) : Type 0 where
    pub start : bit reached from ≡ true
    pub only : (i : ℕ) → bit reached i ≡ true → Good i
    pub inside : (i : ℕ) → bit reached i ≡ true → i < count
    pub closed : (i a j : ℕ) → bit done i ≡ true → Edge i a j → bit reached j ≡ true

  -- numbers below a count lead to such numbers, and there are few
  module _ (count : ℕ) (few : count ≤ 64) (first : Good from) (good : (i a j : ℕ) → i < count → Good i → Edge i a j → Good j) (stays : (i a j : ℕ) → i < count → Edge i a j → j < count) where
    pub partly_start : (one : ℕ) → from < count → ((i : ℕ) → bit one i ≡ (bit 0 i || (ltb from 64 && eqb from i))) → Partly count one 0
    partly_start one some adds =
        record {
          start = one_more_has 0 one from (adds from) (omega arith);
          only = λ i h. subst Good (just i h) first;
          inside = λ i h. omega (arith, just i h);
          closed = λ i a j h e. absurd (both_ways (bit 0 i) (bit_zero i) h);
        }
      where
        just : (i : ℕ) → bit one i ≡ true → from ≡ i
        just i h = ⊎_elim (λ old. absurd (both_ways (bit 0 i) (bit_zero i) old)) (λ e. e) (in_one_more 0 one from i (adds i) h)

    -- the next number to be done was reached
    pub partly_here : (reached done row : ℕ) → Partly count reached done → LowestMember (without (bit reached) (bit done)) row → (bit reached row ≡ true) × (row < count)
    partly_here reached done row so least =
        let here = (and_parts (bit reached row) _ least.member).0 in
        (here, so.inside row here)

    pub partly_more : (reached done row done' reached' : ℕ) → Partly count reached done → LowestMember (without (bit reached) (bit done)) row → ((i : ℕ) → bit done' i ≡ (bit done i || (ltb row 64 && eqb row i))) → AfterEdge Edge row reached reached' → Partly count reached' done'
    partly_more reached done row done' reached' so least adds after =
        let here = partly_here reached done row so least in
        record {
          start = after.kept from so.start;
          only = λ i h. ⊎_elim (so.only i) (λ m. good row m.0 i here.1 (so.only row here.0) m.1) (after.only i h);
          inside = λ i h. ⊎_elim (so.inside i) (λ m. stays row m.0 i here.1 m.1) (after.only i h);
          closed = λ i a j h e.
              ⊎_elim
              (λ old. after.kept j (so.closed i a j old e))
              (λ same. let edge = subst (λ (n : ℕ). Edge n a j) (sym same) e in after.added a j edge (omega (arith, stays row a j here.1 edge)))
              (in_one_more done done' row i (adds i) h);
        }

    -- where nothing is left to do, the numbers reached lead only to numbers reached
    pub partly_done : (reached done : ℕ) → Partly count reached done → ((i : ℕ) → i < 64 → without (bit reached) (bit done) i ≡ false) → (i a j : ℕ) → bit reached i ≡ true → Edge i a j → bit reached j ≡ true
    partly_done reached done so none i a j h e =
        let low = so.inside i h in
        ⊎_elim
        (λ there. so.closed i a j there e)
        (λ missing. absurd (both_ways (without (bit reached) (bit done) i) (none i (omega arith)) (and_from _ _ h (not_from_false _ missing))))
        (cases_Bool (bit done i))

-- what is there under a test, and what is not
pub chosen_some : (b : Bool) (o : Option ℕ) (x : ℕ) → cond b o None ≡ Some x → (b ≡ true) × (o ≡ Some x)
chosen_some true o x is = (refl, is)
chosen_some false o x is = absurd (none-some x is)

module _ (A : Automaton) (q : ℕ) (set : ℕ → Bool) where
  -- a sequence and one symbol more
  leads_push : (w : List ℕ) (r i a j : ℕ) → leads A q r w ≡ Some i → A.step q i a ≡ Some j → leads A q r (w ++ a ∷ []) ≡ Some j
  leads_push [] r i a j to is = ap (λ o. onward o Some) (ap (λ (n : ℕ). A.step q n a) (same_Some _ _ to) ∙ is)
  leads_push (b ∷ w) r i a j to is = by (A.step q r b) (λ s h. leads_push w s i a j h is) to
    where
      by : (o : Option ℕ) → ((s : ℕ) → leads A q s w ≡ Some i → leads A q s (w ++ a ∷ []) ≡ Some j) → onward o (λ s. leads A q s w) ≡ Some i → onward o (λ s. leads A q s (w ++ a ∷ [])) ≡ Some j
      by (Some s) more to = more s to
      by None more to = absurd (none-some i to)

  pub leads_on : (r i a j : ℕ) → LeadsOver A q set r i → RowEdge A q set i a j → LeadsOver A q set r j
  leads_on r i a j so edge = (so.0 ++ a ∷ [], All-push (λ b. set b ≡ true) so.0 a so.1 edge.0, leads_push so.0 r i a j so.2 edge.1)

  -- a sequence that leads to a row from which another runs
  pub runs_on : (w u : List ℕ) (r i : ℕ) → leads A q r w ≡ Some i → row_runs A q i u ≡ true → row_runs A q r (w ++ u) ≡ true
  runs_on [] u r i to runs = subst (λ (n : ℕ). row_runs A q n u ≡ true) (sym (same_Some _ _ to)) runs
  runs_on (a ∷ w) u r i to runs = by (A.step q r a) (λ s h. runs_on w u s i h runs) to
    where
      by : (o : Option ℕ) → ((s : ℕ) → leads A q s w ≡ Some i → row_runs A q s (w ++ u) ≡ true) → onward o (λ s. leads A q s w) ≡ Some i → passes o (λ s. row_runs A q s (w ++ u)) ≡ true
      by (Some s) more to = more s to
      by None more to = absurd (none-some i to)

  -- a sequence that leads to a row where it may end runs there
  pub ends_runs : (r i : ℕ) → LeadsOver A q set r i → A.ends q i ≡ true → RunsOverFrom A q set r
  ends_runs r i so ends = (so.0, so.1, subst (λ (u : List ℕ). row_runs A q r u ≡ true) (append-nil so.0) (runs_on so.0 [] r i so.2 ends))

  -- a sequence over the set ends at a row that was reached
  pub ends_reached : (from rows : ℕ) → RowsReachedFrom A q set from rows → (w : List ℕ) (r : ℕ) → bit rows r ≡ true → AllByRecursion (λ a. set a ≡ true) w → row_runs A q r w ≡ true → (i : ℕ) × (bit rows i ≡ true) × (A.ends q i ≡ true)
  ends_reached from rows all [] r here over runs = (r, here, runs)
  ends_reached from rows all (a ∷ w) r here over runs =
      let next = passed (A.step q r a) (λ s. row_runs A q s w) runs in
      ends_reached from rows all w next.0 (all.closed r a next.0 here (over.0, next.1)) over.1 next.2

  -- a sequence leads from a row of the state to a row of the state
  pub leads_inside : (count : ℕ) → ((i a j : ℕ) → i < count → A.step q i a ≡ Some j → j < count) → (w : List ℕ) (r i : ℕ) → r < count → leads A q r w ≡ Some i → i < count
  leads_inside count stays [] r i low to = subst (λ (n : ℕ). n < count) (same_Some _ _ to) low
  leads_inside count stays (a ∷ w) r i low to = by (A.step q r a) (λ s is h. leads_inside count stays w s i (stays r a s low is) h) refl to
    where
      by : (o : Option ℕ) → ((s : ℕ) → A.step q r a ≡ Some s → leads A q s w ≡ Some i → i < count) → A.step q r a ≡ o → onward o (λ s. leads A q s w) ≡ Some i → i < count
      by (Some s) more is to = more s is to
      by None more is to = absurd (none-some i to)

  -- whether a row that was reached may end decides whether some sequence over the set runs from
  -- there
  pub ends_decide : (count : ℕ) → ((i a j : ℕ) → i < count → A.step q i a ≡ Some j → j < count) → (from rows : ℕ) → from < count → RowsReachedFrom A q set from rows → Decides (some_below count (λ i. bit rows i && A.ends q i)) (RunsOverFrom A q set from)
  ends_decide count stays from rows inside all = (
    λ found.
        let at = some_tells (λ i. bit rows i && A.ends q i) count found in
        let parts = and_parts (bit rows at.0) (A.ends q at.0) at.2 in
        ends_runs from at.0 (all.only at.0 parts.0) parts.1,
    λ runs.
        let at = ends_reached from rows all runs.0 from all.start runs.1 runs.2 in
        let w = all.only at.0 at.1 in
        some_found (λ i. bit rows i && A.ends q i) count at.0 (leads_inside count stays w.0 from at.0 inside w.2) (and_from _ _ at.1 at.2),
  )
