-- A symbol that a sequence holds leads from a row that was reached to one that goes on to an end.
-- Assumes nothing.
use Rattle.std.proofs.Common.{◌≡◌, ℕ, ◌<◌, Bool, true, ◌&&◌, List, [], ◌∷◌, ◌++◌, Some, Decides, sym, refl, ap, ◌∙◌, subst}
use Rattle.std.specs.List.{AllByRecursion}
use Rattle.std.proofs.ByRecursion.{All-append, All-weaker}
use Rattle.std.proofs.lemmas.Bool.{and_parts, and_from}
use Rattle.bits.specs.Bits.{bit}
use Rattle.schema.specs.Automata.{Automaton, passes, present, row_runs, has_next}
use Rattle.schema.specs.Below.{some_below}
use Rattle.schema.specs.Live.{Live, LiveMask, LiveSequence, LiveSymbol}
use Rattle.schema.specs.Rows.{Held, RowsReachedFrom, RunsOverFrom}
use Rattle.schema.proofs.Bound.{passed}
use Rattle.schema.proofs.Gathering.{runs_on, leads_inside}
use Rattle.schema.proofs.Searches.{some_found, some_tells}

module _ (A : Automaton) (q : ℕ) (set : ℕ → Bool) (count reached ending : ℕ) (some : 0 < count) (stays : (i a j : ℕ) → i < count → A.step q i a ≡ Some j → j < count) (rows : RowsReachedFrom A q set 0 reached) (ends : (i : ℕ) → Decides (bit ending i) ((i < count) × RunsOverFrom A q set i)) where
  -- the symbol leads from the row, which was reached, to one that goes on to an end
  abbrev pub on_the_way : ℕ → ℕ → Bool
  on_the_way a i = bit reached i && passes (A.step q i a) (bit ending)

  within : (i : ℕ) → bit reached i ≡ true → i < count
  within i here = let w = rows.only i here in leads_inside A q set count stays w.0 0 i some w.2

  pub held_of : (a : ℕ) → set a ≡ true → some_below count (on_the_way a) ≡ true → Held A q set a
  held_of a in-set found =
      let at = some_tells (on_the_way a) count found in
      let parts = and_parts (bit reached at.0) _ at.2 in
      let next = passed (A.step q at.0 a) (bit ending) parts.1 in
      let before = rows.only at.0 parts.0 in
      let after = ((ends next.0).0 next.2).1 in (
        before.0,
        after.0,
        All-append (λ b. set b ≡ true) before.0 (a ∷ after.0) before.1 (in-set, after.1),
        runs_on A q set before.0 (a ∷ after.0) 0 at.0 before.2 (subst (λ o. passes o (λ s. row_runs A q s after.0) ≡ true) (sym next.1) after.2),
      )

  held_from : (u v : List ℕ) (a r : ℕ) → bit reached r ≡ true → AllByRecursion (λ b. set b ≡ true) (u ++ a ∷ v) → row_runs A q r (u ++ a ∷ v) ≡ true → (set a ≡ true) × (some_below count (on_the_way a) ≡ true)
  held_from [] v a r here over runs =
      let next = passed (A.step q r a) (λ s. row_runs A q s v) runs in
      let low = within r here in
      let goes_on = (ends next.0).1 (stays r a next.0 low next.1, (v, over.1, next.2)) in
      (over.0, some_found (on_the_way a) count r low (and_from _ _ here (subst (λ o. passes o (bit ending) ≡ true) (sym next.1) goes_on)))
  held_from (b ∷ u) v a r here over runs =
      let next = passed (A.step q r b) (λ s. row_runs A q s (u ++ a ∷ v)) runs in
      held_from u v a next.0 (rows.closed r b next.0 here (over.0, next.1)) over.1 next.2

  pub of_held : (a : ℕ) → Held A q set a → (set a && some_below count (on_the_way a)) ≡ true
  of_held a h = let told = held_from h.0 h.1 a 0 rows.start h.2 h.3 in and_from _ _ told.0 told.1

-- the same symbols and the same rows have the same sequences
pub held_same : (A B : Automaton) (q : ℕ) (set other : ℕ → Bool) → ((a : ℕ) → set a ≡ other a) → ((w : List ℕ) → row_runs A q 0 w ≡ row_runs B q 0 w) → (a : ℕ) → Held A q set a → Held B q other a
held_same A B q set other same rows a h = (h.0, h.1, All-weaker (λ b. set b ≡ true) (λ b. other b ≡ true) (λ b in-set. sym (same b) ∙ in-set) (h.0 ++ a ∷ h.1) h.2, sym (rows (h.0 ++ a ∷ h.1)) ∙ h.3)

-- the sequences over the symbols into live states are the live ones
module _ (B : Automaton) (n live q : ℕ) (low : q < n) (inside : (q a s : ℕ) → q < n → B.next q a ≡ Some s → s < n) (mask : LiveMask B n live) where
  to_live : (a : ℕ) → passes (B.next q a) (bit live) ≡ true → (s : ℕ) × (B.next q a ≡ Some s) × Live B s
  to_live a h = let s = passed (B.next q a) (bit live) h in (s.0, s.1, ((mask s.0).0 s.2).1)

  from_live : (a : ℕ) → (s : ℕ) × (B.next q a ≡ Some s) × Live B s → passes (B.next q a) (bit live) ≡ true
  from_live a s = subst (λ o. passes o (bit live) ≡ true) (sym s.1) ((mask s.0).1 (inside q a s.0 low s.1, s.2))

  have_next : (w : List ℕ) → AllByRecursion (λ a. passes (B.next q a) (bit live) ≡ true) w → has_next B q w ≡ true
  have_next [] over = refl
  have_next (a ∷ w) over = and_from _ _ (ap present (to_live a over.0).1) (have_next w over.1)

  -- a sequence over them that runs is live, and a live one runs over them
  pub live_of_over : (w : List ℕ) → AllByRecursion (λ a. passes (B.next q a) (bit live) ≡ true) w → row_runs B q 0 w ≡ true → LiveSequence B q w
  live_of_over w over runs = (and_from _ _ runs (have_next w over), All-weaker (λ a. passes (B.next q a) (bit live) ≡ true) (λ a. (s : ℕ) × (B.next q a ≡ Some s) × Live B s) to_live w over)

  pub over_of_live : (w : List ℕ) → LiveSequence B q w → AllByRecursion (λ a. passes (B.next q a) (bit live) ≡ true) w × (row_runs B q 0 w ≡ true)
  over_of_live w h = (All-weaker (λ a. (s : ℕ) × (B.next q a ≡ Some s) × Live B s) (λ a. passes (B.next q a) (bit live) ≡ true) from_live w h.1, (and_parts (row_runs B q 0 w) _ h.0).0)

  pub live_of_held : (a : ℕ) → Held B q (λ b. passes (B.next q b) (bit live)) a → LiveSymbol B q a
  live_of_held a h = (h.0, h.1, live_of_over (h.0 ++ a ∷ h.1) h.2 h.3)

  pub held_of_live : (a : ℕ) → LiveSymbol B q a → Held B q (λ b. passes (B.next q b) (bit live)) a
  held_of_live a h = let o = over_of_live (h.0 ++ a ∷ h.1) h.2 in (h.0, h.1, o.0, o.1)
