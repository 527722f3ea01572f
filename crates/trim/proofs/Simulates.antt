-- The trimmed automaton has at a kept state's number what the old one has there, renumbered, and so accepts there the trees that the
-- state accepts over permitted symbols. Assumes nothing.
use Rattle.std.proofs.Common.{◌≡◌, ℕ, ◌<◌, Bool, true, List, Some, None, sym, refl, ap, ◌∙◌, subst, inl, inr, ⊎_elim, ◌^◌, ◌≤◌, false, cond, ◌&&◌, eqb, ltb, [], ◌∷◌, get_or, is_some, arith}
use Rattle.std.specs.List.{AllByRecursion}
use Rattle.std.proofs.lemmas.Bool.{and_parts, and_from, cond-true, lt-ltb}
use Rattle.codec.specs.Trees.{Tree, node, Children, none, child, word}
use Rattle.bits.proofs.Counting.{count_le}
use Rattle.schema.specs.Automata.{Automaton, passes, present, row_runs, has_next, allowed, accepts, accepts_all}
use Rattle.schema.specs.Bindings.{States, at, StatesBelow, leaf, beside, root, Occurs, OccursBelow, Bound, BoundAll}
use Rattle.schema.specs.Faults.{table_fault}
use Rattle.schema.specs.Live.{LiveSymbol}
use Rattle.schema.specs.Permitted.{permit}
use Rattle.schema.specs.Tables.{Tables, automaton, row_count, entry, transition_byte, row_byte}
use Rattle.schema.proofs.Permits.{permit_runs}
use Rattle.schema.proofs.Bound.{passed, accepted_is_bound}
use Rattle.schema.proofs.Gathering.{chosen_some}
use Rattle.schema.proofs.Sizes.{sized, sound_size}
use Rattle.schema.proofs.Sound.{some_not_none, under, Sound, sound}
use Rattle.trim.specs.Trimmed.{new_number, trimmed, transition_stays, new_transition}
use Rattle.trim.proofs.Paths.{bound_live}
use Rattle.trim.proofs.Permits.{next_of_bound}
use Rattle.trim.proofs.Bytes.{transition_new, domain_new, end_mark_new, row_byte_new}
use Rattle.trim.proofs.Sound.{entry_is, entry_below_255, stays_tells}

-- an entry that is there was not replaced
entry_stays : (b : Bool) (byte x : ℕ) → entry (cond b byte 255) ≡ Some x → b ≡ true
entry_stays true byte x is = refl
entry_stays false byte x is = absurd (some_not_none (sym is))

-- the states of the nodes, each by its new number
module _ (f : ℕ → ℕ) where
  abbrev mutual
    pub renumber : States → States
    renumber (at q bs) = at (f q) (renumber_all bs)

    renumber_all : StatesBelow → StatesBelow
    renumber_all leaf = leaf
    renumber_all (beside b bs) = beside (renumber b) (renumber_all bs)

  pub root_renumber : (b : States) → root (renumber b) ≡ f (root b)
  root_renumber (at q bs) = refl

  mutual
    pub occurs_renumber : (q : ℕ) (b : States) → Occurs q b → Occurs (f q) (renumber b)
    occurs_renumber q (at p bs) there = ⊎_elim (λ e. inl (ap f e)) (λ below. inr (occurs_below q bs below)) there

    occurs_below : (q : ℕ) (bs : StatesBelow) → OccursBelow q bs → OccursBelow (f q) (renumber_all bs)
    occurs_below q leaf there = absurd there
    occurs_below q (beside b bs) there = ⊎_elim (λ first. inl (occurs_renumber q b first)) (λ others. inr (occurs_below q bs others)) there

-- the symbols of accepted children have next states
next_of_all : (A : Automaton) (q : ℕ) (cs : Children) → accepts_all A q cs ≡ true → has_next A q (word cs) ≡ true
next_of_all A q none all = refl
next_of_all A q (child a t cs) all =
    let parts = and_parts (passes (A.next q a) (λ s. accepts A s t)) _ all in
    let to = passed (A.next q a) (λ s. accepts A s t) parts.0 in
    and_from _ _ (ap present to.1) (next_of_all A q cs parts.1)

module _ (T : Tables) (domains : List (ℕ → Bool)) (permitted kept : ℕ → Bool) (fault : table_fault T ≡ None) (inside : (q : ℕ) → kept q ≡ true → q < T.states) (passed_on : (q a s : ℕ) → kept q ≡ true → LiveSymbol (permit permitted (automaton T domains)) q a → (permit permitted (automaton T domains)).next q a ≡ Some s → kept s ≡ true) where
  -- the automaton, the same over the permitted symbols, the trimmed one, and a state's new number
  abbrev whole : Automaton
  whole = automaton T domains

  abbrev A : Automaton
  A = permit permitted (automaton T domains)

  abbrev B : Automaton
  B = automaton (trimmed T permitted kept) domains

  abbrev number : ℕ → ℕ
  number = new_number T permitted kept

  -- the symbol is one of the schema's, and its transition stays
  record Goes (q a : ℕ) : Type 0 where
    symbol : a < T.symbols
    stay : transition_stays T permitted kept q a ≡ true

  old_sound : Sound T whole
  old_sound = sound T domains (ap is_some fault)

  -- a permitted symbol that leads to a kept state
  goes : (q a s : ℕ) → A.next q a ≡ Some s → kept s ≡ true → Goes q a
  goes q a s is there =
      let over = chosen_some (permitted a) _ s is in
      let told = under a T.symbols (transition_byte T q a) s over.1 in
      record { symbol = told.0; stay = and_from _ _ over.0 (subst (λ o. passes o kept ≡ true) (sym told.1) there) }

  module _ (q : ℕ) (there : kept q ≡ true) where
    next_on : (a s : ℕ) → A.next q a ≡ Some s → kept s ≡ true → B.next (number q) a ≡ Some (number s)
    next_on a s is kept-s =
        let on = goes q a s is kept-s in
        let told = under a T.symbols (transition_byte T q a) s (chosen_some (permitted a) _ s is).1 in
        let low : number s < 255 = small _ _ _ (count_le s kept) (inside s kept-s) (sized T (sound_size T fault)).states.to in
        cond-true (ltb a T.symbols) (entry (transition_byte (trimmed T permitted kept) (number q) a)) None (lt-ltb a T.symbols on.symbol)
        ∙ ap entry (transition_new T permitted kept q (inside q there) there a on.symbol ∙ cond-true (transition_stays T permitted kept q a) (number (transition_byte T q a)) 255 on.stay
        ∙ ap number (entry_is (transition_byte T q a) s told.1))
        ∙ entry_below_255 (number s) low
      where
        small : (m s n : ℕ) → m ≤ s → s < n → n ≤ 64 → m < 255
        small m s n upto low few = omega arith

    next_back : (a m : ℕ) → B.next (number q) a ≡ Some m → (s : ℕ) × (A.next q a ≡ Some s) × (kept s ≡ true) × (number s ≡ m)
    next_back a m is =
        let told = under a T.symbols (transition_byte (trimmed T permitted kept) (number q) a) m is in
        let new = sym (ap entry (transition_new T permitted kept q (inside q there) there a told.0)) ∙ told.1 in
        let yes = entry_stays (transition_stays T permitted kept q a) (number (transition_byte T q a)) m new in
        let old = stays_tells T permitted kept q a yes in (
          transition_byte T q a,
          cond-true (permitted a) _ None old.allowed ∙ cond-true (ltb a T.symbols) (entry (transition_byte T q a)) None (lt-ltb a T.symbols told.0) ∙ old.leads,
          old.there,
          sym (cond-true (transition_stays T permitted kept q a) (number (transition_byte T q a)) 255 yes) ∙ entry_is (new_transition T permitted kept q a) m new,
        )

    step_on : (r a : ℕ) → r < row_count T q → Goes q a → B.step (number q) r a ≡ whole.step q r a
    step_on r a low on =
        ap (λ (b : ℕ). cond (ltb a T.symbols) (entry b) None) (row_byte_new T permitted kept q (inside q there) there r a low on.symbol ∙ cond-true (transition_stays T permitted kept q a) (row_byte T q r a) 255 on.stay)

    step_back : (r a j : ℕ) → r < row_count T q → B.step (number q) r a ≡ Some j → whole.step q r a ≡ Some j
    step_back r a j low is =
        let told = under a T.symbols (row_byte (trimmed T permitted kept) (number q) r a) j is in
        let new = sym (ap entry (row_byte_new T permitted kept q (inside q there) there r a low told.0)) ∙ told.1 in
        let yes = entry_stays (transition_stays T permitted kept q a) (row_byte T q r a) j new in
        sym (step_on r a low (record { symbol = told.0; stay = yes })) ∙ is

    ends_same : (r : ℕ) → r < row_count T q → B.ends (number q) r ≡ whole.ends q r
    ends_same r low = ap (λ (b : ℕ). eqb b 1) (end_mark_new T permitted kept q (inside q there) there r low)

    has_same : (v : ℕ) → B.has (number q) v ≡ whole.has q v
    has_same v = ap (λ (d : ℕ). ltb v (2 ^ 32) && get_or domains d (λ _. false) v) (domain_new T permitted kept q (inside q there) there)

    runs_on : (w : List ℕ) (r : ℕ) → r < row_count T q → AllByRecursion (Goes q) w → row_runs whole q r w ≡ true → row_runs B (number q) r w ≡ true
    runs_on [] r low all runs = ends_same r low ∙ runs
    runs_on (a ∷ w) r low all runs =
        let to = passed (whole.step q r a) (λ s. row_runs whole q s w) runs in
        let more = runs_on w to.0 (old_sound.step_in q r a to.0 (inside q there) low to.1) all.1 to.2 in
        subst (λ o. passes o (λ s. row_runs B (number q) s w) ≡ true) (sym (step_on r a low all.0 ∙ to.1)) more

    runs_back : (w : List ℕ) (r : ℕ) → r < row_count T q → row_runs B (number q) r w ≡ true → row_runs whole q r w ≡ true
    runs_back [] r low runs = sym (ends_same r low) ∙ runs
    runs_back (a ∷ w) r low runs =
        let to = passed (B.step (number q) r a) (λ s. row_runs B (number q) s w) runs in
        let old = step_back r a to.0 low to.1 in
        let more = runs_back w to.0 (old_sound.step_in q r a to.0 (inside q there) low old) to.2 in
        subst (λ o. passes o (λ s. row_runs whole q s w) ≡ true) (sym old) more

  some_row : (q : ℕ) → kept q ≡ true → 0 < row_count T q
  some_row q there = (old_sound.rows q (inside q there)).from

  mutual
    -- a tree bound over permitted symbols is bound in the trimmed tables, each node to its state's number
    pub bound_new : (t : Tree) (b : States) → Bound A t b → kept (root b) ≡ true → Bound B t (renumber number b)
    bound_new (node v cs) (at q bs) bound there =
        let below = below_new q cs bs there (bound_live A v cs q bs bound) bound.2 in
        let runs = (and_parts (row_runs A q 0 (word cs)) _ bound.1).0 in
        let old-runs = sym (permit_runs permitted whole q 0 (word cs)) ∙ runs in (
          has_same q there v ∙ bound.0,
          and_from _ _ (runs_on q there (word cs) 0 (some_row q there) below.0 old-runs) (next_of_bound B (number q) cs (renumber_all number bs) below.1),
          below.1,
        )

    below_new : (q : ℕ) (cs : Children) (bs : StatesBelow) → kept q ≡ true → AllByRecursion (LiveSymbol A q) (word cs) → BoundAll A q cs bs → AllByRecursion (Goes q) (word cs) × BoundAll B (number q) cs (renumber_all number bs)
    below_new q none leaf there live bound = (tt, tt)
    below_new q none (beside b bs) there live bound = absurd bound
    below_new q (child a t cs) leaf there live bound = absurd bound
    below_new q (child a t cs) (beside b bs) there live bound =
        let next = passed_on q a (root b) there live.0 bound.0 in
        let first = bound_new t b bound.1 next in
        let others = below_new q cs bs there live.1 bound.2 in (
          (goes q a (root b) bound.0 next, others.0),
          (next_on q there a (root b) bound.0 next ∙ ap Some (sym (root_renumber number b)), first, others.1),
        )

  pub accepts_new : (q : ℕ) (t : Tree) → kept q ≡ true → accepts A q t ≡ true → accepts B (number q) t ≡ true
  accepts_new q t there h =
      let b = accepted_is_bound.bound A q t h in
      let new = bound_new t b.0 b.2 (ap kept b.1 ∙ there) in
      subst (λ (m : ℕ). accepts B m t ≡ true) (root_renumber number b.0 ∙ ap number b.1)
      (accepted_is_bound.accepted B t (renumber number b.0) new)

  mutual
    pub accepts_old : (q : ℕ) (t : Tree) → kept q ≡ true → accepts B (number q) t ≡ true → accepts A q t ≡ true
    accepts_old q (node v cs) there h =
        let value = and_parts (B.has (number q) v) _ h in
        let content = and_parts (allowed B (number q) (word cs)) _ value.1 in
        let runs = (and_parts (row_runs B (number q) 0 (word cs)) _ content.0).0 in
        let below = all_old q cs there content.1 in
        let old-runs = permit_runs permitted whole q 0 (word cs) ∙ runs_back q there (word cs) 0 (some_row q there) runs in
        and_from _ _ (sym (has_same q there v) ∙ value.0) (and_from _ _ (and_from _ _ old-runs (next_of_all A q cs below)) below)

    all_old : (q : ℕ) (cs : Children) → kept q ≡ true → accepts_all B (number q) cs ≡ true → accepts_all A q cs ≡ true
    all_old q none there h = refl
    all_old q (child a t cs) there h =
        let parts = and_parts (passes (B.next (number q) a) (λ s. accepts B s t)) _ h in
        let to = passed (B.next (number q) a) (λ s. accepts B s t) parts.0 in
        let old = next_back q there a to.0 to.1 in
        let first = accepts_old old.0 t old.2 (subst (λ (m : ℕ). accepts B m t ≡ true) (sym old.3) to.2) in
        and_from _ _ (subst (λ o. passes o (λ s. accepts A s t) ≡ true) (sym old.1) first) (all_old q cs there parts.1)
