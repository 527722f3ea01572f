-- What holds of an area at every moment of a comparison: it begins so, turns keep it, and a verdict says it of trees. Assumes nothing.
use Rattle.std.proofs.Common.{◌≡◌, ℕ, zero, suc, ◌+◌, ◌-◌, ◌<◌, Bool, true, false, ltb, List, [], ◌∷◌, length, get_or, Some, Decides, sym, refl, ap, ◌∙◌, subst, inl, inr, ⊎_elim, arith}
use Rattle.std.specs.List.{slice_get}
use Rattle.std.proofs.lemmas.Bool.{cases_eq, cases_lt, cond-true, lt-ltb, false≢true}
use Rattle.std.proofs.lemmas.Option.{none-some, same_Some, slice_get_within, slice_get-get_or}
use Rattle.schema.specs.Automata.{Automaton}
use Rattle.schema.specs.Faults.{either_fault}
use Rattle.schema.specs.Live.{Live, LiveSymbol, LivePath}
use Rattle.schema.specs.Tables.{Tables, transition_byte, automaton}
use Rattle.schema.proofs.Onward.{live_next}
use Rattle.schema.proofs.Sound.{first_none, under}
use Rattle.search.proofs.Paths.{word_at_first}
use Rattle.search.proofs.Places.{nth_inside}
use Rattle.compare.specs.declared.pairs.Listed.{Listed}
use Rattle.compare.specs.declared.phase.Kind.{Kind}
use Rattle.compare.specs.declared.phase.Phase.{Phase}
use Rattle.compare.specs.declared.phase.Phase.TheVariants as phase
use Rattle.compare.specs.declared.phase.Verdict.TheVariants as verdict
use Rattle.compare.specs.Breaking.{Broken, Unbroken, Closed, ToldApart}
use Rattle.compare.specs.Invariant.{StatePath, SameAutomata, settled, Reached, Rooted, Passed, LastBroken, Stands, Invariant, InvariantBegins, InvariantSteps, InvariantConcludes, InvariantSame, IncludedCarries, ApartTells}
use Rattle.compare.specs.Listing.{pair_links}
use Rattle.compare.specs.Pairs.{start, listed}
use Rattle.compare.specs.Stepping.{with_nexts, examined_to, going_on, Turn, Turns, step_kept_from}
use Rattle.compare.specs.Trailing.{broken_index}
use Rattle.compare.specs.View.{View, view, begun}
use Rattle.compare.proofs.Allowing.{allows}
use Rattle.compare.proofs.Closed.{closed_carries}
use Rattle.compare.proofs.Goings.{none_left, one_left}
use Rattle.compare.proofs.Growing.{Listing, listing, passed_further, met_listed}
use Rattle.compare.proofs.Standing.{listed_nth, listed_tells}
use Rattle.compare.proofs.Telling.{broken_tells, onward_tells, unbroken_onward}
use Rattle.compare.proofs.Turning.{counts_stay}

-- automata that say the same are the same
pub same_automata : (A B : Automaton) → SameAutomata A B → A ≡ B
same_automata A B same = λ i. record { next = λ q a. same.next q a i; step = λ q r a. same.step q r a i; ends = λ q r. same.ends q r i; has = λ q v. same.has q v i }

pub invariant_same : InvariantSame
unfolding InvariantSame
invariant_same A B C D w first second g = subst (λ (X : Automaton). Invariant X D w) (same_automata A C first) (subst (λ (X : Automaton). Invariant A X w) (same_automata B D second) g)

-- the pair at a place below another one that is there
entry_below : (es : List Listed) (i j : ℕ) (e : Listed) → slice_get es j ≡ Some e → i < j → (x : Listed) × (slice_get es i ≡ Some x)
entry_below es i j e at low = nth_inside es i (omega (arith, low, slice_get_within es j e at))

module _ (A B : Automaton) where
  -- a broken pair
  turn_broken : (w : View) (pair : Listed) (k : Kind) → w.phase ≡ phase.Running → slice_get w.pairs w.examined ≡ Some pair → Broken A B k pair.first pair.second → Invariant A B w → Invariant A B (examined_to w w.pairs (phase.Ready (verdict.Apart k)))
  turn_broken w pair k runs at broken g =
      let last : w.examined ≡ w.examined + 1 - 1 = omega arith in
      record {
        rooted = g.rooted;
        reached = g.reached;
        examined = λ i e low there. g.examined i e (subst (λ (p : Phase). i < settled p w.examined) (sym runs) (subst (λ (n : ℕ). i < n) (sym last) low)) there;
        stands = record { some = omega arith; pair = pair; at = subst (λ (n : ℕ). slice_get w.pairs n ≡ Some pair) last at; broken = broken };
        ordered = g.ordered;
        led = λ i e above there. omega (arith, g.led i e above there);
      }

  -- an unbroken pair, where these symbols hold all that are live at its first state
  module _ (w : View) (pair : Listed) (live : ℕ → Bool) (low : (p a s : ℕ) → A.next p a ≡ Some s → a < w.symbols) (exact : (a : ℕ) → Decides (live a) (LiveSymbol A pair.first a)) (runs : w.phase ≡ phase.Running) (at : slice_get w.pairs w.examined ≡ Some pair) (unbroken : Unbroken A B pair.first pair.second) (g : Invariant A B w) where
    abbrev es : List Listed
    es = with_nexts A B live pair.first pair.second w.examined w.symbols w.pairs

    abbrev told : Listing A B live pair w.examined w.symbols w.pairs es
    told = listing A B live pair exact w.examined w.pairs g.reached at g.ordered (λ k e above there. inl (g.led k e above there)) w.symbols

    led_on : (i : ℕ) (e : Listed) → 0 < i → slice_get es i ≡ Some e → e.parent < w.examined + 1
    led_on i e above there = ⊎_elim (λ low. omega (arith, low)) (λ here. omega (arith, here.0)) (told.upto i e above there)

    rooted_on : Rooted A B es
    rooted_on =
        ⊎_elim
        (λ first. inl (first.0, told.further 0 start first.1))
        (λ none. absurd (none-some _ (subst (λ (xs : List Listed). slice_get xs w.examined ≡ Some pair) none.1 at)))
        g.rooted

    passed_now : Passed A B es w.examined pair
    passed_now =
        record {
          unbroken = unbroken;
          onward = λ a s alive first. let there = unbroken_onward A B pair.first pair.second a unbroken alive in (there.0, there.1, told.added a s there.0 (low pair.first a s first) ((exact a).1 alive) first there.1);
        }

    passed_on : (i : ℕ) (e : Listed) → i < w.examined + 1 → slice_get es i ≡ Some e → Passed A B es i e
    passed_on i e early there =
        ⊎_elim
        (λ before.
        let x = entry_below w.pairs i w.examined pair at before in
        let same : x.0 ≡ e = same_Some _ _ (sym (told.further i x.0 x.1) ∙ there) in
        subst (Passed A B es i) same (passed_further A B w.pairs es i x.0 told.further (g.examined i x.0 (subst (λ (p : Phase). i < settled p w.examined) (sym runs) before) x.1)))
        (λ last.
        let here : w.examined ≡ i = omega arith in
        subst (λ (k : ℕ). Passed A B es k e) here (subst (Passed A B es w.examined) (same_Some _ _ (sym (told.further w.examined pair at) ∙ ap (slice_get es) here ∙ there)) passed_now))
        (cases_lt i w.examined)

    invariant_as : (p : Phase) → settled p (w.examined + 1) ≡ w.examined + 1 → Stands A B (examined_to w es p) p → Invariant A B (examined_to w es p)
    invariant_as p all stands = record { rooted = rooted_on; reached = told.reached; examined = λ i e early there. passed_on i e (subst (λ (n : ℕ). i < n) all early) there; stands = stands; ordered = told.ordered; led = led_on }

    turn_unbroken : Invariant A B (examined_to w es (going_on (w.examined + 1) es))
    turn_unbroken =
        ⊎_elim
        (λ done. subst (λ (p : Phase). Invariant A B (examined_to w es p)) (none_left (w.examined + 1) (length es) es refl done) (invariant_as (phase.Ready verdict.Included) refl done))
        (λ more. subst (λ (p : Phase). Invariant A B (examined_to w es p)) (one_left (w.examined + 1) (length es) es refl more) (invariant_as phase.Running refl (left more)))
        (cases_eq (w.examined + 1) (length es))
      where
        left : (w.examined + 1 ≡ length es → ⊥) → w.examined + 1 < length es
        left more = omega (arith, more, slice_get_within es w.examined pair (told.further w.examined pair at))

  invariant_turn : (w w' : View) → ((p a s : ℕ) → A.next p a ≡ Some s → a < w.symbols) → w.phase ≡ phase.Running → Turn A B w w' → Invariant A B w → Invariant A B w'
  invariant_turn w w' low runs turn g =
      ⊎_elim
      (λ none.
      let inside : w.examined < length w.pairs = subst (Stands A B w) runs g.stands in
      absurd (none-some _ (sym none.0 ∙ (nth_inside w.pairs w.examined inside).1)))
      (λ one.
      ⊎_elim
      (λ broken. subst (Invariant A B) (sym broken.2) (turn_broken w one.pair broken.0 runs one.at broken.1 g))
      (λ on. subst (Invariant A B) (sym on.1.2) (turn_unbroken w one.pair on.1.0 low on.1.1 runs one.at on.0 g))
      one.outcome)
      turn

  invariant_turns : (k : ℕ) (w w' : View) → ((p a s : ℕ) → A.next p a ≡ Some s → a < w.symbols) → Turns A B k w w' → Invariant A B w → Invariant A B w' × (w'.symbols ≡ w.symbols)
  invariant_turns zero w w' low same g = (subst (Invariant A B) (sym same) g, ap (λ (x : View). x.symbols) same)
  invariant_turns (suc k) w w' low turns g =
      let v = turns.0 in
      let before = invariant_turns k w v low turns.1 g in
      let noted : v.symbols ≡ w.symbols = before.1 in (
        invariant_turn v w' (λ p a s is. subst (λ (n : ℕ). a < n) (sym noted) (low p a s is)) turns.2 turns.3 before.0,
        (counts_stay A B v w' turns.3).0 ∙ noted,
      )

pub invariant_steps : InvariantSteps
unfolding InvariantSteps
invariant_steps T U sets others claim n slots a answer a' (none, on) g =
    let w = view a in
    let kept = (first_none (step_kept_from w T U claim n slots) [] (first_none (either_fault T U) _ none).1).0 in
    let noted : w.symbols ≡ T.symbols = (allows w T U claim n slots kept).symbols in
    let low : (p b s : ℕ) → (automaton T sets).next p b ≡ Some s → b < w.symbols = λ p b s is. subst (λ (n : ℕ). b < n) (sym noted) (under b T.symbols (transition_byte T p b) s is).0 in
    (invariant_turns (automaton T sets) (automaton U others) on.stepped.taken w (view a') low on.stepped.turns g).0

module _ (A B : Automaton) where
  reached_start : Reached A B (start ∷ [])
  reached_start zero e at = ([], word_at_first pair_links (start ∷ []), ap (λ (x : Listed). x.first) (same_Some _ _ at), ap (λ (x : Listed). x.second) (same_Some _ _ at))
  reached_start (suc i) e at = absurd (none-some _ at)

  -- there is no pair but the first
  start_alone : (i : ℕ) (e : Listed) → 0 < i → slice_get (start ∷ []) i ≡ Some e → ⊥
  start_alone zero e above at = omega arith
  start_alone (suc i) e above at = none-some _ at

  invariant_begun : (w : View) (T U : Tables) (b : Bool) → Decides b (Live A 0) → Invariant A B (begun w T U b)
  invariant_begun w T U true exact =
      record {
        rooted = inl (exact.0 refl, refl);
        reached = reached_start;
        examined = λ i e low. absurd (omega arith);
        stands = omega arith;
        ordered = λ i j e f above up at. absurd (start_alone i e above at);
        led = λ i e above at. absurd (start_alone i e above at);
      }
  invariant_begun w T U false exact =
      record {
        rooted = inr (λ live. absurd (false≢true (exact.1 live)), refl);
        reached = λ i e at. absurd (none-some _ at);
        examined = λ i e low. absurd (omega arith);
        stands = refl;
        ordered = λ i j e f above up at. absurd (none-some _ at);
        led = λ i e above at. absurd (none-some _ at);
      }

pub invariant_begins : InvariantBegins
unfolding InvariantBegins
invariant_begins e T U sets others a claim a' (none, begins) =
    subst (Invariant (automaton T sets) (automaton U others)) (sym begins.after) (invariant_begun (automaton T sets) (automaton U others) (view a) T U begins.live begins.decides)

pub invariant_concludes : InvariantConcludes
unfolding InvariantConcludes
invariant_concludes A B a claim k n apart a' (none, is) g =
    let w = view a in
    let last : LastBroken A B w k = subst (Stands A B w) is.0 g.stands in
    subst (Invariant A B) (sym is.4)
    (record {
      rooted = g.rooted;
      reached = g.reached;
      examined = λ i e low. g.examined i e (subst (λ (p : Phase). i < settled p w.examined) (sym is.0) low);
      stands = record { some = last.some; pair = last.pair; at = last.at; broken = last.broken };
      ordered = g.ordered;
      led = g.led;
    })

module _ (A B : Automaton) where
  -- what a passed pair says of its two states
  abbrev Says : List Listed → ℕ → ℕ → Type 0
  Says es p q = Unbroken A B p q × ((a s : ℕ) → LiveSymbol A p a → A.next p a ≡ Some s → (u : ℕ) × (B.next q a ≡ Some u) × (listed es s u ≡ true))

  -- where every listed pair has passed, the listed pairs are closed
  closed : (es : List Listed) → ((i : ℕ) (e : Listed) → slice_get es i ≡ Some e → Passed A B es i e) → Closed A B (listed es)
  closed es each =
      record {
        unbroken = λ p q there. (pair p q there).0;
        onward = λ p q a s there. (pair p q there).1 a s;
      }
    where
      pair : (p q : ℕ) → listed es p q ≡ true → Says es p q
      pair p q there =
          let at = listed_tells es p q there in
          let passed = each at.0 (get_or es at.0 start) (slice_get-get_or es at.0 start at.1) in
          let says : Says es (get_or es at.0 start).first (get_or es at.0 start).second = (passed.unbroken, λ a s alive first. let o = passed.onward a s alive first in (o.0, o.1, met_listed es at.0 a s o.0 o.2)) in
          subst (λ (r : ℕ). Says es r q) at.2 (subst (Says es (get_or es at.0 start).first) at.3 says)

  live_along : (w : List ℕ) (p s : ℕ) → Live A p → LivePath A p w s → Live A s
  live_along [] p s live path = subst (Live A) path live
  live_along (a ∷ w) p s live path = live_along w path.1.0 s (live_next A p a path.1.0 path.0 path.1.1) path.1.2

  -- two states that a tree tells apart are led to from two others, which a tree tells apart too
  told_back : (w : List ℕ) (p q s u : ℕ) → Live A p → LivePath A p w s → StatePath B q w u → ToldApart A B s u → ToldApart A B p q
  told_back [] p q s u live path also told = subst (λ (r : ℕ). ToldApart A B r q) (sym path) (subst (ToldApart A B s) (sym also) told)
  told_back (a ∷ w) p q s u live path also told =
      onward_tells A B p q a path.1.0 also.0 live path.0 path.1.1 also.1
      (told_back w path.1.0 also.0 s u (live_next A p a path.1.0 path.0 path.1.1) path.1.2 also.2 told)

  -- the broken pair that a trail is written of is the one examined last
  pub last_index : (w : View) (k : Kind) → LastBroken A B w k → broken_index w ≡ w.examined - 1
  last_index w k last = cond-true (ltb (w.examined - 1) (length w.pairs)) (w.examined - 1) 0 (lt-ltb (w.examined - 1) (length w.pairs) (slice_get_within w.pairs (w.examined - 1) last.pair last.at))

  last_tells : (w : View) (k : Kind) → Invariant A B w → LastBroken A B w k → ToldApart A B 0 0
  last_tells w k g last =
      let r = g.reached (w.examined - 1) last.pair last.at in
      ⊎_elim
      (λ first. told_back r.0 0 0 last.pair.first last.pair.second first.0 r.2 r.3 (broken_tells A B k last.pair.first last.pair.second (live_along r.0 0 last.pair.first first.0 r.2) last.broken))
      (λ none. absurd (none-some _ (subst (λ (xs : List Listed). slice_get xs (w.examined - 1) ≡ Some last.pair) none.1 last.at)))
      g.rooted

pub included_carries : IncludedCarries
unfolding IncludedCarries
included_carries A B w g is t accepted =
    let all : w.examined ≡ length w.pairs = subst (Stands A B w) is g.stands in
    let each : (i : ℕ) (e : Listed) → slice_get w.pairs i ≡ Some e → Passed A B w.pairs i e = λ i e at. g.examined i e (subst (λ (p : Phase). i < settled p w.examined) (sym is) (omega (arith, all, slice_get_within w.pairs i e at))) at in
    ⊎_elim
    (λ first. closed_carries A B (listed w.pairs) (closed A B w.pairs each) 0 0 (listed_nth w.pairs 0 start first.1) t accepted)
    (λ none. absurd (none.0 (t, accepted)))
    g.rooted

pub apart_tells : ApartTells
unfolding ApartTells
apart_tells A B w k g at =
    last_tells A B w k g (⊎_elim (λ ready. subst (Stands A B w) ready g.stands) (λ apart. subst (Stands A B w) apart g.stands) at)
