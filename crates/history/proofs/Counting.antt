-- How many pairs a comparison has examined: as many as the steps granted, while it runs. Assumes
-- nothing.
use Rattle.std.proofs.Common.{◌≡◌, ℕ, zero, suc, ◌+◌, ◌*◌, ◌<◌, ◌≤◌, Bool, true, false, cond, eqb, ◌&&◌, ◌⊎◌, List, [], ◌∷◌, length, None, Ok, sym, refl, ap, ◌∙◌, subst, ap₂, inl, inr, ⊎_elim, arith}
use Rattle.std.specs.List.{list_any}
use Rattle.std.proofs.lemmas.Bool.{and_from, both_ways, cond-true, eqb-false, or_left, or_parts, or_right, false≢true}
use Rattle.std.proofs.lemmas.Option.{slice_get_within}
use Rattle.schema.specs.Automata.{Automaton}
use Rattle.schema.specs.Tables.{Tables}
use Rattle.compare.specs.declared.area.Area.{Area}
use Rattle.compare.specs.declared.claim.Numbers.{Numbers}
use Rattle.compare.specs.declared.event.Event.TheVariants.{Conclude}
use Rattle.compare.specs.declared.pairs.Listed.{Listed}
use Rattle.compare.specs.declared.phase.Kind.{Kind}
use Rattle.compare.specs.declared.phase.Phase.{Phase}
use Rattle.compare.specs.declared.phase.Phase.TheVariants as phase
use Rattle.compare.specs.declared.phase.Verdict.{Verdict}
use Rattle.compare.specs.declared.phase.Verdict.TheVariants as verdict
use Rattle.compare.specs.Concluding.{claim_refusal}
use Rattle.compare.specs.Stepping.{Turn, Turns, Stepped, going_on, with_nexts, is_running}
use Rattle.compare.specs.View.{View, view, is_free, begun}
use Rattle.compare.proofs.Nexts.{with_nexts_longer}
use Rattle.compare.proofs.Turning.{counts_stay}
use Rattle.compare.proofs.Views.{few_pairs}
use Rattle.history.specs.Calls.{Call, conclude, first_automaton, second_automaton, Runs, same_numbers, is_made_with, some_own, is_ousting, is_conclusion, is_inclusion, is_giving_up, granted_by, granted}
use Rattle.history.specs.Comparisons.{Comparison, NeitherOustedNorGivenUp, GrantedAllPairs, HasVerdict}
use Rattle.history.proofs.Effects.{Effect, keeps, begins, steps, parts, ends, effect, part_holder, started_so}
use Rattle.history.proofs.Holders.{holders, held_step, own_step, started_held}
use Rattle.history.proofs.Permits.{Held, conclusion_permitted}

-- the area was concluded apart
abbrev pub is_apart : Phase → Bool
is_apart (phase.Apart k) = true
is_apart p = false

-- so many steps have been granted: it has not turned apart, the two counts are noted, and while it
-- runs as many pairs are examined, and one more is listed
record Counted (n m g : ℕ) (w : View) : Type 0 where
  together : (k : Kind) → w.phase ≡ phase.Apart k → ⊥
  firsts : w.firsts ≡ n
  seconds : w.seconds ≡ m
  runs : w.phase ≡ phase.Running → (w.examined ≡ g) × (w.examined < length w.pairs)

module _ (n m : ℕ) where
  -- a verdict stands
  ready :
      (g : ℕ) (w : View) (v : Verdict) → w.phase ≡ phase.Ready v → w.firsts ≡ n → w.seconds ≡ m →
      Counted n m g w
  ready g w v is firsts seconds =
      record {
        together = λ k apart. false≢true (ap is_apart (sym is ∙ apart));
        firsts = firsts;
        seconds = seconds;
        runs = λ running. absurd (false≢true (ap is_running (sym is ∙ running)));
      }

  -- one pair more is examined, and these are listed
  goes_on :
      (g : ℕ) (w : View) (es : List Listed) → w.phase ≡ going_on (g + 1) es → w.pairs ≡ es →
      w.examined ≡ g + 1 → g < length es → w.firsts ≡ n → w.seconds ≡ m → Counted n m (g + 1) w
  goes_on g w es is listed more low firsts seconds = by (eqb (g + 1) (length es)) refl is
    where
      by :
          (b : Bool) → eqb (g + 1) (length es) ≡ b →
          w.phase ≡ cond b (phase.Ready verdict.Included) phase.Running → Counted n m (g + 1) w
      by true all is = ready (g + 1) w verdict.Included is firsts seconds
      by false left is =
          record {
            together = λ k apart. false≢true (ap is_apart (sym is ∙ apart));
            firsts = firsts;
            seconds = seconds;
            runs = λ running. (more, omega (arith, eqb-false (g + 1) (length es) left, more, low, ap length listed));
          }

  module _ (A B : Automaton) where
    turn_counted :
        (g : ℕ) (w w' : View) → w.phase ≡ phase.Running → Turn A B w w' → Counted n m g w →
        Counted n m (g + 1) w'
    turn_counted g w w' runs turn c =
        let stay = counts_stay A B w w' turn in
        let firsts : w'.firsts ≡ n = stay.1 ∙ c.firsts in
        let seconds : w'.seconds ≡ m = stay.2 ∙ c.seconds in
        ⊎_elim
        (λ none. ready (g + 1) w' verdict.Included (ap (λ (x : View). x.phase) none.1) firsts seconds)
        (λ one.
        ⊎_elim
        (λ broken. ready (g + 1) w' (verdict.Apart broken.0) (ap (λ (x : View). x.phase) broken.2) firsts seconds)
        (λ on.
        let es = with_nexts A B on.1.0 one.pair.first one.pair.second w.examined w.symbols w.pairs in
        let here : w.examined ≡ g = (c.runs runs).0 in
        goes_on g w' es
        (ap (λ (x : View). x.phase) on.1.2 ∙ ap (λ (k : ℕ). going_on (k + 1) es) here)
        (ap (λ (x : View). x.pairs) on.1.2)
        (omega (arith, ap (λ (x : View). x.examined) on.1.2, here))
        (omega (arith, here, slice_get_within w.pairs w.examined one.pair one.at, with_nexts_longer A B on.1.0 one.pair.first one.pair.second w.examined w.symbols w.pairs))
        firsts seconds)
        one.outcome)
        turn

    turns_counted : (k g : ℕ) (w w' : View) → Turns A B k w w' → Counted n m g w → Counted n m (g + k) w'
    turns_counted zero g w w' turns c = let none : g ≡ g + zero = omega arith in subst (λ (i : ℕ). Counted n m i w') none (subst (Counted n m g) (sym turns) c)
    turns_counted (suc k) g w w' turns c =
        let last : (g + k) + 1 ≡ g + suc k = omega arith in
        subst (λ (i : ℕ). Counted n m i w') last (turn_counted (g + k) turns.0 w' turns.2 turns.3 (turns_counted k g w turns.0 turns.1 c))

    -- a step examines as many as it was asked for, where the area still runs
    stepped_counted :
        (k g : ℕ) (w w' : View) → Stepped A B k w w' → Counted n m g w → Counted n m (g + k) w'
    stepped_counted k g w w' s c =
        let after = turns_counted s.taken g w w' s.turns c in
        record {
          together = after.together;
          firsts = after.firsts;
          seconds = after.seconds;
          runs = λ running. (omega (arith, (after.runs running).0, s.until running), (after.runs running).1);
        }

-- a conclude that answers included is accepted
inclusion_concludes : (d : Call) → is_inclusion d ≡ true → is_conclusion d ≡ true
inclusion_concludes (conclude c (Ok v)) is = refl
inclusion_concludes d is = absurd (false≢true is)

module _ (n : Numbers) (i j : ℕ) where
  -- where the steps granted reach the product of the counts, a verdict stands
  enough :
      (g : ℕ) (a : Area) → Held n (view a) → Counted i j g (view a) → i * j ≤ g →
      claim_refusal (view a) n Conclude ≡ None
  enough g a held c reached = by a.phase refl
    where
      by : (p : Phase) → a.phase ≡ p → claim_refusal (view a) n Conclude ≡ None
      by phase.Free is = absurd (both_ways (is_free a.phase) held.busy (ap is_free is))
      by phase.Running is =
          let runs = c.runs is in
          absurd (omega (arith, runs.0, runs.1, few_pairs a.pairs, reached, ap₂ (λ (x : ℕ) (y : ℕ). x * y) c.firsts c.seconds))
      by (phase.Ready v) is = conclusion_permitted (view a) n v held is
      by (phase.Apart k) is = absurd (c.together k is)

  -- the area is held, after so many steps granted; and it is neither ousted nor given up by the
  -- calls, which grant enough
  record Course (cs : List Call) (g : ℕ) (a : Area) : Type 0 where
    held : Held n (view a)
    counted : Counted i j g (view a)
    unousted : list_any is_ousting cs ≡ false
    kept : some_own n is_giving_up cs ≡ false
    reached : i * j ≤ g + granted n cs

  -- its conclude is among the calls, or would be accepted
  abbrev Timely : List Call → Area → Type 0
  Timely cs now = (some_own n is_conclusion cs ≡ true) ⊎ (claim_refusal (view now) n Conclude ≡ None)

  -- what one call more, before the others, comes to
  module _ (d : Call) (cs : List Call) (g : ℕ) (a m now : Area) (c : Course (d ∷ cs) g a) (then : (g' : ℕ) → Course cs g' m → Timely cs now) where
    later :
        (g' : ℕ) → g' ≡ g + granted_by n d → Held n (view m) → Counted i j g' (view m) →
        Timely (d ∷ cs) now
    later g' more held counted =
        let course : Course cs g' m = record {
          held = held;
          counted = counted;
          unousted = (or_parts (is_ousting d) _ c.unousted).1;
          kept = (or_parts (is_made_with n d && is_giving_up d) (some_own n is_giving_up cs) c.kept).1;
          reached = omega (arith, more, c.reached);
        } in
        ⊎_elim (λ so. inl (or_right _ _ so)) inr (then g' course)

    concluded_now : is_made_with n d ≡ true → is_conclusion d ≡ true → Timely (d ∷ cs) now
    concluded_now its is = inl (or_left _ _ (and_from _ _ its is))

    one_call : Effect d a m → Timely (d ∷ cs) now
    one_call (keeps k) = later g (omega (arith, k.grants n)) (subst (λ (x : Area). Held n (view x)) (sym k.same) c.held) (subst (λ (x : Area). Counted i j g (view x)) (sym k.same) c.counted)
    one_call (begins b) = absurd (⊎_elim (both_ways (is_ousting d) (or_parts (is_ousting d) _ c.unousted).0) (both_ways (is_free a.phase) c.held.busy) b.how)
    one_call (steps s) =
        let given : granted_by n d ≡ s.asked = subst (λ (x : Call). granted_by n x ≡ s.asked) (sym s.is) (cond-true (same_numbers n s.numbers) s.asked 0 (own_step n s c.held)) in
        later (g + s.asked) (omega (arith, given)) (held_step n s c.held) (stepped_counted i j (first_automaton s.handed) (second_automaton s.handed) s.asked g (view a) (view m) s.does.1.stepped c.counted)
    one_call (parts p) =
        concluded_now
        (ap (is_made_with n) p.is ∙ holders n (view a) p.claim.numbers c.held (part_holder p))
        (ap is_conclusion p.is)
    one_call (ends e) =
        let its : is_made_with n d ≡ true = e.made n ∙ holders n (view a) e.numbers c.held e.holder in
        let ungiven = (or_parts (is_made_with n d && is_giving_up d) (some_own n is_giving_up cs) c.kept).0 in
        ⊎_elim (λ included. concluded_now its (inclusion_concludes d included)) (λ gives. absurd (both_ways _ ungiven (and_from _ _ its gives))) e.which

  timely : (cs : List Call) (g : ℕ) (a now : Area) → Runs cs a now → Course cs g a → Timely cs now
  timely [] g a now runs c = inr (subst (λ (x : Area). claim_refusal (view x) n Conclude ≡ None) (sym runs) (enough g a c.held c.counted (omega (arith, c.reached))))
  timely (d ∷ cs) g a now runs c = one_call d cs g a runs.0 now c (λ g' c'. timely cs g' runs.0 now runs.2 c') (effect d a runs.0 runs.1)

-- a comparison that has begun
begun_counted :
    (w w' : View) (T U : Tables) (live : Bool) → w' ≡ begun w T U live → Counted T.states U.states 0 w'
begun_counted w w' T U true is = record {
  together = λ k apart. false≢true (ap is_apart (sym (ap (λ (x : View). x.phase) is) ∙ apart));
  firsts = ap (λ (x : View). x.firsts) is;
  seconds = ap (λ (x : View). x.seconds) is;
  runs = λ _. (ap (λ (x : View). x.examined) is, omega (arith, ap (λ (x : View). x.examined) is, ap (λ (x : View). length x.pairs) is));
}
begun_counted w w' T U false is = ready T.states U.states 0 w' verdict.Included (ap (λ (x : View). x.phase) is) (ap (λ (x : View). x.firsts) is) (ap (λ (x : View). x.seconds) is)

pub in_time : (a : Area) (c : Comparison a) → NeitherOustedNorGivenUp c → GrantedAllPairs c → HasVerdict c
in_time a c on reached =
    let s = (started_so c).does.1 in
    let T = c.schemas.first in
    let U = c.schemas.second in
    timely c.claim T.states U.states c.since 0 c.begun c.now c.goes_on
    (record {
      held = started_held c;
      counted = begun_counted (view c.at) (view c.begun) T U s.live s.after;
      unousted = on.unousted;
      kept = on.kept;
      reached = omega (arith, reached);
    })
