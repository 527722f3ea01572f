-- Whether an area is a comparison's: the comparison holds it, or is gone from it for good. Assumes
-- nothing.
use Rattle.std.proofs.Common.{◌≡◌, ℕ, zero, suc, ◌+◌, ◌<◌, ◌≤◌, Bool, true, false, cond, eqb, ◌⊎◌, List, [], ◌∷◌, length, Ok, sym, refl, ap, ◌∙◌, subst, inl, inr, ⊎_elim, arith}
use Rattle.std.specs.List.{list_any}
use Rattle.std.proofs.lemmas.Bool.{and_from, and_parts, both_ways, eq-eqb, eqb-true, not-true, or_cases, false≢true}
use Rattle.schema.specs.Automata.{Automaton}
use Rattle.compare.specs.declared.area.Area.{Area}
use Rattle.compare.specs.declared.claim.Comparing.{Comparing}
use Rattle.compare.specs.declared.claim.Lease.{Lease}
use Rattle.compare.specs.declared.claim.Numbers.{Numbers}
use Rattle.compare.specs.declared.event.Event.{Event}
use Rattle.compare.specs.declared.event.Event.TheVariants.{Take, Oust}
use Rattle.compare.specs.declared.phase.Phase.TheVariants as phase
use Rattle.compare.specs.declared.phase.Verdict.TheVariants as verdict
use Rattle.compare.specs.Beginning.{Beginning}
use Rattle.compare.specs.declared.pairs.Listed.{Listed}
use Rattle.compare.specs.declared.phase.Phase.{Phase}
use Rattle.compare.specs.Stepping.{going_on, with_nexts, Turn, Turns}
use Rattle.compare.specs.NotHolder.{is_holder}
use Rattle.compare.specs.View.{View, view, is_free, held_by}
use Rattle.history.specs.Calls.{Handed, first_automaton, second_automaton, Call, take_up, oust, Does, Runs, same_numbers, is_beginning, is_made_with}
use Rattle.history.specs.Comparisons.{Comparison}
use Rattle.history.proofs.Effects.{Keeps, Begins, Steps, Parts, Ends, Effect, keeps, begins, steps, parts, ends, effect, step_holder, part_holder, step_turns, part_left, started_so}
use Rattle.history.proofs.Permits.{Held}

-- the comparison whose claim has these numbers has ended: another one has begun since, or none yet
pub record Gone (n : Numbers) (w : View) : Type 0 where
  pub number : w.number ≡ n.area
  pub past : (n.serial < w.serial) ⊎ ((w.serial ≡ n.serial) × (is_free w.phase ≡ true))

module _ (n : Numbers) where
  -- numbers that are these
  pub are_these : (m : Numbers) → same_numbers n m ≡ true → (m.area ≡ n.area) × (m.serial ≡ n.serial)
  are_these m h = let parts = and_parts (eqb m.area n.area) _ h in (eqb-true m.area n.area parts.0, eqb-true m.serial n.serial parts.1)

  pub these : (m : Numbers) → m ≡ n → same_numbers n m ≡ true
  these m same = and_from _ _ (eq-eqb m.area n.area (ap (λ (x : Numbers). x.area) same)) (eq-eqb m.serial n.serial (ap (λ (x : Numbers). x.serial) same))

  -- the holder's numbers are these, where the comparison holds the area
  pub holders : (w : View) (m : Numbers) → Held n w → Held m w → same_numbers n m ≡ true
  holders w m held h = and_from _ _ (eq-eqb m.area n.area (sym h.number ∙ held.number)) (eq-eqb m.serial n.serial (sym h.serial ∙ held.serial))

  -- and no holder's are, where it has ended
  pub not_holders : (w : View) (m : Numbers) → Gone n w → Held m w → same_numbers n m ≡ true → ⊥
  not_holders w m gone h its =
      let serial : m.serial ≡ n.serial = (are_these m its).1 in
      ⊎_elim (λ later. omega (arith, later, serial, h.serial)) (λ none. both_ways (is_free w.phase) h.busy none.1) gone.past

  not_held_by : (w : View) → Gone n w → held_by w n.serial ≡ true → ⊥
  not_held_by w gone held =
      let parts = and_parts _ (eqb n.serial w.serial) held in
      not_holders w n gone (record { number = gone.number; serial = sym (eqb-true n.serial w.serial parts.1); busy = not-true _ parts.0 }) (these n refl)

-- what a step and a conclusion apart keep: all that is said of the area, but for the phase, the
-- list and the count of examined pairs, which does not fall; and that there is a comparison
pub record Onward (w w' : View) : Type 0 where
  pub number : w'.number ≡ w.number
  pub serial : w'.serial ≡ w.serial
  pub symbols : w'.symbols ≡ w.symbols
  pub firsts : w'.firsts ≡ w.firsts
  pub seconds : w'.seconds ≡ w.seconds
  pub examined : w.examined ≤ w'.examined
  pub busy : is_free w.phase ≡ false → is_free w'.phase ≡ false

-- the area with another phase, list and count
onward_to :
    (w : View) (p : Phase) (es : List Listed) (k : ℕ) (w' : View) → is_free p ≡ false → w.examined ≤ k →
    w' ≡ record w { phase = p; pairs = es; examined = k } → Onward w w'
onward_to w p es k w' busy more is =
    subst (Onward w) (sym is)
    (record { number = refl; serial = refl; symbols = refl; firsts = refl; seconds = refl; examined = more; busy = λ b. busy })

onward_same : (w : View) → Onward w w
onward_same w =
    record { number = refl; serial = refl; symbols = refl; firsts = refl; seconds = refl; examined = omega arith; busy = λ b. b }

onward_twice : (w v w' : View) → Onward w v → Onward v w' → Onward w w'
onward_twice w v w' first second =
    record {
      number = second.number ∙ first.number;
      serial = second.serial ∙ first.serial;
      symbols = second.symbols ∙ first.symbols;
      firsts = second.firsts ∙ first.firsts;
      seconds = second.seconds ∙ first.seconds;
      examined = omega (arith, first.examined, second.examined);
      busy = λ b. second.busy (first.busy b);
    }

module _ (A B : Automaton) where
  turn_onward : (w w' : View) → Turn A B w w' → Onward w w'
  turn_onward w w' turn =
      ⊎_elim
      (λ none. onward_to w (phase.Ready verdict.Included) w.pairs w.examined w' refl (omega arith) none.1)
      (λ one.
      ⊎_elim
      (λ broken. onward_to w (phase.Ready (verdict.Apart broken.0)) w.pairs (w.examined + 1) w' refl (omega arith) broken.2)
      (λ on.
      let es = with_nexts A B on.1.0 one.pair.first one.pair.second w.examined w.symbols w.pairs in
      onward_to w (going_on (w.examined + 1) es) es (w.examined + 1) w' (going (eqb (w.examined + 1) (length es))) (omega arith) on.1.2)
      one.outcome)
      turn
    where
      going : (b : Bool) → is_free (cond b (phase.Ready verdict.Included) phase.Running) ≡ false
      going true = refl
      going false = refl

  turns_onward : (k : ℕ) (w w' : View) → Turns A B k w w' → Onward w w'
  turns_onward zero w w' turns = subst (Onward w) (sym turns) (onward_same w)
  turns_onward (suc k) w w' turns =
      onward_twice w turns.0 w' (turns_onward k w turns.0 turns.1) (turn_onward turns.0 w' turns.3)

module _ {d : Call} {a a' : Area} where
  pub step_onward : Steps d a a' → Onward (view a) (view a')
  step_onward s = turns_onward (first_automaton s.handed) (second_automaton s.handed) s.does.1.stepped.taken (view a) (view a') (step_turns s)

  pub part_onward : (p : Parts d a a') → Onward (view a) (view a')
  part_onward p = onward_to (view a) (phase.Apart p.kind) (view a).pairs a.examined (view a') refl (omega arith) (part_left p)

module _ (n : Numbers) (a a' : Area) where
  held_onward : Onward (view a) (view a') → Held n (view a) → Held n (view a')
  held_onward on held = record { number = on.number ∙ held.number; serial = on.serial ∙ held.serial; busy = on.busy held.busy }

  -- another comparison's step or conclusion
  gone_onward :
      (m : Numbers) → Held m (view a) → (view a').number ≡ (view a).number →
      (view a').serial ≡ (view a).serial → Gone n (view a) → Gone n (view a')
  gone_onward m h near still gone =
      record {
        number = near ∙ gone.number;
        past = ⊎_elim (λ later. inl (omega (arith, later, still))) (λ none. absurd (both_ways (is_free a.phase) h.busy none.1)) gone.past;
      }

  -- a beginning gives the area the next serial
  begun_gone :
      (e : Event) (h : Handed) (claim : Lease Comparing) →
      Beginning e h.first h.second h.first_sets a (Ok claim) a' → (view a).number ≡ n.area →
      n.serial ≤ (view a).serial → Gone n (view a')
  begun_gone e h claim does near low =
      record {
        number = ap (λ (x : View). x.number) does.1.after ∙ near;
        past = inl (omega (arith, low, ap (λ (x : View). x.serial) does.1.after));
      }

module _ (n : Numbers) {d : Call} {a a' : Area} where
  -- a step is its own where it holds the area, and it holds it on; so it is with a conclusion apart
  pub own_step : (s : Steps d a a') → Held n (view a) → same_numbers n s.numbers ≡ true
  own_step s held = holders n (view a) s.numbers held (step_holder s)

  pub held_step : Steps d a a' → Held n (view a) → Held n (view a')
  held_step s = held_onward n a a' (step_onward s)

  pub held_part : Parts d a a' → Held n (view a) → Held n (view a')
  held_part p = held_onward n a a' (part_onward p)

  -- a beginning ends one that holds the area, and so does what frees it
  begin_ends : Begins d a a' → Held n (view a) → Gone n (view a')
  begin_ends b held = begun_gone n a a' b.event b.handed b.claim b.does held.number (omega (arith, held.serial))

  end_ends : Ends d a a' → Held n (view a) → Gone n (view a')
  end_ends e held = record {
    number = ap (λ (x : View). x.number) e.freed ∙ held.number;
    past = inr (ap (λ (x : View). x.serial) e.freed ∙ held.serial, ap (λ (x : View). is_free x.phase) e.freed);
  }

  -- one that holds the area holds it on, or ends
  pub held_on : Effect d a a' → Held n (view a) → Held n (view a') ⊎ Gone n (view a')
  held_on (keeps k) held = inl (subst (λ (x : Area). Held n (view x)) (sym k.same) held)
  held_on (begins b) held = inr (begin_ends b held)
  held_on (steps s) held = inl (held_step s held)
  held_on (parts p) held = inl (held_part p held)
  held_on (ends e) held = inr (end_ends e held)

  -- one that has ended stays so
  pub gone_on : Effect d a a' → Gone n (view a) → Gone n (view a')
  gone_on (keeps k) gone = subst (λ (x : Area). Gone n (view x)) (sym k.same) gone
  gone_on (begins b) gone = begun_gone n a a' b.event b.handed b.claim b.does gone.number (⊎_elim (λ later. omega (arith, later)) (λ none. omega (arith, none.0)) gone.past)
  gone_on (steps s) gone = gone_onward n a a' s.numbers (step_holder s) (step_onward s).number (step_onward s).serial gone
  gone_on (parts p) gone = gone_onward n a a' p.claim.numbers (part_holder p) (part_onward p).number (part_onward p).serial gone
  gone_on (ends e) gone = gone_onward n a a' e.numbers e.holder (ap (λ (x : View). x.number) e.freed) (ap (λ (x : View). x.serial) e.freed) gone

  -- and a call with its claim or numbers changes nothing
  pub gone_same : Effect d a a' → Gone n (view a) → is_made_with n d ≡ true → a' ≡ a
  gone_same (keeps k) gone its = k.same
  gone_same (begins b) gone its = absurd (both_ways _ (b.unowned n) its)
  gone_same (steps s) gone its = absurd (not_holders n (view a) s.numbers gone (step_holder s) (sym (ap (is_made_with n) s.is) ∙ its))
  gone_same (parts p) gone its = absurd (not_holders n (view a) p.claim.numbers gone (part_holder p) (sym (ap (is_made_with n) p.is) ∙ its))
  gone_same (ends e) gone its = absurd (not_holders n (view a) e.numbers gone e.holder (sym (e.made n) ∙ its))

-- how an area stands for the comparison whose claim has these numbers: the comparison holds it, and
-- this is so; or has ended
abbrev pub Standing : Numbers → (Area → Type 0) → Area → Type 0
Standing n P a = (Held n (view a) × P a) ⊎ Gone n (view a)

module _ (n : Numbers) (P : Area → Type 0) where
  -- as long as its claim is the holder, this is so
  pub stands_by : (a : Area) → Standing n P a → held_by (view a) n.serial ≡ true → P a
  stands_by a (inl now) held = now.1
  stands_by a (inr gone) held = absurd (not_held_by n (view a) gone held)

  pub stands_now : (a : Area) → Standing n P a → is_holder (view a) n ≡ true → P a
  stands_now a stands holder = stands_by a stands (and_parts (eqb n.area a.number) _ holder).1

  -- what a call makes of this, from what it makes of it where it keeps the area, where it is a step
  -- of its own, and where it concludes apart
  pub stands_on :
      (P' : Area → Type 0) {d : Call} {a a' : Area} → (Keeps d a a' → P a → P' a') →
      ((s : Steps d a a') → same_numbers n s.numbers ≡ true → P a → P' a') → (Parts d a a' → P a → P' a') →
      Effect d a a' → Standing n P a → Standing n P' a'
  stands_on P' kept stepped parted e (inr gone) = inr (gone_on n e gone)
  stands_on P' kept stepped parted (keeps k) (inl now) = inl (subst (λ (x : Area). Held n (view x)) (sym k.same) now.0, kept k now.1)
  stands_on P' kept stepped parted (begins b) (inl now) = inr (begin_ends n b now.0)
  stands_on P' kept stepped parted (steps s) (inl now) = inl (held_step n s now.0, stepped s (own_step n s now.0) now.1)
  stands_on P' kept stepped parted (parts p) (inl now) = inl (held_part n p now.0, parted p now.1)
  stands_on P' kept stepped parted (ends e) (inl now) = inr (end_ends n e now.0)

  -- what each call keeps, a list of calls keeps
  pub stands_along :
      ((d : Call) (a a' : Area) → Effect d a a' → Standing n P a → Standing n P a') →
      (cs : List Call) (a now : Area) → Runs cs a now → Standing n P a → Standing n P now
  stands_along on [] a now runs stands = subst (Standing n P) (sym runs) stands
  stands_along on (d ∷ cs) a now runs stands = stands_along on cs runs.0 now runs.2 (on d a runs.0 (effect d a runs.0 runs.1) stands)

module _ (n : Numbers) where
  -- ended once, ended for all calls
  run_gone : (cs : List Call) (a now : Area) → Runs cs a now → Gone n (view a) → Gone n (view now)
  run_gone [] a now runs gone = subst (λ (x : Area). Gone n (view x)) (sym runs) gone
  run_gone (d ∷ cs) a now runs gone = run_gone cs runs.0 now runs.2 (gone_on n (effect d a runs.0 runs.1) gone)

  -- a call that begins another one ends it
  beginning_ends :
      (d : Call) (a a' : Area) → is_beginning d ≡ true → Does d a a' → Held n (view a) →
      Gone n (view a')
  beginning_ends (take_up h (Ok c)) a a' so does held = begun_gone n a a' Take h c does held.number (omega (arith, held.serial))
  beginning_ends (oust h (Ok c)) a a' so does held = begun_gone n a a' Oust h c does held.number (omega (arith, held.serial))
  beginning_ends d a a' so does held = absurd (false≢true so)

  -- where another comparison began, it has ended
  pub run_begun :
      (cs : List Call) (a now : Area) → Runs cs a now → Held n (view a) →
      list_any is_beginning cs ≡ true → Gone n (view now)
  run_begun [] a now runs held so = absurd (false≢true so)
  run_begun (d ∷ cs) a now runs held so =
      ⊎_elim
      (λ here. run_gone cs runs.0 now runs.2 (beginning_ends d a runs.0 here runs.1 held))
      (λ later. ⊎_elim (λ on. run_begun cs runs.0 now runs.2 on later) (λ gone. run_gone cs runs.0 now runs.2 gone) (held_on n (effect d a runs.0 runs.1) held))
      (or_cases (is_beginning d) (list_any is_beginning cs) so)

-- a comparison that has begun holds the area
pub started_held : {a : Area} (c : Comparison a) → Held c.claim (view c.begun)
started_held c =
    let s = started_so c in
    let b = s.does.1 in
    record {
      number = ap (λ (x : View). x.number) b.after ∙ sym b.number ∙ sym (ap (λ (m : Numbers). m.area) s.numbers);
      serial = ap (λ (x : View). x.serial) b.after ∙ sym b.serial ∙ sym (ap (λ (m : Numbers). m.serial) s.numbers);
      busy = ap (λ (x : View). is_free x.phase) b.after ∙ by b.live;
    }
  where
    by : (live : Bool) → is_free (cond live phase.Running (phase.Ready verdict.Included)) ≡ false
    by true = refl
    by false = refl
