-- What a call does with an area, in one of a few ways. Assumes nothing.
use Rattle.std.proofs.Common.{◌≡◌, ℕ, zero, suc, ap, ◌∙◌, Bool, true, false, cond, ◌⊎◌, Ok, Err, sym, refl, subst, inl, inr}
use Rattle.schema.specs.Automata.{Automaton}
use Rattle.compare.specs.declared.area.Area.{Area}
use Rattle.compare.specs.declared.claim.Apart.{Apart}
use Rattle.compare.specs.declared.claim.Comparing.{Comparing}
use Rattle.compare.specs.declared.claim.Lease.{Lease}
use Rattle.compare.specs.declared.claim.Numbers.{Numbers}
use Rattle.compare.specs.declared.conclude.Concluded.TheVariants as concluded
use Rattle.compare.specs.declared.event.Event.{Event}
use Rattle.compare.specs.declared.event.Event.TheVariants.{Take, Oust, Conclude}
use Rattle.compare.specs.declared.phase.Kind.{Kind}
use Rattle.compare.specs.declared.phase.Phase.TheVariants as phase
use Rattle.compare.specs.Beginning.{Beginning}
use Rattle.compare.specs.Concluding.{Conclusion, GivingUp}
use Rattle.compare.specs.Stepping.{Turns, Stepping}
use Rattle.compare.specs.View.{View, view, free, in_phase, is_free, held_by}
use Rattle.history.specs.Calls.{Handed, first_automaton, second_automaton, Call, take_up, oust, step, conclude, give_up, Does, same_numbers, is_made_with, is_inclusion, is_giving_up, is_ousting, granted_by, told_by, Starts}
use Rattle.history.specs.Comparisons.{Comparison}
use Rattle.history.proofs.Permits.{Held, held_by_near, claim_permitted, step_permitted, begin_permitted, take_free}

module _ (d : Call) (a a' : Area) where
  -- the area stays as it was, and no steps are granted or pairs told
  pub record Keeps : Type 0 where
    pub same : a' ≡ a
    pub grants : (n : Numbers) → granted_by n d ≡ 0
    pub tells : (n : Numbers) → told_by n d ≡ 0

  -- a comparison begins, by oust or on a free area
  pub record Begins : Type 0 where
    pub event : Event
    pub handed : Handed
    pub claim : Lease Comparing
    pub does : Beginning event handed.first handed.second handed.first_sets a (Ok claim) a'
    pub how : (is_ousting d ≡ true) ⊎ (is_free a.phase ≡ true)
    pub unowned : (n : Numbers) → is_made_with n d ≡ false

  -- a step is accepted
  pub record Steps : Type 0 where
    pub numbers : Numbers
    pub handed : Handed
    pub asked : ℕ
    pub slots : ℕ
    pub answer : ℕ × ℕ
    pub is : d ≡ step numbers handed asked slots (Ok answer)
    pub does : Stepping handed.first handed.second handed.first_sets handed.second_sets numbers asked slots a (Ok answer) a'

  -- a conclusion apart is accepted
  pub record Parts : Type 0 where
    pub claim : Lease Comparing
    pub kind : Kind
    pub count : ℕ
    pub apart : Lease Apart
    pub is : d ≡ conclude claim (Ok (concluded.Apart kind count apart))
    pub does : Conclusion a claim (Ok (concluded.Apart kind count apart)) a'

  -- the holder concludes included, or gives up
  pub record Ends : Type 0 where
    pub numbers : Numbers
    pub holder : Held numbers (view a)
    pub made : (n : Numbers) → is_made_with n d ≡ same_numbers n numbers
    pub which : (is_inclusion d ≡ true) ⊎ (is_giving_up d ≡ true)
    pub freed : view a' ≡ free a.number a.serial

-- what a call does
pub data Effect (d : Call) (a a' : Area) : Type 0 where
  keeps : Keeps d a a' → Effect d a a'
  begins : Begins d a a' → Effect d a a'
  steps : Steps d a a' → Effect d a a'
  parts : Parts d a a' → Effect d a a'
  ends : Ends d a a' → Effect d a a'

given_up : (m : Numbers) (k : ℕ) (a a' : Area) → GivingUp a m (Ok k) a' → Effect (give_up m (Ok k)) a a'
given_up m k a a' does = by (held_by (view a) m.serial) refl does.1
  where
    by :
        (b : Bool) → held_by (view a) m.serial ≡ b →
        cond b ((k ≡ 1) × (view a' ≡ free a.number a.serial)) ((k ≡ 0) × (a' ≡ a)) →
        Effect (give_up m (Ok k)) a a'
    by true held up = ends (record {
      numbers = m;
      holder = held_by_near (view a) m does.0 held;
      made = λ n. refl;
      which = inr refl;
      freed = up.1;
    })
    by false held up = keeps (record { same = up.1; grants = λ n. refl; tells = λ n. refl })

pub effect : (d : Call) (a a' : Area) → Does d a a' → Effect d a a'
effect (take_up h (Ok c)) a a' does =
    begins (record {
      event = Take;
      handed = h;
      claim = c;
      does = does;
      how = inr (take_free (view a) (begin_permitted (view a) h.first h.second Take does.0).2);
      unowned = λ n. refl;
    })
effect (oust h (Ok c)) a a' does = begins (record {
  event = Oust;
  handed = h;
  claim = c;
  does = does;
  how = inl refl;
  unowned = λ n. refl;
})
effect (step m h asked slots (Ok answer)) a a' does = steps (record {
  numbers = m;
  handed = h;
  asked = asked;
  slots = slots;
  answer = answer;
  is = refl;
  does = does;
})
effect (conclude c (Ok (concluded.Included n))) a a' does =
    ends (record {
      numbers = c.numbers;
      holder = (claim_permitted (view a) c.numbers Conclude does.0).0;
      made = λ n. refl;
      which = inl refl;
      freed = does.1.2;
    })
effect (conclude c (Ok (concluded.Apart k n claim))) a a' does = parts (record {
  claim = c;
  kind = k;
  count = n;
  apart = claim;
  is = refl;
  does = does;
})
effect (conclude c (Err e)) a a' does = keeps (record { same = does.2; grants = λ n. refl; tells = λ n. refl })
effect (give_up m (Ok k)) a a' does = given_up m k a a' does
effect d a a' does = keeps (record { same = does.1; grants = λ n. refl; tells = λ n. refl })

-- no turn is taken of an area that does not run
turns_none :
    (A B : Automaton) (j : ℕ) (w w' : View) → (w.phase ≡ phase.Running → ⊥) → Turns A B j w w' → w' ≡ w
turns_none A B zero w w' still turns = turns
turns_none A B (suc j) w w' still turns =
    absurd (still (ap (λ (x : View). x.phase) (sym (turns_none A B j w turns.0 still turns.1)) ∙ turns.2))

module _ {d : Call} {a a' : Area} where
  -- a step is the holder's, and so is a conclusion
  pub step_holder : (s : Steps d a a') → Held s.numbers (view a)
  step_holder s = step_permitted (view a) s.numbers s.handed.first s.handed.second s.asked s.slots s.does.0

  pub part_holder : (p : Parts d a a') → Held p.claim.numbers (view a)
  part_holder p = (claim_permitted (view a) p.claim.numbers Conclude p.does.0).0

  -- a step takes turns
  pub step_turns :
      (s : Steps d a a') →
      Turns (first_automaton s.handed) (second_automaton s.handed) s.does.1.stepped.taken (view a) (view a')
  step_turns s = s.does.1.stepped.turns

  -- none where the area does not run, which then stays as it was
  pub step_none : (s : Steps d a a') → (a.phase ≡ phase.Running → ⊥) → view a' ≡ view a
  step_none s still = turns_none (first_automaton s.handed) (second_automaton s.handed) s.does.1.stepped.taken (view a) (view a') still (step_turns s)

  -- a conclusion apart changes the phase alone
  pub part_left : (p : Parts d a a') → view a' ≡ in_phase (view a) (phase.Apart p.kind)
  part_left p = p.does.1.4

-- what began a comparison of these schemas, whose claim has these numbers
pub record Started (g : Handed) (n : Numbers) (a a' : Area) : Type 0 where
  pub event : Event
  pub claim : Lease Comparing
  pub numbers : n ≡ claim.numbers
  pub does : Beginning event g.first g.second g.first_sets a (Ok claim) a'

started :
    (d : Call) (g : Handed) (n : Numbers) (a a' : Area) → Does d a a' → Starts d g n → Started g n a a'
started (take_up h (Ok c)) g n a a' does is = record {
  event = Take;
  claim = c;
  numbers = is.1;
  does = subst (λ (x : Handed). Beginning Take x.first x.second x.first_sets a (Ok c) a') (sym is.0) does;
}
started (oust h (Ok c)) g n a a' does is = record {
  event = Oust;
  claim = c;
  numbers = is.1;
  does = subst (λ (x : Handed). Beginning Oust x.first x.second x.first_sets a (Ok c) a') (sym is.0) does;
}
started d g n a a' does is = absurd is

-- that of a comparison
pub started_so : {a : Area} (c : Comparison a) → Started c.schemas c.claim c.at c.begun
started_so c = started c.call c.schemas c.claim c.at c.begun c.begins c.starts
