-- The marked cases, shown: what U, V and W accept, what comparing two of them comes to, and its
-- documents. Assumes nothing.
use Rattle.std.proofs.Common.{◌≡◌, ℕ, zero, suc, ◌≤◌, Bool, true, false, ltb, inl, inr, List, [], ◌∷◌, Some, None, Decides, sym, refl, ap, ◌∙◌, subst, ⊎_elim, lit<, arith}
use Rattle.std.proofs.lemmas.Bool.{both_ways, cond-false, le-ltb, false≢true}
use Rattle.std.proofs.lemmas.Option.{none-some, same_Some}
use Rattle.codec.specs.Trees.{node, none, child}
use Rattle.domain.specs.Sets.{Smallest}
use Rattle.refusal.specs.declared.fault.Fault.TheVariants as fault
use Rattle.schema.specs.Automata.{Automaton, allowed}
use Rattle.schema.specs.Live.{Live, LiveSequence, LiveSymbol}
use Rattle.schema.specs.Tables.{Tables}
use Rattle.schema.proofs.Dead.{leads_back_dead}
use Rattle.schema.proofs.Onward.{live_leads}
use Rattle.schema.proofs.Sound.{sound}
use Rattle.search.specs.Sequences.{NoLater, First}
use Rattle.compare.specs.declared.pairs.Listed.{Listed}
use Rattle.compare.specs.declared.phase.Kind.{Kind}
use Rattle.compare.specs.declared.phase.Kind.TheVariants.{Value, Content}
use Rattle.compare.specs.declared.phase.Phase.{Phase}
use Rattle.compare.specs.declared.phase.Phase.TheVariants.{Running, Ready}
use Rattle.compare.specs.declared.phase.Verdict.{Verdict}
use Rattle.compare.specs.declared.phase.Verdict.TheVariants.{Included, Apart}
use Rattle.compare.specs.Breaking.{Broken, Unbroken}
use Rattle.compare.specs.declared.step.TheConstants.{MOST_STEPS}
use Rattle.compare.specs.Invariant.{LastBroken}
use Rattle.compare.specs.Stepping.{examined_to, Stepped, Examines, is_running}
use Rattle.compare.specs.Pairs.{start}
use Rattle.compare.specs.View.{View, begun}
use Rattle.compare.proofs.Outcomes.{same_decision}
use Rattle.compare.proofs.Turned.{one_stepped}
use Rattle.samples.specs.Samples.{LowerSequence, Sample}
use Rattle.history.proofs.MarkedSets.{joint_gap, touching_refused, parted_taken}
use Rattle.history.specs.Marked.{zero_alone, U, V, W, over_zero, Compares, ComesTo, DocumentBytes, MarkedCases}

-- the least value of each state is 0
least_zero : Smallest ((over_zero U).has 0) (Some 0)
least_zero = record { value = lit< tt; passes = refl; before = λ v low. absurd (omega (arith, low)) }

-- no symbol past the symbols has a next state
beyond : (T : Tables) (a : ℕ) → T.symbols ≤ a → (over_zero T).next 0 a ≡ None
beyond T a past = cond-false (ltb a T.symbols) _ _ (le-ltb a T.symbols past)

-- U leads nowhere
nowhere : (a : ℕ) → (over_zero U).next 0 a ≡ None
nowhere zero = refl
nowhere (suc zero) = refl
nowhere (suc (suc a)) = beyond U (suc (suc a)) (omega arith)

-- V leads nowhere but under symbol 0
only_zero : (a s : ℕ) → (over_zero V).next 0 a ≡ Some s → a ≡ 0
only_zero zero s h = refl
only_zero (suc zero) s h = absurd (none-some _ h)
only_zero (suc (suc a)) s h = absurd (none-some _ (sym (beyond V (suc (suc a)) (omega arith)) ∙ h))

-- a node alone is accepted by U and V
pub alone_U : Live (over_zero U) 0
alone_U = (node 0 none, refl)

pub alone_V : Live (over_zero V) 0
alone_V = (node 0 none, refl)

-- W accepts nothing
dead_W : Live (over_zero W) 0 → ⊥
dead_W = leads_back_dead.general (over_zero W) 0 refl (λ a s is. let low = (sound W zero_alone refl).next_in 0 a s (omega arith) is in omega (arith, low))

-- the sequences live at U: the empty one
just_empty : (w : List ℕ) → LiveSequence (over_zero U) 0 w → w ≡ []
just_empty [] live = refl
just_empty (a ∷ w) live = absurd (none-some _ (sym (nowhere a) ∙ live.1.0.1))

-- the sequence of symbol 0 is live at V
one_child : LiveSequence (over_zero V) 0 (0 ∷ [])
one_child = (refl, ((0, refl, alone_V), tt))

-- and it is the first of those that U does not allow
first_refused : First (λ u. LiveSequence (over_zero V) 0 u × (allowed (over_zero U) 0 u ≡ false)) (0 ∷ [])
first_refused = record { passes = (one_child, refl); least = least }
  where
    least :
        (v : List ℕ) → LiveSequence (over_zero V) 0 v × (allowed (over_zero U) 0 v ≡ false) →
        NoLater (0 ∷ []) v
    least [] p = absurd (both_ways (allowed (over_zero U) 0 []) p.1 refl)
    least (a ∷ []) p = inr (refl, inl (ap (λ (x : ℕ). x ∷ []) (sym (only_zero a p.0.1.0.0 p.0.1.0.1))))
    least (a ∷ (b ∷ v)) p = inl (omega arith)

-- the empty sequence is the first of any that it is one of
empty_first : (P : List ℕ → Type 0) → P [] → First P []
empty_first P is = record { passes = is; least = least }
  where
    least : (v : List ℕ) → P v → NoLater [] v
    least [] p = inr (refl, inl refl)
    least (a ∷ v) p = inl (omega arith)

-- a node alone is the sample of V's state
sample_V : Sample (over_zero V) 0 (node 0 none)
sample_V = (least_zero, empty_first (LowerSequence (over_zero V) 0) (refl, tt), tt)

pub v_u_document : DocumentBytes V U (0 ∷ 1 ∷ 0 ∷ 0 ∷ 0 ∷ [])
v_u_document =
    record {
      tree = node 0 (child 0 (node 0 none) none);
      document = record {
        first = start;
        listed = refl;
        starts = (refl, refl);
        leads = refl;
        built = ((least_zero, first_refused), ((0, refl, sample_V), tt));
      };
      written = refl;
    }

u_w_document : DocumentBytes U W (0 ∷ 0 ∷ [])
u_w_document =
    record {
      tree = node 0 none;
      document = record {
        first = start;
        listed = refl;
        starts = (refl, refl);
        leads = refl;
        built = ((least_zero, empty_first (λ u. LiveSequence (over_zero U) 0 u × (allowed (over_zero W) 0 u ≡ false)) ((refl, tt), refl)), tt);
      };
      written = refl;
    }

-- a step of a running area whose first turn brings the verdict
pub one_turn :
    (A B : Automaton) (w w' : View) (v : Verdict) (n : ℕ) → w.phase ≡ Running → Examines A B w w' →
    w'.phase ≡ Ready v → 1 ≤ n → Stepped A B n w w'
one_turn A B w w' v n runs examines ready some =
    record {
      taken = 1;
      few = some;
      turns = (w, refl, runs, inr examines);
      until = λ still. absurd (false≢true (sym (ap is_running ready) ∙ ap is_running still));
    }

-- U's pair with V is unbroken, and no symbol is live at U's state
pub u_v_examined :
    (w : View) →
    Examines (over_zero U) (over_zero V) (begun w U V true) (examined_to (begun w U V true) (start ∷ []) (Ready Included))
u_v_examined w = record { pair = start; at = refl; outcome = inr (unbroken, ((λ a. false), dead_symbols, refl)) }
  where
    unbroken : Unbroken (over_zero U) (over_zero V) 0 0
    unbroken = record {
      values = λ v h. h;
      contents = λ w live. subst (λ x. allowed (over_zero V) 0 x ≡ true) (sym (just_empty w live)) refl;
    }

    dead_symbols : (a : ℕ) → Decides false (LiveSymbol (over_zero U) 0 a)
    dead_symbols a = (λ no. absurd (false≢true no), λ live. absurd (none-some _ (sym (nowhere a) ∙ (live_leads (over_zero U) 0 a live).1)))

-- a pair (0, 0) that is broken in content
pub broken_examined :
    (S T : Tables) (w : View) → Broken (over_zero S) (over_zero T) Content 0 0 →
    Examines (over_zero S) (over_zero T) (begun w S T true) (examined_to (begun w S T true) (start ∷ []) (Ready (Apart Content)))
broken_examined S T w broken = record { pair = start; at = refl; outcome = inl (Content, broken, refl) }

pub v_u_broken : Broken (over_zero V) (over_zero U) Content 0 0
v_u_broken = (0 ∷ [], one_child, refl)

module _ (S T : Tables) where
  -- one outcome of a comparison of the two, with no other kind in which the pair examined last is
  -- broken
  record Outcome (live : Bool) (v : Verdict) (n : ℕ) (w : View) : Type 0 where
    after : View
    stepped : Stepped (over_zero S) (over_zero T) MOST_STEPS (begun w S T live) after
    verdict : after.phase ≡ Ready v
    count : after.examined ≡ n
    kind :
        (j k : Kind) → after.phase ≡ Ready (Apart j) → LastBroken (over_zero S) (over_zero T) after k →
        v ≡ Apart k

  -- there is no other one
  settled :
      (live : Bool) (v : Verdict) (n : ℕ) → Decides live (Live (over_zero S) 0) →
      ((w : View) → Outcome live v n w) → ComesTo S T v n
  settled live v n decides outcome =
      record {
        some = λ w. ((outcome w).after, record { live = live; decides = decides; stepped = (outcome w).stepped });
        verdict = λ w w' c. (only w w' c).0;
        count = λ w w' c. (only w w' c).1;
      }
    where
      only : (w w' : View) → Compares S T w w' → (w'.phase ≡ Ready v) × (w'.examined ≡ n)
      only w w' c =
          let o = outcome w in
          let other : Stepped (over_zero S) (over_zero T) MOST_STEPS (begun w S T live) w' = subst (λ (b : Bool). Stepped (over_zero S) (over_zero T) MOST_STEPS (begun w S T b) w') (same_decision c.live live c.decides decides) c.stepped in
          ⊎_elim
          (λ same. (ap {B = Phase} (λ (x : View). x.phase) same ∙ o.verdict, ap {B = ℕ} (λ (x : View). x.examined) same ∙ o.count))
          (λ kinds. (ap {B = Phase} (λ (x : View). x.phase) kinds.3 ∙ ap Ready (sym (o.kind kinds.0 kinds.1 kinds.2 kinds.5)), ap {B = ℕ} (λ (x : View). x.examined) kinds.3 ∙ o.count))
          (one_stepped (over_zero S) (over_zero T) MOST_STEPS (begun w S T live) o.after w' o.stepped other)

  -- the pair (0, 0) is broken in content alone
  broken_once :
      Live (over_zero S) 0 → Broken (over_zero S) (over_zero T) Content 0 0 →
      ((v : ℕ) → (over_zero S).has 0 v ≡ true → (over_zero T).has 0 v ≡ true) →
      ComesTo S T (Apart Content) 1
  broken_once alive broken values =
      settled true (Apart Content) 1 (λ yes. alive, λ live. refl)
      (λ w.
      let after = examined_to (begun w S T true) (start ∷ []) (Ready (Apart Content)) in
      record {
        after = after;
        stepped = one_turn (over_zero S) (over_zero T) (begun w S T true) after (Apart Content) MOST_STEPS refl (broken_examined S T w broken) refl (omega arith);
        verdict = refl;
        count = refl;
        kind = λ j k apart last. by k last.pair (same_Some _ _ last.at) last.broken;
      })
    where
      by :
          (k : Kind) (pair : Listed) → start ≡ pair →
          Broken (over_zero S) (over_zero T) k pair.first pair.second → Apart Content ≡ Apart k
      by Content pair same b = refl
      by Value pair same b =
          let here : Broken (over_zero S) (over_zero T) Value 0 0 = subst (λ (y : Listed). Broken (over_zero S) (over_zero T) Value y.first y.second) (sym same) b in
          absurd (both_ways _ here.2 (values here.0 here.1))

-- included is not apart
not_apart : (j k : Kind) → Ready Included ≡ Ready (Apart j) → Included ≡ Apart k
not_apart j k clash = cc

u_v : ComesTo U V Included 1
u_v =
    settled U V true Included 1 (λ yes. alone_U, λ live. refl)
    (λ w.
    let after = examined_to (begun w U V true) (start ∷ []) (Ready Included) in
    record {
      after = after;
      stepped = one_turn (over_zero U) (over_zero V) (begun w U V true) after Included MOST_STEPS refl (u_v_examined w) refl (omega arith);
      verdict = refl;
      count = refl;
      kind = λ j k apart last. not_apart j k apart;
    })

w_u : ComesTo W U Included 0
w_u =
    settled W U false Included 0 (λ no. absurd (false≢true no), λ live. absurd (dead_W live))
    (λ w. record {
      after = begun w W U false;
      stepped = record { taken = 0; few = omega arith; turns = refl; until = λ still. absurd (false≢true (ap is_running still)) };
      verdict = refl;
      count = refl;
      kind = λ j k apart last. not_apart j k apart;
    })

pub marked_cases : MarkedCases
marked_cases =
    record {
      u_alone = refl;
      u_child = refl;
      u_v = u_v;
      v_u = broken_once V U alone_V v_u_broken (λ v h. h);
      w_u = w_u;
      u_w = broken_once U W alone_U ([], (refl, tt), refl) (λ v h. h);
      v_u_document = v_u_document;
      u_w_document = u_w_document;
      no_number = (record { fault = fault.Number; place = 0 }, refl, (refl, refl));
      joint_gap = joint_gap;
      touching = touching_refused;
      parted = parted_taken;
    }
