-- Who may ask what of an area: what is not refused is asked by the holder, in a phase that lets it;
-- and what the holder asks in such a phase is not refused. Assumes nothing.
use Rattle.std.proofs.Common.{◌≡◌, ℕ, ◌≤◌, true, false, Bool, eqb, ltb, List, [], ◌∷◌, Some, None, Option, sym, refl, ap, ◌∙◌}
use Rattle.std.proofs.lemmas.Bool.{and_from, and_parts, cond-false, eq-eqb, eqb-true, le-ltb, not-false, not-true, not_from_false, not_from_true}
use Rattle.refusal.specs.declared.fault.Fault.{Fault}
use Rattle.refusal.specs.declared.fault.Fault.TheVariants.{Schemas, Symbols}
use Rattle.refusal.specs.declared.fault.Refusal.{Refusal}
use Rattle.refusal.specs.Order.{first_of}
use Rattle.schema.specs.Faults.{either_fault}
use Rattle.schema.specs.Tables.{Tables}
use Rattle.schema.proofs.Sound.{first_none, some_not_none}
use Rattle.search.specs.declared.pairs.TheConstants.{ROW_PAIRS}
use Rattle.search.specs.Scratch.{short_scratch}
use Rattle.compare.specs.declared.claim.Numbers.{Numbers}
use Rattle.compare.specs.declared.event.Event.{Event}
use Rattle.compare.specs.declared.event.Event.TheVariants.{Take, Conclude, Write}
use Rattle.compare.specs.declared.phase.Kind.{Kind}
use Rattle.compare.specs.declared.phase.Phase.{Phase}
use Rattle.compare.specs.declared.phase.Phase.TheVariants as phase
use Rattle.compare.specs.declared.phase.Verdict.{Verdict}
use Rattle.compare.specs.declared.phase.Verdict.TheVariants as verdict
use Rattle.compare.specs.Beginning.{begin_refusal, begin_kept_from}
use Rattle.compare.specs.Concluding.{claim_refusal}
use Rattle.compare.specs.Phases.{decided}
use Rattle.compare.specs.Refusals.{where_found, by_phase, of_another, other_symbols, other_counts, phase_refuses, holder_refusal, held_kept_from}
use Rattle.compare.specs.Stepping.{step_kept_from, step_refusal}
use Rattle.compare.specs.NotHolder.{is_holder}
use Rattle.compare.specs.View.{View, is_free, held_by}
use Rattle.compare.specs.Writing.{write_kept_from}
use Rattle.compare.proofs.Allowing.{fails, held_allows}
use Rattle.compare.proofs.Tests.{holder_passed, holder_passes}
use Rattle.document.specs.declared.document.TheConstants.{LEVELS}
use Rattle.document.specs.Writing.{short_levels, document_kept_from, early_refusal}

-- the comparison whose claim has these numbers holds the area
pub record Held (n : Numbers) (w : View) : Type 0 where
  pub number : w.number ≡ n.area
  pub serial : w.serial ≡ n.serial
  pub busy : is_free w.phase ≡ false

-- the noted counts are those of the schemas
pub record Noted (T U : Tables) (w : View) : Type 0 where
  pub symbols : w.symbols ≡ T.symbols
  pub firsts : w.firsts ≡ T.states
  pub seconds : w.seconds ≡ U.states

-- a test that finds nothing, and a list of tests whose first does not
not_found : (b : Bool) (w : View) (f : Fault) → b ≡ false → where_found b w f ≡ None
not_found b w f is = cond-false b (Some (record { fault = f; place = w.serial })) None is

then_none :
    (o : Option Refusal) (os : List (Option Refusal)) → o ≡ None → first_of os ≡ None →
    first_of (o ∷ os) ≡ None
then_none o os none rest = ap (λ (r : Option Refusal). first_of (r ∷ os)) none ∙ rest

module _ (w : View) (n : Numbers) where
  -- it holds the area where its claim is the holder
  pub held_by_near : of_another w n.area ≡ None → held_by w n.serial ≡ true → Held n w
  held_by_near near held =
      let parts = and_parts _ (eqb n.serial w.serial) held in
      record {
        number = sym (eqb-true n.area w.number (not-false _ (fails _ _ near)));
        serial = sym (eqb-true n.serial w.serial parts.1);
        busy = not-true _ parts.0;
      }

  pub holder_held : is_holder w n ≡ true → Held n w
  holder_held so =
      let near = and_parts (eqb n.area w.number) _ so in
      let held = and_parts _ (eqb n.serial w.serial) near.1 in
      record {
        number = sym (eqb-true n.area w.number near.0);
        serial = sym (eqb-true n.serial w.serial held.1);
        busy = not-true _ held.0;
      }

  -- and its claim is the holder where it holds the area
  held_by_held : Held n w → held_by w n.serial ≡ true
  held_by_held held = and_from _ _ (not_from_false _ held.busy) (eq-eqb n.serial w.serial (sym held.serial))

  pub held_holder : Held n w → is_holder w n ≡ true
  held_holder held = and_from _ _ (eq-eqb n.area w.number (sym held.number)) (held_by_held held)

  -- what is not refused is asked by the holder, in a phase that lets it
  pub claim_permitted : (e : Event) → claim_refusal w n e ≡ None → Held n w × (phase_refuses w e ≡ None)
  claim_permitted e none =
      let holder = first_none (holder_refusal w n) _ none in
      (holder_held (holder_passed w n holder.0), (first_none (phase_refuses w e) [] holder.1).0)

  pub step_permitted : (T U : Tables) (asked slots : ℕ) → step_refusal w T U n asked slots ≡ None → Held n w
  step_permitted T U asked slots none =
      let kept = (first_none (step_kept_from w T U n asked slots) [] (first_none (either_fault T U) _ none).1).0 in
      holder_held (holder_passed w n (held_allows w T U n (first_none (held_kept_from w T U n) _ kept).0).0)

  pub document_permitted :
      (T U : Tables) (slots levels : ℕ) → early_refusal w T U n slots levels ≡ None →
      Held n w × (phase_refuses w Write ≡ None)
  document_permitted T U slots levels none =
      let kept = (first_none (document_kept_from w T U n slots levels) [] (first_none (either_fault T U) _ none).1).0 in
      let held = first_none (held_kept_from w T U n) _ (first_none (write_kept_from w T U n slots) _ kept).0 in
      (holder_held (holder_passed w n (held_allows w T U n held.0).0), (first_none (phase_refuses w Write) _ held.1).0)

  -- the holder's conclusion of a ready area is not refused
  pub conclusion_permitted :
      (v : Verdict) → Held n w → w.phase ≡ phase.Ready v → claim_refusal w n Conclude ≡ None
  conclusion_permitted v held is =
      then_none _ _ (holder_passes w n (held_holder held)) (then_none _ _ (ap (λ (p : Phase). by_phase w (decided p Conclude)) is ∙ by v) refl)
    where
      by : (v : Verdict) → by_phase w (decided (phase.Ready v) Conclude) ≡ None
      by verdict.Included = refl
      by (verdict.Apart k) = refl

  -- nor is its document of an area that is apart, with the schemas' counts noted and scratch
  -- enough, where no test of the schemas finds anything
  pub nothing_early :
      (T U : Tables) (k : Kind) (slots levels : ℕ) → either_fault T U ≡ None →
      other_symbols w T U ≡ None → Noted T U w → Held n w → w.phase ≡ phase.Apart k →
      ROW_PAIRS ≤ slots → LEVELS ≤ levels → early_refusal w T U n slots levels ≡ None
  nothing_early T U k slots levels sound same noted held apart many deep =
      then_none _ _ sound (then_none _ _ (then_none _ _ (then_none _ _ asked (then_none _ _ writes (then_none _ _ slots_suffice refl))) (then_none _ _ levels_suffice refl)) refl)
    where
      counts : other_counts w T U ≡ None
      counts = not_found _ w Schemas (not_from_true _ (and_from _ _ (eq-eqb _ _ noted.symbols) (and_from _ _ (eq-eqb _ _ noted.firsts) (eq-eqb _ _ noted.seconds))))

      asked : held_kept_from w T U n ≡ None
      asked = then_none _ _ same (then_none _ _ (holder_passes w n (held_holder held)) (then_none _ _ counts refl))

      writes : phase_refuses w Write ≡ None
      writes = ap (λ (p : Phase). by_phase w (decided p Write)) apart

      slots_suffice : short_scratch slots ≡ None
      slots_suffice = cond-false (ltb slots ROW_PAIRS) _ None (le-ltb slots ROW_PAIRS many)

      levels_suffice : short_levels levels ≡ None
      levels_suffice = cond-false (ltb levels LEVELS) _ None (le-ltb levels LEVELS deep)

module _ (w : View) (T U : Tables) where
  -- what begins is not refused by the schemas, their symbols or the phase
  pub begin_permitted :
      (e : Event) → begin_refusal w T U e ≡ None →
      (either_fault T U ≡ None) × (other_symbols w T U ≡ None) × (phase_refuses w e ≡ None)
  begin_permitted e none =
      let sound = first_none (either_fault T U) _ none in
      let kept = first_none (other_symbols w T U) _ (first_none (begin_kept_from w T U e) [] sound.1).0 in
      (sound.0, kept.0, (first_none (phase_refuses w e) _ kept.1).0)

  -- and it does not depend on the area whether two schemas differ in symbols
  pub same_symbols : (v : View) → other_symbols v T U ≡ None → other_symbols w T U ≡ None
  same_symbols v none = not_found _ w Symbols (fails _ _ none)

-- taking is for a free area alone, and writing for one that is apart
pub take_free : (w : View) → phase_refuses w Take ≡ None → is_free w.phase ≡ true
take_free w none = by w.phase none
  where
    by : (p : Phase) → by_phase w (decided p Take) ≡ None → is_free p ≡ true
    by phase.Free h = refl
    by p h = absurd (some_not_none h)

pub write_apart : (w : View) → phase_refuses w Write ≡ None → (k : Kind) × (w.phase ≡ phase.Apart k)
write_apart w none = by w.phase none
  where
    by : (p : Phase) → by_phase w (decided p Write) ≡ None → (k : Kind) × (p ≡ phase.Apart k)
    by (phase.Apart k) h = (k, refl)
    by p h = absurd (some_not_none h)
