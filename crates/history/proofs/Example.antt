-- The example is a history: the area after each of its calls, and what each call does. Assumes
-- nothing.
use Rattle.std.proofs.Common.{◌≡◌, ℕ, zero, suc, ◌+◌, ◌^◌, ◌<◌, ◌≤◌, Bool, true, false, ◌&&◌, ◌||◌, eqb, inr, List, [], ◌∷◌, length, replicate, get_or, take, drop, None, Ok, sym, refl, ap, ◌∙◌, subst, lit<, arith}
use Rattle.std.proofs.lemmas.List.{length-replicate, get_or-replicate}
use Rattle.std.proofs.lemmas.Bool.{ne_eqb}
use Rattle.codec.specs.Numbers.{overwritten}
use Rattle.bits.specs.Bits.{bit}
use Rattle.bits.proofs.Members.{added, bit_zero}
use Rattle.compare.specs.declared.area.Area.{Area}
use Rattle.compare.specs.declared.pairs.Listed.{Listed}
use Rattle.compare.specs.declared.pairs.Pairs.{Pairs}
use Rattle.compare.specs.declared.phase.Kind.TheVariants.{Content}
use Rattle.compare.specs.declared.phase.Phase.{Phase}
use Rattle.compare.specs.declared.phase.Phase.TheVariants as phase
use Rattle.compare.specs.declared.phase.Verdict.TheVariants as verdict
use Rattle.compare.specs.Pairs.{listed, Fits, start}
use Rattle.compare.specs.declared.event.Event.TheVariants.{Take}
use Rattle.compare.specs.Beginning.{begin_refusal, Begins}
use Rattle.compare.specs.declared.step.TheConstants.{MOST_STEPS}
use Rattle.compare.specs.Stepping.{Stepped}
use Rattle.compare.specs.View.{View, view, free}
use Rattle.compare.proofs.Keeping.{kept_pairs_from, Kept}
use Rattle.document.specs.Writing.{FoundDocument}
use Rattle.history.specs.Calls.{take_up, Does, Runs}
use Rattle.history.specs.Example.{two_schemas, claim, room_for_six, example, ExampleRuns}
use Rattle.history.specs.Marked.{zero_alone, U, V, over_zero}
use Rattle.history.proofs.Marked.{alone_U, alone_V, broken_examined, one_turn, u_v_examined, v_u_broken, v_u_document}

-- the slots of a list with one entry, the pair (0, 0)
abbrev slots : List Listed
slots = start ∷ replicate 4095 start

-- and its bits
abbrev bits : List ℕ
bits = 1 ∷ replicate 63 0

-- nothing but 0 is in the first mask
bit_one : (q : ℕ) → bit 1 q ≡ (eqb 0 q || false)
bit_one q = added 0 0 q (lit< tt) ∙ ap (λ (t : Bool). t || eqb 0 q) (bit_zero q) ∙ by (eqb 0 q)
  where
    by : (t : Bool) → t ≡ (t || false)
    by true = refl
    by false = refl

-- what is kept of a list with one entry
kept_one : Kept 1 1 slots 1 bits
kept_one =
    record {
      few_firsts = lit< tt;
      few_seconds = lit< tt;
      short = lit< tt;
      fit = fit;
      once = once;
      masks = ap suc (length-replicate {A = ℕ} 63 0);
      narrow = narrow;
      say = say;
      slots_long = ap suc (length-replicate 4095 start);
      rest = rest;
    }
  where
    fit : (i : ℕ) → i < 1 → Fits 1 1 i (get_or (take 1 slots) i start)
    fit zero low = record { first_inside = lit< tt; second_inside = lit< tt; led = λ later. absurd (omega (arith, later)) }
    fit (suc i) low = absurd (omega (arith, low))

    once : (i : ℕ) → i < 1 → listed (take i (take 1 slots)) (get_or (take 1 slots) i start).first (get_or (take 1 slots) i start).second ≡ false
    once zero low = refl
    once (suc i) low = absurd (omega (arith, low))

    narrow : (p : ℕ) → p < 64 → get_or bits p 0 < 2 ^ 64
    narrow zero low = lit< tt
    narrow (suc p) low = subst (λ (n : ℕ). n < 2 ^ 64) (sym (get_or-replicate 63 p 0 0 (omega (arith, low)))) (lit< tt)

    say : (p q : ℕ) → p < 64 → q < 64 → bit (get_or bits p 0) q ≡ listed (take 1 slots) p q
    say zero q low small = bit_one q
    say (suc p) q low small = ap (λ (n : ℕ). bit n q) (get_or-replicate 63 p 0 0 (omega (arith, low))) ∙ bit_zero q ∙ ap (λ (t : Bool). t && eqb 0 q || false) (sym (ne_eqb 0 (suc p) (λ same. absurd (omega (arith, same)))))

    rest : (i : ℕ) → 1 ≤ i → i < 4096 → get_or slots i start ≡ start
    rest zero past inside = absurd (omega (arith, past))
    rest (suc i) past inside = get_or-replicate 4095 i start start (omega (arith, inside))

-- the list with the pair (0, 0), for two schemas of one state each
abbrev one_pair : Pairs
one_pair = record { firsts = 1; seconds = 1; entries = slots; length = 1; bits = bits; sound = kept_pairs_from 1 1 slots 1 bits kept_one }

-- the area with that list
abbrev listing : ℕ → Phase → ℕ → Area
listing serial p examined = record { number = 7; serial = serial; phase = p; symbols = 2; pairs = one_pair; examined = examined }

-- with a comparison that runs, with one of V and U that is ready and then apart, and with one of U
-- and V that is ready
abbrev running : ℕ → Area
running serial = listing serial phase.Running 0

abbrev ready_apart : Area
ready_apart = listing 2 (phase.Ready (verdict.Apart Content)) 1

abbrev concluded_apart : Area
concluded_apart = listing 2 (phase.Apart Content) 1

abbrev ready_included : Area
ready_included = listing 3 (phase.Ready verdict.Included) 1

-- the steps of the two
v_u_step : Stepped (over_zero V) (over_zero U) MOST_STEPS (view (running 2)) (view ready_apart)
v_u_step =
    let examined = broken_examined V U (free 7 1) v_u_broken in
    one_turn (over_zero V) (over_zero U) (view (running 2)) (view ready_apart) (verdict.Apart Content) MOST_STEPS refl examined refl (omega arith)

u_v_step : Stepped (over_zero U) (over_zero V) 1 (view (running 3)) (view ready_included)
u_v_step = one_turn (over_zero U) (over_zero V) (view (running 3)) (view ready_included) verdict.Included 1 refl (u_v_examined (free 7 2)) refl (omega arith)

-- the document of V and U
abbrev v_u_found : FoundDocument (over_zero V) (over_zero U) (view concluded_apart)
v_u_found = record { path = []; tree = v_u_document.tree; document = (Content, refl, v_u_document.document) }

module _ (a : Area) (made : view a ≡ free 7 0) where
  -- the area that is free again, with the list that it had as it was made
  abbrev free_again : ℕ → Area
  free_again serial = record { number = 7; serial = serial; phase = phase.Free; symbols = 0; pairs = a.pairs; examined = 0 }

  view_free : (serial : ℕ) → view (free_again serial) ≡ free 7 serial
  view_free serial = ap (λ (w : View). record w { number = 7; serial = serial; phase = phase.Free; symbols = 0; examined = 0 }) made

  -- a comparison of U and V begins on a free area
  begins :
      (x : Area) (serial : ℕ) → view x ≡ free 7 serial → begin_refusal (free 7 serial) U V Take ≡ None →
      Does (take_up (two_schemas U V) (Ok (claim (serial + 1)))) x (running (serial + 1))
  begins x serial is may =
      subst (λ (w : View). (begin_refusal w U V Take ≡ None) × Begins U V zero_alone w (claim (serial + 1)) (view (running (serial + 1)))) (sym is)
      (may, record { live = true; decides = (λ yes. alone_U, λ alive. refl); after = refl; number = refl; serial = refl })

  -- the calls after the first k run from here
  abbrev From : ℕ → Area → Type 0
  From k x = Runs (drop k example) x (free_again 3)

  runs : Runs example a (free_again 3)
  runs =
      let bytes = v_u_document.written in
      let conclude_included : From 11 ready_included = (free_again 3, (refl, (refl, refl, view_free 3)), refl) in
      let step_third : From 10 (running 3) = (ready_included, (refl, record { stepped = u_v_step; count = refl; mark = refl }), conclude_included) in
      let take_third : From 9 (free_again 2) = (running 3, begins (free_again 2) 2 (view_free 2) refl, step_third) in
      let give_up_second : From 8 concluded_apart = (free_again 2, (refl, (refl, view_free 2)), take_third) in
      let give_up_first : From 7 concluded_apart = (concluded_apart, (refl, (refl, refl)), give_up_second) in
      let write_document : From 6 concluded_apart = (concluded_apart, (inr (refl, (v_u_found, (sym (ap length bytes), omega arith, omega arith, ap (overwritten room_for_six 0) (sym bytes)))), refl), give_up_first) in
      let write_trail : From 5 concluded_apart = (concluded_apart, (([], ([], refl, refl), (refl, refl, refl)), refl), write_document) in
      let conclude_second : From 4 ready_apart = (concluded_apart, (refl, (refl, refl, refl, refl, refl)), write_trail) in
      let step_second : From 3 (running 2) = (ready_apart, (refl, record { stepped = v_u_step; count = refl; mark = refl }), conclude_second) in
      let step_first : From 2 (running 2) = (running 2, (refl, refl), step_second) in
      let oust_first : From 1 (running 1) = (running 2, (refl, record { live = true; decides = (λ yes. alone_V, λ alive. refl); after = refl; number = refl; serial = refl }), step_first) in
      (running 1, begins a 0 made refl, oust_first)

pub example_runs : ExampleRuns
example_runs = record { runs = λ a made. (free_again a made 3, runs a made) }
