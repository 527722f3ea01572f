-- While a comparison of its own schemas is apart, it has a document: a call that writes it lacks
-- room at most. Assumes nothing.
use Rattle.std.proofs.Common.{◌≡◌, ◌^◌, true, ◌&&◌, ltb, List, [], ◌∷◌, Some, None, Ok, sym, refl, ap, ap₂, ◌∙◌, subst, inl, inr, ⊎_elim}
use Rattle.std.specs.List.{slice_get}
use Rattle.std.proofs.lemmas.Bool.{and_parts, false≢true, ltb-true, or_cases}
use Rattle.std.proofs.lemmas.Option.{none-some}
use Rattle.refusal.specs.declared.fault.Fault.TheVariants.{Room}
use Rattle.refusal.specs.declared.fault.Refusal.{Refusal}
use Rattle.schema.specs.Tables.{Tables}
use Rattle.schema.proofs.Sound.{some_not_none}
use Rattle.compare.specs.declared.area.Area.{Area}
use Rattle.compare.specs.declared.claim.Numbers.{Numbers}
use Rattle.compare.specs.declared.conclude.Concluded.TheVariants as concluded
use Rattle.compare.specs.declared.pairs.Listed.{Listed}
use Rattle.compare.specs.declared.phase.Kind.{Kind}
use Rattle.compare.specs.declared.phase.Phase.{Phase}
use Rattle.compare.specs.declared.phase.Phase.TheVariants as phase
use Rattle.compare.specs.Invariant.{LastBroken, Stands}
use Rattle.compare.specs.Trailing.{broken_index}
use Rattle.compare.specs.View.{View, view}
use Rattle.compare.proofs.Invariant.{last_index}
use Rattle.document.specs.Documents.{HasDocument}
use Rattle.document.specs.Writing.{NoDocument, early_refusal}
use Rattle.document.proofs.Existing.{has_document}
use Rattle.history.specs.Calls.{Handed, first_automaton, second_automaton, Call, conclude, Does, Runs, same_numbers, is_made_with, some_own, is_parting}
use Rattle.history.specs.Comparisons.{Comparison, StepsOverItsOwn, ApartAndHolder, DocumentRefused}
use Rattle.history.proofs.Counting.{is_apart}
use Rattle.history.proofs.Effects.{Effect, Keeps, Steps, Parts, effect, step_none, part_left, started_so}
use Rattle.history.proofs.Holders.{Onward, step_onward, part_onward, Standing, stands_now, stands_on, stands_along, held_on, started_held}
use Rattle.history.proofs.Permits.{Held, Noted, holder_held, begin_permitted, same_symbols, nothing_early}
use Rattle.history.proofs.Verdicts.{InvariantFor, invariant_moved, now_invariant}

-- the noted counts stay those of the schemas
module _ (T U : Tables) where
  abbrev NotedIn : Area → Type 0
  NotedIn a = Noted T U (view a)

  noted_on : (n : Numbers) (d : Call) (a a' : Area) → Effect d a a' → Standing n NotedIn a → Standing n NotedIn a'
  noted_on n d a a' e =
      stands_on n NotedIn NotedIn (λ k noted. subst NotedIn (sym k.same) noted) (λ s its noted. onward (step_onward s) noted) (λ p noted. onward (part_onward p) noted) e
    where
      onward : Onward (view a) (view a') → NotedIn a → NotedIn a'
      onward on noted = record {
        symbols = on.symbols ∙ noted.symbols;
        firsts = on.firsts ∙ noted.firsts;
        seconds = on.seconds ∙ noted.seconds;
      }

-- what was concluded apart stays apart until it ends
module _ (n : Numbers) where
  abbrev IsApart : Area → Type 0
  IsApart a = is_apart a.phase ≡ true

  apart_after : (d : Call) (a a' : Area) → Parts d a a' → IsApart a'
  apart_after d a a' p = ap (λ (x : View). is_apart x.phase) (part_left p)

  apart_on : (d : Call) (a a' : Area) → Effect d a a' → Standing n IsApart a → Standing n IsApart a'
  apart_on d a a' e = stands_on n IsApart IsApart kept stepped (λ p was. apart_after d a a' p) e
    where
      kept : Keeps d a a' → IsApart a → IsApart a'
      kept e was = subst IsApart (sym e.same) was

      stepped : (s : Steps d a a') → same_numbers n s.numbers ≡ true → IsApart a → IsApart a'
      stepped s its was =
          let still : a.phase ≡ phase.Running → ⊥ = λ runs. false≢true (sym (ap is_apart runs) ∙ was) in
          ap (λ (x : View). is_apart x.phase) (step_none s still) ∙ was

  -- the call that concludes it
  parting : (d : Call) (a a' : Area) → is_parting d ≡ true → Does d a a' → IsApart a'
  parting (conclude c (Ok (concluded.Apart k count claim))) a a' is does = apart_after (conclude c (Ok (concluded.Apart k count claim))) a a' (record {
    claim = c;
    kind = k;
    count = count;
    apart = claim;
    is = refl;
    does = does;
  })
  parting d a a' is does = absurd (false≢true is)

  apart_since :
      (cs : List Call) (a now : Area) → Runs cs a now → Held n (view a) →
      some_own n is_parting cs ≡ true → Standing n IsApart now
  apart_since [] a now runs held so = absurd (false≢true so)
  apart_since (d ∷ cs) a now runs held so =
      ⊎_elim
      (λ on. ⊎_elim (λ here. along (inl (on, parting d a runs.0 (and_parts (is_made_with n d) (is_parting d) here).1 runs.1))) (λ later. apart_since cs runs.0 now runs.2 on later) (or_cases (is_made_with n d && is_parting d) (some_own n is_parting cs) so))
      (λ gone. along (inr gone))
      (held_on n (effect d a runs.0 runs.1) held)
    where
      along : Standing n IsApart runs.0 → Standing n IsApart now
      along = stands_along n IsApart apart_on cs runs.0 now runs.2

-- a phase that is apart is so by a kind
by_kind : (p : Phase) → is_apart p ≡ true → (k : Kind) × (p ≡ phase.Apart k)
by_kind (phase.Apart k) is = (k, refl)
by_kind p is = absurd (false≢true is)

pub apart :
    (a : Area) (c : Comparison a) → ApartAndHolder c → (k : Kind) × ((view c.now).phase ≡ phase.Apart k)
apart a c on = by_kind c.now.phase (stands_now c.claim (λ x. is_apart x.phase ≡ true) c.now (apart_since c.claim c.since c.begun c.now c.goes_on (started_held c) on.parted) on.holder)

-- while it is apart, the broken pair of a comparison of the two schemas has a document
not_lacking :
    (g : Handed) (a : Area) (k : Kind) → a.phase ≡ phase.Apart k → InvariantFor g a →
    NoDocument (first_automaton g) (second_automaton g) (view a) → ⊥
unfolding HasDocument
not_lacking g a k apart invariant lacks =
    let A = first_automaton g in
    let B = second_automaton g in
    let w = view a in
    let last : LastBroken A B w k = subst (Stands A B w) apart invariant.stands in
    let at : slice_get w.pairs (broken_index w) ≡ Some last.pair = ap (slice_get w.pairs) (last_index A B w k last) ∙ last.at in
    ⊎_elim
    (λ root. has_document A B k w.pairs (broken_index w) last.pair (λ q v has. ltb-true v (2 ^ 32) (and_parts (ltb v (2 ^ 32)) _ has).0) root.0 root.1 invariant.reached at last.broken (λ path t d. lacks path t (k, apart, d)))
    (λ none. none-some _ (subst (λ (es : List Listed). slice_get es (broken_index w) ≡ Some last.pair) none.1 at))
    invariant.rooted

module _ {a : Area} (c : Comparison a) where
  -- the counts of its schemas are noted as long as its claim is the holder
  now_noted : ApartAndHolder c → Noted c.schemas.first c.schemas.second (view c.now)
  now_noted on =
      let T = c.schemas.first in
      let U = c.schemas.second in
      let after = (started_so c).does.1.after in
      let begun : Noted T U (view c.begun) = record {
        symbols = ap (λ (x : View). x.symbols) after;
        firsts = ap (λ (x : View). x.firsts) after;
        seconds = ap (λ (x : View). x.seconds) after;
      } in
      stands_now c.claim (NotedIn T U) c.now (stands_along c.claim (NotedIn T U) (noted_on T U c.claim) c.since c.begun c.now c.goes_on (inl (started_held c, begun))) on.holder

  -- so nothing is refused before a document is looked for
  not_early :
      ApartAndHolder c → (e : Refusal) → (r : DocumentRefused c e) →
      early_refusal (view c.now) r.handed.first r.handed.second c.claim r.slots r.levels ≡ None
  not_early on e r =
      let T = c.schemas.first in
      let U = c.schemas.second in
      let w = view c.now in
      let s = started_so c in
      let may = begin_permitted (view c.at) T U s.event s.does.0 in
      let there = apart a c on in
      let none = nothing_early w c.claim T U there.0 r.slots r.levels may.0 (same_symbols w T U (view c.at) may.1) (now_noted on) (holder_held w c.claim on.holder) there.1 r.enough_slots r.enough_levels in
      ap₂ (λ (T : Tables) (U : Tables). early_refusal w T U c.claim r.slots r.levels) (sym r.same.first) (sym r.same.second) ∙ none

pub documented :
    (a : Area) (c : Comparison a) → StepsOverItsOwn c → ApartAndHolder c → (e : Refusal) →
    DocumentRefused c e → e.fault ≡ Room
documented a c over on e r =
    let there = apart a c on in
    let invariant = invariant_moved c.schemas r.handed c.now r.same (now_invariant c over on.holder) in
    ⊎_elim
    (λ refused. absurd (some_not_none (sym refused.1 ∙ not_early c on e r)))
    (λ answer. ⊎_elim (λ lacking. absurd (not_lacking r.handed c.now there.0 there.1 invariant lacking.0)) (λ long. ap (λ (x : Refusal). x.fault) long.1.1) answer.1.0)
    r.does.0
