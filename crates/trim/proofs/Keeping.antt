-- States gathered along live symbols are those that are kept. Assumes nothing.
use Rattle.std.proofs.Common.{false, ◌≡◌, ℕ, ◌<◌, ◌≤◌, Bool, true, ◌&&◌, ◌||◌, eqb, ltb, List, [], ◌∷◌, ◌++◌, Some, Decides, sym, refl, ap, ◌∙◌, subst, inl, inr, ⊎_elim, arith}
use Rattle.std.proofs.lemmas.Option.{same_Some}
use Rattle.bits.specs.Bits.{bit, LowestMember, without}
use Rattle.schema.specs.declared.tested.Tested.{Tested}
use Rattle.schema.specs.Automata.{Automaton}
use Rattle.schema.specs.Live.{LiveSymbol, LivePath}
use Rattle.schema.specs.Permitted.{permit}
use Rattle.schema.specs.Rows.{AfterEdge}
use Rattle.schema.specs.Tables.{tables, sets, automaton_of}
use Rattle.schema.proofs.Gathering.{Partly, chosen_some, partly_start, partly_here, partly_more, partly_done}
use Rattle.schema.proofs.Onward.{live_leads, path_push}
use Rattle.schema.proofs.Permits.{permit_inside}
use Rattle.schema.proofs.Sizes.{sized}
use Rattle.trim.specs.Kept.{LedTo}

-- a live symbol leads from one state to another
abbrev pub LiveEdge : Automaton → ℕ → ℕ → ℕ → Type 0
LiveEdge A p a s = LiveSymbol A p a × (A.next p a ≡ Some s)

module _ (A : Automaton) (permitted : ℕ → Bool) where
  -- what follows under the live symbols, looked up as if every symbol were permitted
  pub after_live : (set : ℕ → Bool) (p before after : ℕ) → ((a : ℕ) → Decides (set a) (LiveSymbol (permit permitted A) p a)) → AfterEdge (LedTo A set) p before after → AfterEdge (LiveEdge (permit permitted A)) p before after
  after_live set p before after exact so =
      record {
        kept = so.kept;
        added = λ a j edge low. so.added a j ((exact a).1 edge.0, (chosen_some (permitted a) (A.next p a) j edge.1).1) low;
        only = λ i h. ⊎_elim inl (λ m. inr (m.0, onto m.0 i ((exact m.0).0 m.1.0) m.1.1)) (so.only i h);
      }
    where
      onto : (a i : ℕ) → LiveSymbol (permit permitted A) p a → A.next p a ≡ Some i → LiveEdge (permit permitted A) p a i
      onto a i live is =
          let there = live_leads (permit permitted A) p a live in
          (live, there.1 ∙ ap Some (same_Some _ _ (sym (chosen_some (permitted a) (A.next p a) there.0 there.1).1 ∙ is)))

-- a set that live symbols do not leave holds every state on a path from one of its own
pub closed_path : (A : Automaton) (set : ℕ) → ((i a j : ℕ) → bit set i ≡ true → LiveEdge A i a j → bit set j ≡ true) → (w : List ℕ) (p q : ℕ) → bit set p ≡ true → LivePath A p w q → bit set q ≡ true
closed_path A set closed [] p q here path = subst (λ (n : ℕ). bit set n ≡ true) path here
closed_path A set closed (a ∷ w) p q here path = closed_path A set closed w path.1.0 q (closed p a path.1.0 here (path.0, path.1.1)) path.1.2

-- the states that live symbols lead to from the start of a tested schema, over permitted symbols
module _ {D : Type 0} (holds : D → ℕ → Bool) (t : Tested D) (permitted : ℕ) where
  abbrev pub over_permitted : Automaton
  over_permitted = permit (bit permitted) (automaton_of holds t.measured.schema)

  -- live symbols lead from the start to the state
  abbrev pub Led : ℕ → Type 0
  Led q = (w : List ℕ) × LivePath over_permitted 0 w q

  -- the states reached so far, and those of them that are done
  abbrev pub LedSoFar : ℕ → ℕ → Type 0
  LedSoFar = Partly (LiveEdge over_permitted) Led 0 t.measured.schema.states

  few : t.measured.schema.states ≤ 64
  few = (sized (tables t.measured.schema) t.measured.sized).states.to

  led_on : (i a j : ℕ) → i < t.measured.schema.states → Led i → LiveEdge over_permitted i a j → Led j
  led_on i a j low so e = (so.0 ++ a ∷ [], path_push over_permitted so.0 0 i a j so.1 e.0 e.1)

  led_inside : (i a j : ℕ) → i < t.measured.schema.states → LiveEdge over_permitted i a j → j < t.measured.schema.states
  led_inside i a j low e = permit_inside (bit permitted) (tables t.measured.schema) (sets holds t.measured.schema) t.sound i a j low e.1

  pub led_start : (one : ℕ) → ((i : ℕ) → bit one i ≡ (bit 0 i || (ltb 0 64 && eqb 0 i))) → LedSoFar one 0
  led_start one = partly_start (LiveEdge over_permitted) Led 0 t.measured.schema.states few ([], refl) led_on led_inside one (omega (arith, (sized (tables t.measured.schema) t.measured.sized).states.from))

  pub led_here : (reached done q : ℕ) → LedSoFar reached done → LowestMember (without (bit reached) (bit done)) q → q < t.measured.schema.states
  led_here reached done q so least = (partly_here (LiveEdge over_permitted) Led 0 t.measured.schema.states few ([], refl) led_on led_inside reached done q so least).1

  pub led_more : (reached done q done' reached' : ℕ) → LedSoFar reached done → LowestMember (without (bit reached) (bit done)) q → ((i : ℕ) → bit done' i ≡ (bit done i || (ltb q 64 && eqb q i))) → AfterEdge (LiveEdge over_permitted) q reached reached' → LedSoFar reached' done'
  led_more = partly_more (LiveEdge over_permitted) Led 0 t.measured.schema.states few ([], refl) led_on led_inside

  -- where nothing is left to do, just the states on live paths from the start were reached
  pub led_done : (reached done : ℕ) → LedSoFar reached done → ((i : ℕ) → i < 64 → without (bit reached) (bit done) i ≡ false) → (q : ℕ) → Decides (bit reached q) (Led q)
  led_done reached done so none q =
      let closed = partly_done (LiveEdge over_permitted) Led 0 t.measured.schema.states few ([], refl) led_on led_inside reached done so none in
      (so.only q, λ led. closed_path over_permitted reached closed led.0 0 q so.start led.1)
