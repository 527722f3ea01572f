-- What the watchers want: sequences that hold a symbol, and sequences that are not allowed. Assumes
-- nothing.
use Rattle.std.proofs.Common.{◌≡◌, ℕ, ◌<◌, min, Bool, true, false, cond, not, ◌&&◌, ◌||◌, eqb, ltb, List, [], ◌∷◌, ◌++◌, Some, None, Decides, Option, sym, refl, ap, ◌∙◌, ⊎_elim, arith}
use Rattle.std.proofs.lemmas.Bool.{and_right, both_ways, cases_Bool, cond-true, eqb-true, eq-eqb, lt-ltb, not_from_false}
use Rattle.schema.specs.Automata.{Automaton, passes, present, row_runs, has_next, allowed}
use Rattle.schema.specs.Tables.{tables, sets, automaton, automaton_of}
use Rattle.schema.specs.declared.tested.Tested.{Tested}
use Rattle.search.specs.Watching.{watched, wanted, holding, Holds, row_or_gone, refusing}
use Rattle.search.proofs.Underway.{Fenced}

module _ (a : ℕ) where
  -- once the symbol came, nothing changes
  came : (w : List ℕ) → watched (holding a) 1 w ≡ 1
  came [] = refl
  came (b ∷ w) = came w

  -- it comes, or stands somewhere later
  step : (b : ℕ) (w : List ℕ) (came-now : Bool) → eqb b a ≡ came-now → watched (holding a) 0 (b ∷ w) ≡ watched (holding a) (cond came-now 1 0) w
  step b w c is = ap (λ (t : Bool). watched (holding a) (cond t 1 0) w) is

  held : (w : List ℕ) → eqb (watched (holding a) 0 w) 1 ≡ true → Holds a w
  held [] h = absurd (both_ways false refl h)
  held (b ∷ w) h =
      ⊎_elim
      (λ now. ([], w, ap (λ (x : ℕ). x ∷ w) (eqb-true b a now)))
      (λ later. let rest = held w (ap (λ (x : ℕ). eqb x 1) (sym (step b w false later)) ∙ h) in (b ∷ rest.0, rest.1, ap (λ l. b ∷ l) rest.2))
      (cases_Bool (eqb b a))

  holds : (u v : List ℕ) → watched (holding a) 0 (u ++ a ∷ v) ≡ 1
  holds [] v = step a v true (eq-eqb a a refl) ∙ came v
  holds (b ∷ u) v =
      ⊎_elim
      (λ now. step b (u ++ a ∷ v) true now ∙ came (u ++ a ∷ v))
      (λ later. step b (u ++ a ∷ v) false later ∙ holds u v)
      (cases_Bool (eqb b a))

  pub wants_held : (w : List ℕ) → Decides (wanted (holding a) w) (Holds a w)
  wants_held w = (held w, λ h. ap (λ l. eqb (watched (holding a) 0 l) 1) h.2 ∙ ap (λ (x : ℕ). eqb x 1) (holds h.0 h.1))

-- one symbol more, from the next row and the next state there
pub row_after : {D : Type 0} (holds : D → ℕ → Bool) (t : Tested D) (p s b : ℕ) (row state : Option ℕ) → s < 16 → ((ds : List (ℕ → Bool)) → row ≡ (automaton (tables t.measured.schema) ds).step p s b) → ((ds : List (ℕ → Bool)) → state ≡ (automaton (tables t.measured.schema) ds).next p b) → row_or_gone row state ≡ (refusing (automaton_of holds t.measured.schema) p).after s b
row_after holds t p s b row state low step next =
    let A = automaton_of holds t.measured.schema in
    let ds = sets holds t.measured.schema in
    ap (λ o. row_or_gone o state) (step ds) ∙ ap (row_or_gone (A.step p s b)) (next ds) ∙ sym (cond-true (ltb s 16) (row_or_gone (A.step p s b) (A.next p b)) 16 (lt-ltb s 16 low))

module _ (A : Automaton) (p rows symbols : ℕ) (fence : Fenced A p rows symbols) where
  -- gone for good
  gone : (w : List ℕ) → watched (refusing A p) 16 w ≡ 16
  gone [] = refl
  gone (b ∷ w) = gone w

  -- from a row of the state on
  refused : (w : List ℕ) (r : ℕ) → r < rows → (refusing A p).wants (watched (refusing A p) r w) ≡ not (row_runs A p r w && has_next A p w)
  refused [] r inside = ap (λ (t : Bool). not t || not (A.ends p r)) (lt-ltb r 16 (omega (arith, fence.few))) ∙ by (A.ends p r)
    where
      by : (e : Bool) → not e ≡ not (e && true)
      by true = refl
      by false = refl
  refused (b ∷ w) r inside =
      ap (λ (s : ℕ). (refusing A p).wants (watched (refusing A p) s w)) (cond-true (ltb r 16) _ _ (lt-ltb r 16 (omega (arith, fence.few))))
      ∙ by (A.step p r b) (A.next p b) (λ j is. let low = fence.stays r b j inside is in (omega (arith, low, fence.few), refused w j low))
    where
      by : (o n : Option ℕ) → ((j : ℕ) → o ≡ Some j → (j < 16) × ((refusing A p).wants (watched (refusing A p) j w) ≡ not (row_runs A p j w && has_next A p w))) → (refusing A p).wants (watched (refusing A p) (row_or_gone o n) w) ≡ not (passes o (λ s. row_runs A p s w) && (present n && has_next A p w))
      by (Some j) (Some s) rest =
          let same : min j 16 ≡ j = omega (arith, (rest j refl).0) in
          ap (λ (x : ℕ). (refusing A p).wants (watched (refusing A p) x w)) same ∙ (rest j refl).1
      by (Some j) None rest = ap (refusing A p).wants (gone w) ∙ sym (not_from_false _ (and_right (row_runs A p j w) false refl))
      by None n rest = ap (refusing A p).wants (gone w)

  pub wants_refused : (w : List ℕ) → wanted (refusing A p) w ≡ not (allowed A p w)
  wants_refused w = refused w 0 fence.some
