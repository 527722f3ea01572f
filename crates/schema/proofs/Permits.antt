-- Permitted symbols change the next states alone, which stay states, and where all are permitted
-- nothing changes. Assumes nothing.
use Rattle.std.proofs.Common.{◌≡◌, ℕ, ◌<◌, ◌≤◌, Bool, true, false, cond, not, ◌&&◌, ltb, List, [], ◌∷◌, Some, None, Option, sym, refl, ◌∙◌, ⊎_elim, arith}
use Rattle.std.proofs.lemmas.Bool.{cases_lt, cond-true, cond-false, le-ltb, not-false}
use Rattle.bits.specs.Bits.{bit}
use Rattle.schema.specs.Automata.{Automaton, passes, row_runs}
use Rattle.schema.specs.Faults.{faulty}
use Rattle.schema.specs.Permitted.{permit}
use Rattle.schema.specs.Tables.{Tables, automaton, entry, transition_byte}
use Rattle.schema.proofs.Gathering.{chosen_some}
use Rattle.schema.proofs.Sound.{some_none, sound}

module _ (permitted : ℕ → Bool) (A : Automaton) (q : ℕ) where
  -- content rows stay as they are
  pub permit_runs : (r : ℕ) (w : List ℕ) → row_runs (permit permitted A) q r w ≡ row_runs A q r w
  permit_runs r [] = refl
  permit_runs r (a ∷ w) = by (A.step q r a) (λ s. permit_runs s w)
    where
      by : (o : Option ℕ) → ((s : ℕ) → row_runs (permit permitted A) q s w ≡ row_runs A q s w) → passes o (λ s. row_runs (permit permitted A) q s w) ≡ passes o (λ s. row_runs A q s w)
      by (Some s) more = more s
      by None more = refl

-- a next state lies in a set under a permitted symbol, where it is permitted and lies there
pub passes_permitted : (b : Bool) (o : Option ℕ) (states : ℕ → Bool) → (b && passes o states) ≡ passes (cond b o None) states
passes_permitted true o states = refl
passes_permitted false o states = refl

-- where nothing is there, nothing is permitted
pub permit_none : (b : Bool) (o : Option ℕ) → o ≡ None → cond b o None ≡ None
permit_none true o none = none
permit_none false o none = refl

-- every number below 64 is in the full set
in_full : (a : ℕ) → a < 64 → bit 18446744073709551615 a ≡ true
in_full a low = not-false _ (some_none (λ b. not (bit 18446744073709551615 b)) 64 refl a low)

-- symbols are few, so the full set permits them all
pub permit_all : (T : Tables) (domains : List (ℕ → Bool)) → T.symbols ≤ 64 → permit (bit 18446744073709551615) (automaton T domains) ≡ automaton T domains
permit_all T domains few = λ i. record { next = λ q a. same q a i; step = (automaton T domains).step; ends = (automaton T domains).ends; has = (automaton T domains).has }
  where
    same : (q a : ℕ) → cond (bit 18446744073709551615 a) ((automaton T domains).next q a) None ≡ (automaton T domains).next q a
    same q a =
        ⊎_elim
        (λ low. cond-true (bit 18446744073709551615 a) ((automaton T domains).next q a) None (in_full a low))
        (λ past. let none = cond-false (ltb a T.symbols) (entry (transition_byte T q a)) None (le-ltb a T.symbols (omega arith)) in permit_none (bit 18446744073709551615 a) _ none ∙ sym none)
        (cases_lt a 64)

-- over the permitted symbols too, a state's next states are states
pub permit_inside : (permitted : ℕ → Bool) (T : Tables) (domains : List (ℕ → Bool)) → faulty T ≡ false → (q a s : ℕ) → q < T.states → (permit permitted (automaton T domains)).next q a ≡ Some s → s < T.states
permit_inside permitted T domains fine q a s low is = (sound T domains fine).next_in q a s low (chosen_some (permitted a) ((automaton T domains).next q a) s is).1
