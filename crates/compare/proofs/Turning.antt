-- A turn changes none of the noted counts, and a step examines in a running area alone. Assumes nothing.
use Rattle.std.proofs.Common.{◌≡◌, ℕ, refl, ap, ◌∙◌, ⊎_elim, arith}
use Rattle.schema.specs.Automata.{Automaton}
use Rattle.compare.specs.declared.compared.Compared.{Compared}
use Rattle.compare.specs.declared.event.Decision.TheVariants as decision
use Rattle.compare.specs.declared.event.Event.TheVariants.{Step}
use Rattle.compare.specs.declared.phase.Phase.{Phase}
use Rattle.compare.specs.declared.phase.Phase.TheVariants as phase
use Rattle.compare.specs.Phases.{decided}
use Rattle.compare.specs.Schemas.{Noted}
use Rattle.compare.specs.Stepping.{Turn}
use Rattle.compare.specs.View.{View}

-- a step examines where the area runs, and only there
pub runs_where_examined : (p : Phase) → decided p Step ≡ decision.Examine → p ≡ phase.Running
runs_where_examined phase.Free is = absurd (let z : ◌≡◌ {A = ℕ} 0 1 = cc in omega arith)
runs_where_examined phase.Running is = refl
runs_where_examined (phase.Ready v) is = absurd (let z : ◌≡◌ {A = ℕ} 0 1 = cc in omega arith)
runs_where_examined (phase.Apart k) is = absurd (let z : ◌≡◌ {A = ℕ} 0 1 = cc in omega arith)

module _ (A B : Automaton) where
  -- the noted counts stay
  pub counts_stay : (w w' : View) → Turn A B w w' → (w'.symbols ≡ w.symbols) × (w'.firsts ≡ w.firsts) × (w'.seconds ≡ w.seconds)
  counts_stay w w' turn =
      ⊎_elim
      (λ none. (ap (λ (x : View). x.symbols) none.1, ap (λ (x : View). x.firsts) none.1, ap (λ (x : View). x.seconds) none.1))
      (λ one.
      ⊎_elim
      (λ broken. (ap (λ (x : View). x.symbols) broken.2, ap (λ (x : View). x.firsts) broken.2, ap (λ (x : View). x.seconds) broken.2))
      (λ on. (ap (λ (x : View). x.symbols) on.1.2, ap (λ (x : View). x.firsts) on.1.2, ap (λ (x : View). x.seconds) on.1.2))
      one.outcome)
      turn

  pub noted_stays : {D : Type 0} (c : Compared D) (w w' : View) → Turn A B w w' → Noted c w → Noted c w'
  noted_stays c w w' turn noted =
      let stay = counts_stay w w' turn in
      record { symbols = stay.0 ∙ noted.symbols; firsts = stay.1 ∙ noted.firsts; seconds = stay.2 ∙ noted.seconds }
