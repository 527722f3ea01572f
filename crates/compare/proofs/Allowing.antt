-- What it tells that nothing keeps two schemas from a step. Assumes nothing.
use Rattle.std.proofs.Common.{◌≡◌, ℕ, Bool, true, false, cond, eqb, [], Some, None, refl}
use Rattle.std.proofs.lemmas.Bool.{and_parts, eqb-true, not-false}
use Rattle.refusal.specs.declared.fault.Refusal.{Refusal}
use Rattle.schema.specs.Tables.{Tables}
use Rattle.schema.proofs.Sound.{some_not_none, first_none}
use Rattle.compare.specs.declared.claim.Numbers.{Numbers}
use Rattle.compare.specs.Refusals.{other_symbols, other_counts, holder_refusal, held_kept_from}
use Rattle.compare.specs.Stepping.{step_kept_from}
use Rattle.compare.specs.View.{View}

-- a test that finds nothing fails
pub fails : (b : Bool) (e : Refusal) → cond b (Some e) None ≡ None → b ≡ false
fails true e none = absurd (some_not_none none)
fails false e none = refl

-- the noted counts are those of the schemas
pub record Allowed (w : View) (T U : Tables) : Type 0 where
  pub symbols : w.symbols ≡ T.symbols
  pub firsts : w.firsts ≡ T.states
  pub seconds : w.seconds ≡ U.states

module _ (w : View) (T U : Tables) (claim : Numbers) where
  -- the holder asks, and the noted counts are those of the schemas
  pub held_allows : held_kept_from w T U claim ≡ None → (holder_refusal w claim ≡ None) × (other_counts w T U ≡ None)
  held_allows none =
      let asked = first_none (holder_refusal w claim) _ (first_none (other_symbols w T U) _ none).1 in
      (asked.0, (first_none (other_counts w T U) [] asked.1).0)

module _ (w : View) (T U : Tables) (claim : Numbers) (n slots : ℕ) where
  pub allows : step_kept_from w T U claim n slots ≡ None → Allowed w T U
  allows none =
      let held = first_none (held_kept_from w T U claim) _ none in
      let all = not-false _ (fails _ _ (held_allows w T U claim held.0).1) in
      let first = and_parts (eqb w.symbols T.symbols) _ all in
      let others = and_parts (eqb w.firsts T.states) _ first.1 in
      record {
        symbols = eqb-true w.symbols T.symbols first.0;
        firsts = eqb-true w.firsts T.states others.0;
        seconds = eqb-true w.seconds U.states others.1;
      }
