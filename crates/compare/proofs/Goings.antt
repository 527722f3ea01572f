-- The area after an unbroken pair, and live symbols where every symbol is permitted. Assumes nothing.
use Rattle.std.proofs.Common.{◌≡◌, ℕ, ◌<◌, Bool, cond, List, length, Decides, sym, ap, ◌∙◌, subst}
use Rattle.std.proofs.lemmas.Bool.{eq-eqb, ne_eqb}
use Rattle.bits.specs.Bits.{bit}
use Rattle.schema.specs.Automata.{Automaton}
use Rattle.schema.specs.Live.{LiveMask, LiveSymbol}
use Rattle.compare.specs.declared.pairs.Listed.{Listed}
use Rattle.compare.specs.declared.phase.Phase.TheVariants as phase
use Rattle.compare.specs.declared.phase.Verdict.TheVariants as verdict
use Rattle.compare.specs.Stepping.{going_on}

-- every listed pair is examined, or one is left
pub none_left : (k n : ℕ) (es : List Listed) → n ≡ length es → k ≡ n → phase.Ready verdict.Included ≡ going_on k es
none_left k n es long all = ap (λ (b : Bool). cond b (phase.Ready verdict.Included) phase.Running) (sym (eq-eqb k (length es) (all ∙ long)))

pub one_left : (k n : ℕ) (es : List Listed) → n ≡ length es → (k ≡ n → ⊥) → phase.Running ≡ going_on k es
one_left k n es long some = ap (λ (b : Bool). cond b (phase.Ready verdict.Included) phase.Running) (sym (ne_eqb k (length es) (λ e. some (e ∙ sym long))))

-- live symbols of an automaton that another one is the same as
pub live_same : (A P : Automaton) → P ≡ A → (n live p symbols : ℕ) → ((p < n) → LiveMask P n live → (a : ℕ) → Decides (bit symbols a) (LiveSymbol P p a)) → p < n → LiveMask A n live → (a : ℕ) → Decides (bit symbols a) (LiveSymbol A p a)
live_same A P same n live p symbols told low mask = subst (λ (X : Automaton). (a : ℕ) → Decides (bit symbols a) (LiveSymbol X p a)) same (told low (subst (λ (X : Automaton). LiveMask X n live) (sym same) mask))
