-- The call has one outcome; and with numbers that are not the holder's it is refused. Assumes nothing.
use Rattle.std.proofs.Common.{◌≡◌, ℕ, ◌+◌, ◌<◌, ◌⊎◌, List, [], ◌∷◌, length, Some, Ok, Err, Option, Result, sym, ap, ◌∙◌, ⊎_elim, arith}
use Rattle.std.proofs.lemmas.Option.{none-some, same_Some}
use Rattle.refusal.specs.declared.fault.Fault.TheVariants.{Room}
use Rattle.refusal.specs.declared.fault.Refusal.{Refusal}
use Rattle.refusal.specs.Order.{first_of}
use Rattle.codec.specs.Encoding.{tree_bytes}
use Rattle.codec.specs.Numbers.{overwritten}
use Rattle.codec.specs.Trees.{Tree}
use Rattle.schema.specs.Automata.{Automaton}
use Rattle.schema.specs.Faults.{either_fault}
use Rattle.schema.specs.Tables.{automaton}
use Rattle.compare.specs.Refusals.{other_symbols, held_kept_from}
use Rattle.compare.specs.NotHolder.{refusal_of_not_holder}
use Rattle.compare.specs.View.{View, view}
use Rattle.compare.specs.Writing.{write_kept_from}
use Rattle.compare.proofs.NotHolder.{found_within, found_third, some_found}
use Rattle.compare.proofs.Tests.{held_refused}
use Rattle.samples.specs.declared.size.TheConstants.{TOO_LONG}
use Rattle.samples.specs.Kept.{needed}
use Rattle.document.specs.Writing.{document_kept_from, early_refusal, FoundDocument, DocumentAnswer, OneDocumenting, DocumentByNotHolder}
use Rattle.document.proofs.Unique.{found_or_not, one_found}

module _ (A B : Automaton) (w : View) (output : List ℕ) where
  -- a document that was written is none that is too long
  not_both : (n : ℕ) (d f : FoundDocument A B w) → n ≡ length (tree_bytes d.tree) → n < TOO_LONG → (n < length output + 1) → (length output < needed f.tree) ⊎ (needed f.tree ≡ TOO_LONG) → ⊥
  not_both n d f long few fits too =
      let same : length (tree_bytes f.tree) ≡ length (tree_bytes d.tree) = ap (λ (t : Tree). length (tree_bytes t)) (one_found A B w f d) in
      ⊎_elim (λ short. omega (arith, short, long, few, fits, same)) (λ past. omega (arith, past, long, few, fits, same)) too

  one_answer : (r s : Result ℕ Refusal) (one other : List ℕ) → DocumentAnswer A B w output r one → DocumentAnswer A B w output s other → (r ≡ s) × (one ≡ other)
  one_answer (Ok n) (Ok m) one other p q =
      let same = one_found A B w p.0 q.0 in (
        ap Ok (p.1.0 ∙ ap (λ (t : Tree). length (tree_bytes t)) same ∙ sym q.1.0),
        p.1.3 ∙ ap (λ (t : Tree). overwritten output 0 (tree_bytes t)) same ∙ sym q.1.3,
      )
  one_answer (Ok n) (Err e) one other p q =
      absurd (⊎_elim (λ lacks. found_or_not A B w p.0 lacks.0) (λ too. not_both n p.0 too.0 p.1.0 (omega (arith, p.1.1)) (omega (arith, p.1.2)) too.1.0) q.0)
  one_answer (Err e) (Ok m) one other p q =
      absurd (⊎_elim (λ lacks. found_or_not A B w q.0 lacks.0) (λ too. not_both m q.0 too.0 q.1.0 (omega (arith, q.1.1)) (omega (arith, q.1.2)) too.1.0) p.0)
  one_answer (Err e) (Err f) one other p q = (ap Err by, p.1 ∙ sym q.1)
    where
      by : e ≡ f
      by =
          ⊎_elim
          (λ lacks. ⊎_elim (λ lacks'. lacks.1 ∙ sym lacks'.1) (λ too. absurd (found_or_not A B w too.0 lacks.0)) q.0)
          (λ too.
          ⊎_elim
          (λ lacks. absurd (found_or_not A B w too.0 lacks.0))
          (λ too'. too.1.1 ∙ ap (λ (t : Tree). record { fault = Room; place = needed t }) (one_found A B w too.0 too'.0) ∙ sym too'.1.1)
          q.0)
          p.0

pub one_documenting : OneDocumenting
unfolding OneDocumenting
one_documenting T U sets others claim slots levels a output r s one other p q =
    ⊎_elim
    (λ refused.
    ⊎_elim
    (λ refused'. (refused.2 ∙ ap Err (same_Some _ _ (sym refused.1 ∙ refused'.1)) ∙ sym refused'.2, refused.3 ∙ sym refused'.3))
    (λ answer. absurd (none-some _ (sym answer.0 ∙ refused.1)))
    q)
    (λ answer.
    ⊎_elim
    (λ refused. absurd (none-some _ (sym answer.0 ∙ refused.1)))
    (λ answer'. one_answer (automaton T sets) (automaton U others) (view a) output r s one other answer.1 answer'.1)
    q)
    p

pub document_by_not_holder : DocumentByNotHolder
unfolding DocumentByNotHolder
document_by_not_holder T U sets others claim slots levels a output r output' does other =
    let w = view a in
    let found = λ (p q : Option Refusal) (rest : List (Option Refusal)) (is : q ≡ first_of (p ∷ Some (refusal_of_not_holder w claim) ∷ [])). found_within p q (refusal_of_not_holder w claim) rest is in
    let write : write_kept_from w T U claim slots ≡ first_of (other_symbols w T U ∷ Some (refusal_of_not_holder w claim) ∷ []) = found (other_symbols w T U) (held_kept_from w T U claim) _ (held_refused w claim T U other) in
    let same : early_refusal w T U claim slots levels ≡ first_of (either_fault T U ∷ other_symbols w T U ∷ Some (refusal_of_not_holder w claim) ∷ []) = found_third (either_fault T U) (other_symbols w T U) (document_kept_from w T U claim slots levels) (refusal_of_not_holder w claim) (found (other_symbols w T U) (write_kept_from w T U claim slots) _ write) in
    ⊎_elim
    (λ refused. (refused.0, refused.2, sym same ∙ refused.1, refused.3))
    (λ answer. absurd (some_found (either_fault T U) (other_symbols w T U) (refusal_of_not_holder w claim) (sym same ∙ answer.0)))
    does
