-- Trimming has one outcome. Assumes nothing.
use Rattle.std.proofs.Common.{◌≡◌, ℕ, Bool, ◌⊎◌, List, Some, Ok, Err, sym, ap, ◌∙◌, inl, inr}
use Rattle.std.proofs.lemmas.Bool.{both_ways}
use Rattle.std.proofs.lemmas.Bool.Decides.{same_from_decides}
use Rattle.std.proofs.lemmas.Option.{none-some, same_Some}
use Rattle.refusal.specs.declared.fault.Refusal.{Refusal}
use Rattle.schema.specs.Faults.{table_fault}
use Rattle.schema.specs.Live.{Live}
use Rattle.schema.specs.Permitted.{permit}
use Rattle.schema.specs.Tables.{Tables, automaton}
use Rattle.trim.specs.Kept.{Kept}
use Rattle.trim.specs.Outcome.{Outputs, tables_fit, written, KeptSet, NothingLeft, NoRoom, WritesTables, OneTrimming}
use Rattle.trim.specs.Trimmed.{trimmed}

module _ (T : Tables) (domains : List (ℕ → Bool)) (permitted : ℕ → Bool) where
  -- one test passes just the kept states
  one_kept : (kept other : ℕ → Bool) → KeptSet T domains permitted kept → KeptSet T domains permitted other → kept ≡ other
  one_kept kept other keeps also =
      let each : (q : ℕ) → kept q ≡ other q = λ q. same_from_decides {P = Kept (automaton T domains) permitted q} (kept q) (other q) (keeps.exact q) (also.exact q) in
      λ i. λ (q : ℕ). each q i

  -- where something is kept, the start is live
  start_live : (kept : ℕ → Bool) → KeptSet T domains permitted kept → Live (permit permitted (automaton T domains)) 0
  start_live kept keeps = ((keeps.exact 0).0 keeps.start).0

  module _ (out : Outputs) where
    -- why trimming is refused
    abbrev Refused : Refusal → Type 0
    Refused e = (table_fault T ≡ Some e) ⊎ (NothingLeft T domains permitted e ⊎ NoRoom T domains permitted out e)

    one_refusal : (e f : Refusal) → Refused e → Refused f → e ≡ f
    one_refusal e f (inl fault) (inl also) = same_Some _ _ (sym fault ∙ also)
    one_refusal e f (inl fault) (inr (inl nothing)) = absurd (none-some _ (sym nothing.sound ∙ fault))
    one_refusal e f (inl fault) (inr (inr room)) = absurd (none-some _ (sym room.keeps.sound ∙ fault))
    one_refusal e f (inr (inl nothing)) (inl fault) = absurd (none-some _ (sym nothing.sound ∙ fault))
    one_refusal e f (inr (inl nothing)) (inr (inl also)) = nothing.is ∙ sym also.is
    one_refusal e f (inr (inl nothing)) (inr (inr room)) = absurd (nothing.dead (start_live room.kept room.keeps))
    one_refusal e f (inr (inr room)) (inl fault) = absurd (none-some _ (sym room.keeps.sound ∙ fault))
    one_refusal e f (inr (inr room)) (inr (inl nothing)) = absurd (nothing.dead (start_live room.kept room.keeps))
    one_refusal e f (inr (inr room)) (inr (inr also)) = room.is ∙ sym also.is

    not_both : (counts : ℕ × ℕ) (out' : Outputs) (e : Refusal) → WritesTables T domains permitted out counts out' → Refused e → ⊥
    not_both counts out' e a (inl fault) = none-some _ (sym a.keeps.sound ∙ fault)
    not_both counts out' e a (inr (inl nothing)) = nothing.dead (start_live a.kept a.keeps)
    not_both counts out' e a (inr (inr room)) =
        let same = one_kept a.kept room.kept a.keeps room.keeps in
        both_ways (tables_fit (trimmed T permitted a.kept) out) (ap (λ (kept : ℕ → Bool). tables_fit (trimmed T permitted kept) out) same ∙ room.short) a.room

    one_answer : (counts other : ℕ × ℕ) (one two : Outputs) → WritesTables T domains permitted out counts one → WritesTables T domains permitted out other two → (counts ≡ other) × (one ≡ two)
    one_answer counts other one two a b =
        let same : trimmed T permitted a.kept ≡ trimmed T permitted b.kept = ap (trimmed T permitted) (one_kept a.kept b.kept a.keeps b.keeps) in
        let states : counts.0 ≡ other.0 = a.states ∙ ap (λ (U : Tables). U.states) same ∙ sym b.states in
        let rows : counts.1 ≡ other.1 = a.rows ∙ ap (λ (U : Tables). U.rows) same ∙ sym b.rows in
        (λ i. (states i, rows i), a.after ∙ ap (λ (U : Tables). written U out) same ∙ sym b.after)

pub one_trimming : OneTrimming
unfolding OneTrimming
one_trimming T domains permitted out (Ok counts) (Ok other) one two first second =
    let same = one_answer T domains permitted out counts other one two first second in
    (ap Ok same.0, same.1)
one_trimming T domains permitted out (Ok counts) (Err f) one two first second = absurd (not_both T domains permitted out counts one f first second.0)
one_trimming T domains permitted out (Err e) (Ok other) one two first second = absurd (not_both T domains permitted out other two e second first.0)
one_trimming T domains permitted out (Err e) (Err f) one two first second = (ap Err (one_refusal T domains permitted out e f first.0 second.0), first.1 ∙ sym second.1)
