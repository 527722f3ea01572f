-- What the tests of the call tell, and the area's document as it is traced. Assumes nothing.
use Rattle.std.proofs.Common.{◌≡◌, ℕ, ◌+◌, ◌<◌, ◌≤◌, Bool, List, [], length, Some, None, Ok, Err, Option, Result, sym, refl, ap, ◌∙◌, subst, inr}
use Rattle.std.specs.Option.{ok_or}
use Rattle.std.proofs.lemmas.Bool.{and_parts, eqb-true, ltb-false, not-false}
use Rattle.std.proofs.lemmas.Option.{none-some}
use Rattle.refusal.specs.declared.fault.Refusal.{Refusal}
use Rattle.codec.specs.declared.item.Level.{Level}
use Rattle.codec.specs.Piles.{Stack}
use Rattle.codec.specs.Trees.{Tree}
use Rattle.schema.specs.Automata.{Automaton}
use Rattle.schema.specs.declared.tables.Schema.{Schema}
use Rattle.schema.specs.Tables.{Tables, tables, sets}
use Rattle.schema.proofs.Sound.{first_none}
use Rattle.compare.specs.declared.area.Area.{Area}
use Rattle.compare.specs.declared.claim.Numbers.{Numbers}
use Rattle.compare.specs.declared.pairs.Listed.{Listed}
use Rattle.compare.specs.declared.pairs.Pairs.{Pairs}
use Rattle.compare.specs.declared.phase.Kind.{Kind}
use Rattle.compare.specs.declared.writing.BrokenPair.{BrokenPair}
use Rattle.compare.specs.declared.compared.Compared.{Compared}
use Rattle.compare.specs.Schemas.{Inside}
use Rattle.schema.specs.Meaning.{tables_of}
use Rattle.compare.specs.Listing.{entries_of}
use Rattle.compare.specs.Refusals.{other_counts, held_kept_from}
use Rattle.compare.specs.Trailing.{broken_index}
use Rattle.compare.specs.View.{View, view}
use Rattle.compare.specs.Writing.{write_kept_from, BrokenOf}
use Rattle.compare.proofs.Allowing.{fails, held_allows}
use Rattle.samples.specs.declared.node.NodeKey.{NodeKey}
use Rattle.samples.specs.declared.output.Output.{Output}
use Rattle.document.specs.Documents.{DocumentOf}
use Rattle.samples.specs.Writing.{Leaves}
use Rattle.samples.specs.Outputs.{Appended}
use Rattle.document.specs.declared.document.TheConstants.{LEVELS}
use Rattle.document.specs.Writing.{document_kept_from, short_levels, DocumentAnswer, DocumentIn, Documenting, FoundDocument, NoDocument, TreeAnswer}

-- what is said of tested schemas is said of those that were handed over
pub handed_over : {D : Type 0} (holds : D → ℕ → Bool) (s s' u u' : Schema D) → s ≡ s' → u ≡ u' → (claim : Numbers) (slots levels : ℕ) (a : Area) (o : List ℕ) (r : Result ℕ Refusal) (o' : List ℕ) → Documenting (tables s) (tables u) (sets holds s) (sets holds u) claim slots levels a o r o' → Documenting (tables s') (tables u') (sets holds s') (sets holds u') claim slots levels a o r o'
handed_over {D} holds s s' u u' first second claim slots levels a o r o' d =
    subst (λ (x : Schema D). Documenting (tables x) (tables u') (sets holds x) (sets holds u') claim slots levels a o r o') first
    (subst (λ (y : Schema D). Documenting (tables s) (tables y) (sets holds s) (sets holds y) claim slots levels a o r o') second d)

-- what is there where it was taken for good, and where not
pub ok_there : {X E : Type 0} (o : Option X) (e : E) (x : X) → Ok x ≡ ok_or o e → o ≡ Some x
ok_there (Some y) e x is = let same : x ≡ y = cc in ap Some (sym same)
ok_there None e x is = absurd (cc)

pub err_none : {X E : Type 0} (o : Option X) (e y : E) → Err y ≡ ok_or o e → (o ≡ None) × (y ≡ e)
err_none (Some x) e y is = absurd (cc)
err_none None e y is = (refl, cc)

module _ (w : View) (T U : Tables) (claim : Numbers) (slots levels : ℕ) where
  -- where nothing is refused the counts are those noted, and what is lent suffices
  pub allowed_by : document_kept_from w T U claim slots levels ≡ None → (other_counts w T U ≡ None) × (LEVELS ≤ levels)
  allowed_by none =
      let write = first_none (write_kept_from w T U claim slots) _ none in
      let held = first_none (held_kept_from w T U claim) _ write.0 in
      let last = first_none (short_levels levels) [] write.1 in
      ((held_allows w T U claim held.0).1, ltb-false levels LEVELS (fails _ _ last.0))

-- the state counts noted are those of the schemas
pub counts_of : (w : View) (T U : Tables) → other_counts w T U ≡ None → (w.firsts ≡ T.states) × (w.seconds ≡ U.states)
counts_of w T U none =
    let all = not-false _ (fails _ _ none) in
    let others = and_parts _ _ (and_parts _ _ all).1 in
    (eqb-true w.firsts T.states others.0, eqb-true w.seconds U.states others.1)

module _ (A B : Automaton) (a : Area) (b : BrokenPair) (of : BrokenOf a (Some b)) where
  -- the document that is traced is the area's
  pub found_in : (path : List Listed) (t : Tree) → DocumentOf A B b.kind (entries_of b.pairs.now) b.index path t → DocumentIn A B (view a) path t
  found_in path t d =
      let pairs = subst (λ (p : Pairs). DocumentOf A B b.kind (entries_of p) b.index path t) of.1 d in
      (b.kind, of.0, subst (λ (i : ℕ). DocumentOf A B b.kind (entries_of a.pairs) i path t) of.2 pairs)

  -- and where none is there the area has none
  pub none_in : ((path : List Listed) (t : Tree) → DocumentOf A B b.kind (entries_of b.pairs.now) b.index path t → ⊥) → NoDocument A B (view a)
  none_in none path t (k, phase, d) =
      let kinds : k ≡ b.kind = cc (phase, of.0) in
      let kind = subst (λ (x : Kind). DocumentOf A B x (entries_of a.pairs) (broken_index (view a)) path t) kinds d in
      let index = subst (λ (i : ℕ). DocumentOf A B b.kind (entries_of a.pairs) i path t) (sym of.2) kind in
      none path t (subst (λ (p : Pairs). DocumentOf A B b.kind (entries_of p) b.index path t) (sym of.1) index)

-- with the area's counts the list of pairs is inside those of the schemas
pub inside_of : {D : Type 0} (c : Compared D) (a : Area) (b : BrokenPair) → BrokenOf a (Some b) → other_counts (view a) (tables_of c.first.now) (tables_of c.second.now) ≡ None → Inside c b.pairs.now
inside_of c a b of none =
    let counts = counts_of (view a) (tables_of c.first.now) (tables_of c.second.now) none in
    record { firsts = ap (λ (p : Pairs). p.firsts) of.1 ∙ counts.0; seconds = ap (λ (p : Pairs). p.seconds) of.1 ∙ counts.1 }

-- what is answered of the area's document
pub answered : (A B : Automaton) (a : Area) (d : FoundDocument A B (view a)) (o : List ℕ) (r : Result ℕ Refusal) (o' : List ℕ) → TreeAnswer d.tree o r o' → DocumentAnswer A B (view a) o r o'
answered A B a d o (Ok n) o' so = (d, so)
answered A B a d o (Err e) o' so = (inr (d, so.0), so.1)

-- bytes were written
pub added_at : (bytes : List ℕ) (entries : List (Level NodeKey)) (before after : Output) (r : Option (Unit {0})) (levels : Stack (Level NodeKey)) (u : Unit {0}) → Leaves bytes entries before r levels after → r ≡ Some u → Appended bytes before after
added_at bytes entries before after (Some v) levels u wrote is = wrote.0
added_at bytes entries before after None levels u short is = absurd (none-some _ is)

-- or they had no room
pub crowded_at : (bytes : List ℕ) (entries : List (Level NodeKey)) (before after : Output) (r : Option (Unit {0})) (levels : Stack (Level NodeKey)) → Leaves bytes entries before r levels after → r ≡ None → length before.bytes.now < before.place + length bytes
crowded_at bytes entries before after (Some v) levels wrote is = absurd (none-some _ (sym is))
crowded_at bytes entries before after None levels short is = short
