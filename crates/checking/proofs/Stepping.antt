-- One symbol more, by what is known of the next row and the next state. Assumes nothing.
use Rattle.std.proofs.Common.{◌≡◌, ℕ, ◌-◌, length, Some, None, Option, refl, ap, ◌∙◌, length-set}
use Rattle.codec.specs.declared.item.Level.{Level}
use Rattle.codec.specs.Items.{Progress, input, kept, Keeps}
use Rattle.codec.specs.Piles.{Stack, slots, topmost}
use Rattle.codec.proofs.Slots.{same_slots}
use Rattle.schema.specs.Automata.{Automaton}
use Rattle.checking.specs.declared.cursor.Cursor.{Cursor}
use Rattle.checking.specs.Steps.{both_known, TakesSymbol}

module _ (A : Automaton) (a q : ℕ) (before : Progress Cursor) (answer : Option ℕ) (top : Option (Level Cursor)) (f : Level Cursor) (so_far : answer ≡ Some q) (on : top ≡ Some f) where
  -- over the level on top
  over : (answer' : Option ℕ) (after : Progress Cursor) → both_known (A.step f.at.state f.at.row a) (A.next f.at.state a) f.at.state before answer' after → TakesSymbol A a answer top before answer' after
  over answer' after h = rw (so_far, on) h

  pub no_row : (answer' : Option ℕ) → A.step f.at.state f.at.row a ≡ None → answer' ≡ None → TakesSymbol A a answer top before answer' before
  no_row answer' none is = over answer' before (rw (none) (is, refl))

  pub no_state : (r : ℕ) (answer' : Option ℕ) → A.step f.at.state f.at.row a ≡ Some r → A.next f.at.state a ≡ None → answer' ≡ None → TakesSymbol A a answer top before answer' before
  no_state r answer' row none is = over answer' before (rw (row, none) (is, refl))

  pub goes_on : (r p : ℕ) (after : Progress Cursor) → A.step f.at.state f.at.row a ≡ Some r → A.next f.at.state a ≡ Some p → Keeps (record { state = f.at.state; row = r }) before after → TakesSymbol A a answer top before (Some p) after
  goes_on r p after row state keeps = over (Some p) after (rw (row, state) (refl, keeps))

-- a reader that is where it was, with as many levels
pub record Unmoved (before after : Progress Cursor) : Type 0 where
  pub same_input : input after ≡ input before
  pub same_left : after.left ≡ before.left
  pub same_depth : length after.levels.entries ≡ length before.levels.entries
  pub same_room : slots after.levels ≡ slots before.levels

kept_many : (at : Cursor) (top : Option (Level Cursor)) (before after : Stack (Level Cursor)) → kept at top before after → (length after.entries ≡ length before.entries) × (slots after ≡ slots before)
kept_many at (Some f) before after k =
    (ap length k.entries ∙ length-set before.entries (length before.entries - 1) _, same_slots before _ after k)
kept_many at None before after k = (ap (λ (p : Stack (Level Cursor)). length p.entries) k, ap slots k)

same_reader : (before after : Progress Cursor) → after ≡ before → Unmoved before after
same_reader before after same =
    record {
      same_input = ap input same;
      same_left = ap (λ (p : Progress Cursor). p.left) same;
      same_depth = ap (λ (p : Progress Cursor). length p.levels.entries) same;
      same_room = ap (λ (p : Progress Cursor). slots p.levels) same;
    }

both_unmoved : (next_row next_state : Option ℕ) (q : ℕ) (before : Progress Cursor) (answer' : Option ℕ) (after : Progress Cursor) → both_known next_row next_state q before answer' after → Unmoved before after
both_unmoved (Some r) (Some p) q before answer' after k =
    let many = kept_many _ (topmost before.levels.entries) before.levels after.levels k.1.levels in
    record {
      same_input = rw (k.1.read, k.1.left) refl;
      same_left = k.1.left;
      same_depth = many.0;
      same_room = many.1;
    }
both_unmoved (Some r) None q before answer' after k = same_reader before after k.1
both_unmoved None o q before answer' after k = same_reader before after k.1

-- a symbol's step leaves the reader where it is
pub unmoved : (A : Automaton) (a : ℕ) (answer : Option ℕ) (top : Option (Level Cursor)) (before : Progress Cursor) (answer' : Option ℕ) (after : Progress Cursor) → TakesSymbol A a answer top before answer' after → Unmoved before after
unmoved A a (Some q) (Some f) before answer' after k = both_unmoved (A.step f.at.state f.at.row a) (A.next f.at.state a) f.at.state before answer' after k
unmoved A a (Some q) None before answer' after k = same_reader before after k.1
unmoved A a None top before answer' after k = same_reader before after k.1
