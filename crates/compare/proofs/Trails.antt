-- The trail of a listed pair: there is one, and just one, and what is written of it. Assumes nothing.
use Rattle.std.proofs.Common.{◌≡◌, ℕ, ◌+◌, ◌-◌, ◌<◌, Bool, true, false, cond, ltb, List, [], ◌∷◌, length, set, None, Some, Option, sym, refl, ap, ◌∙◌, arith}
use Rattle.std.proofs.lemmas.List.{length-append}
use Rattle.std.proofs.lemmas.Bool.{ltb-true}
use Rattle.codec.specs.Numbers.{overwritten}
use Rattle.codec.proofs.Writing.{over_none, over_set}
use Rattle.refusal.specs.declared.fault.Refusal.{Refusal}
use Rattle.refusal.specs.Order.{first_of}
use Rattle.search.proofs.Paths.{one_word, some_word, word_at_first, word_ends, word_parent}
use Rattle.compare.specs.declared.area.Area.{Area}
use Rattle.compare.specs.declared.pairs.Listed.{Listed}
use Rattle.compare.specs.Listing.{entries_of, pair_links}
use Rattle.compare.specs.Trailing.{Trail, OneTrail, EveryTrail, TrailWritten, led_to, broken_index}
use Rattle.compare.specs.View.{view}
use Rattle.compare.proofs.Views.{entries_fit}

-- no entry has two trails
pub one_trail : OneTrail
one_trail es i v w s t = one_word pair_links es i v w s t

-- every listed pair has one
pub every_trail : EveryTrail
every_trail p i inside = some_word pair_links (entries_of p) (λ j e there low. (entries_fit p j e there).led low) i inside

-- the broken pair has a trail
pub broken_trail : (a : Area) → (w : List ℕ) × Trail (view a).pairs (broken_index (view a)) w
broken_trail a = by (ltb (a.examined - 1) (length (entries_of a.pairs))) refl
  where
    by : (t : Bool) → ltb (a.examined - 1) (length (entries_of a.pairs)) ≡ t → (w : List ℕ) × Trail (entries_of a.pairs) (cond t (a.examined - 1) 0) w
    by true inside = every_trail a.pairs (a.examined - 1) (ltb-true (a.examined - 1) (length (entries_of a.pairs)) inside)
    by false past = ([], word_at_first pair_links (entries_of a.pairs))

module _ (es : List Listed) (i : ℕ) where
  -- nothing is written of an empty trail
  pub written_none : led_to es i ≡ None → (output : List ℕ) → TrailWritten es i output 0 output
  written_none none output w t room =
      let empty = word_ends pair_links es i none w t in
      (sym (ap length empty), sym (ap (overwritten output 0) empty ∙ over_none output 0))

  -- behind the parent's trail the entry's symbol is written
  pub written_more : (e : Listed) (n : ℕ) (before out after : List ℕ) → led_to es i ≡ Some e → TrailWritten es e.parent before n out → (n < length before → after ≡ set out n e.symbol) → TrailWritten es i before (n + 1) after
  written_more e n before out after is so put w t room =
      let v = word_parent pair_links es i e is w t in
      let long : length w ≡ length v.0 + 1 = ap length v.2 ∙ length-append v.0 (e.symbol ∷ []) in
      let below = so v.0 v.1 (omega (arith, long, room)) in
      let place : n ≡ 0 + length v.0 = omega (arith, below.0) in (
        omega (arith, long, below.0),
        put (omega (arith, long, room, below.0)) ∙ ap (λ (l : List ℕ). set l n e.symbol) below.1 ∙ ap (λ (k : ℕ). set (overwritten before 0 v.0) k e.symbol) place
            ∙ over_set before 0 v.0 e.symbol (omega (arith, long, room)) ∙ ap (overwritten before 0) (sym v.2),
      )

-- of two tests the first finds nothing
pub found_next : (o p q : Option Refusal) → o ≡ None → p ≡ q → first_of (o ∷ p ∷ []) ≡ q
found_next o p q none is = ap (λ (r : Option Refusal). first_of (r ∷ p ∷ [])) none ∙ by p ∙ is
  where
    by : (r : Option Refusal) → first_of (r ∷ []) ≡ r
    by (Some e) = refl
    by None = refl
