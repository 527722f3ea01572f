-- One step of a reader, case by case. Assumes nothing.
use Rattle.std.proofs.Common.{◌≡◌, ℕ, ◌+◌, ◌-◌, ◌<◌, ◌≤◌, Bool, true, false, leb, List, [], ◌∷◌, ◌++◌, length, take, drop, Some, None, Ok, Err, Option, Result, sym, refl, ap, ◌∙◌, subst, inr, arith, length-drop, take-append-drop, Bor}
use Rattle.std.proofs.lemmas.List.{length_push, length-take-le, drop-drop}
use Rattle.std.proofs.lemmas.Bool.{leb-false, lt-ltb, cond-true}
use Rattle.refusal.specs.declared.fault.Refusal.{Refusal}
use Rattle.codec.specs.declared.item.Item.{Item}
use Rattle.codec.specs.declared.item.Item.TheVariants.{Value, Symbol, End}
use Rattle.codec.specs.declared.item.Level.{Level}
use Rattle.codec.specs.Items.{Progress, input, midway, Hands, Walks}
use Rattle.codec.specs.Numbers.{Got, got, read_number, Reads}
use Rattle.codec.specs.Piles.{Stack, slots, topmost, Pushed, Popped, Replaced}
use Rattle.codec.specs.Reading.{then}
use Rattle.codec.proofs.Slots.{top_split, top_none, over_top, same_slots, one_slot}

-- bytes from one place to the next, and those after
pub parted : (input : List ℕ) (p e : ℕ) → p ≤ e → drop p input ≡ take (e - p) (drop p input) ++ drop e input
parted input p e up =
    let there : p + (e - p) ≡ e = omega arith in
    sym (take-append-drop (e - p) (drop p input)) ∙ ap (λ (l : List ℕ). take (e - p) (drop p input) ++ l) (drop-drop (e - p) p input ∙ ap (λ (n : ℕ). drop n input) there)

pub part_some : (input : List ℕ) (p e : ℕ) (bytes : Bor (List ℕ)) → bytes.now ≡ take (e - p) (drop p input) → p < e → e ≤ length input → 0 < length bytes.now
part_some input p e bytes slice up within =
    omega (arith, ap length slice ∙ length-take-le (e - p) (drop p input) (omega (arith, length-drop p input)))

module _ {S : Type 0} (at : S) (bytes : List ℕ) where
  -- a reader over the bytes
  abbrev pub reader : ℕ → Bool → Stack (Level S) → Progress S
  reader place fresh levels = record { read = take place bytes; left = drop place bytes; fresh = fresh; levels = levels }

  module _ (place : ℕ) (fresh : Bool) (levels : Stack (Level S)) (within : place ≤ length bytes) where
    abbrev before : Progress S
    before = reader place fresh levels

    all : input before ≡ bytes
    all = take-append-drop place bytes

    -- what was handed out over all bytes is a step
    step : (r : Result (Option Item) Refusal) (place' : ℕ) (fresh' : Bool) (levels' : Stack (Level S)) → Hands (length bytes) (slots levels) at (midway before) r (midway (reader place' fresh' levels')) → slots levels' ≡ slots levels → Walks at before r (reader place' fresh' levels')
    step r place' fresh' levels' hands room =
        record {
          hands = subst (λ bs. Hands (length bs) (slots levels) at (midway before) r (midway (reader place' fresh' levels'))) (sym all) hands;
          same_input = take-append-drop place' bytes ∙ sym all;
          same_room = room;
        }

    pub opened : (v m n e : ℕ) (part : Bor (List ℕ)) (r : Bool) (levels' : Stack (Level S)) → fresh ≡ true → leb (length levels.free) 0 ≡ false → Reads bytes place (Ok (v, m)) → Reads bytes m (Ok (n, e)) → part.now ≡ take (e - place) (drop place bytes) → Pushed levels (record { left = n; at = at }) r levels' → Walks at before (Ok (Some (Value v n part))) (reader e false levels')
    opened v m n e part r levels' due left first second slice pushed =
        let space : 0 < length levels.free = leb-false _ _ left in
        let room : r ≡ true = pushed.room ∙ lt-ltb 0 (length levels.free) space in
        let deeper = pushed.entries ∙ cond-true r _ _ room in
        step _ e false levels'
        (record {
          due = due;
          space = omega (arith, space);
          reads = ap (λ (g : Got ℕ). then g (λ v rest. then (read_number (length bytes) rest) (λ n rest. got (v, n) rest))) first.0
              ∙ ap (λ (g : Got ℕ). then g (λ k rest. got (v, k) rest)) second.0;
          slice = parted bytes place e (omega (arith, first.1, second.1)) ∙ ap (λ (l : List ℕ). l ++ drop e bytes) (sym slice);
          some = part_some bytes place e part slice (omega (arith, first.1, second.1)) second.2;
          inside = refl;
          deeper = deeper;
        })
        (omega (arith, space, ap length deeper ∙ length_push levels.entries _, ap length (pushed.free ∙ cond-true r _ _ room) ∙ length-drop 1 levels.free))

    pub over : fresh ≡ false → topmost levels.entries ≡ None → Walks at before (Ok None) before
    over due none = step _ place fresh levels (record { due = due; none = top_none levels.entries none; same = refl }) refl

    module _ (top : Level S) (due : fresh ≡ false) (on : topmost levels.entries ≡ Some top) where
      abbrev below : List (Level S)
      below = take (length levels.entries - 1) levels.entries

      split : levels.entries ≡ below ++ top ∷ []
      split = top_split levels.entries top on

      pub closed : (r : Option (Level S)) (levels' : Stack (Level S)) → top.left ≡ 0 → Popped levels r levels' → Walks at before (Ok (Some End)) (reader place fresh levels')
      closed r levels' done popped =
          step _ place fresh levels'
          (record {
            due = due;
            top = top;
            on = split ∙ ap (λ (l : List (Level S)). l ++ top ∷ []) (sym popped.entries);
            done = done;
            same = refl;
            inside = due;
          })
          (one_slot levels r levels' popped)

      pub no_symbol : (e : Refusal) → 0 < top.left → Reads bytes place (Err e) → Walks at before (Err e) before
      no_symbol e more reads =
          step _ place fresh levels (inr (record { due = due; below = below; top = top; on = split; more = more; reads = reads }), refl) refl

      pub named : (s e : ℕ) (part : Bor (List ℕ)) (levels' : Stack (Level S)) → 0 < top.left → Reads bytes place (Ok (s, e)) → part.now ≡ take (e - place) (drop place bytes) → Replaced levels (record { left = top.left - 1; at = top.at }) levels' → Walks at before (Ok (Some (Symbol s part))) (reader e true levels')
      named s e part levels' more reads slice replaced =
          step _ e true levels'
          (record {
            due = due;
            below = below;
            top = top;
            on = split;
            more = more;
            reads = reads.0;
            slice = parted bytes place e (omega (arith, reads.1)) ∙ ap (λ (l : List ℕ). l ++ drop e bytes) (sym slice);
            some = part_some bytes place e part slice reads.1 reads.2;
            next = refl;
            fewer = over_top levels below top _ levels' split replaced;
          })
          (same_slots levels _ levels' replaced)
