-- Bytes written on a output one part behind the other. Assumes nothing.
use Rattle.std.proofs.Common.{◌≡◌, ℕ, ◌+◌, ◌<◌, List, [], ◌++◌, length, Some, None, Option, sym, ap, ◌∙◌, arith}
use Rattle.std.proofs.lemmas.List.{length-append}
use Rattle.codec.specs.Numbers.{overwritten}
use Rattle.codec.proofs.Writing.{over_none, over_length, over_join}
use Rattle.samples.specs.declared.output.Output.{Output}
use Rattle.samples.specs.Outputs.{Within, Appended, Appends}

-- nothing written
pub added_none : (s : Output) → Within s → Appended [] s s
added_none s within =
    record {
      written = record {
        room = omega (arith, within);
        next_place = omega arith;
        after = sym (over_none s.bytes.now s.place);
      };
      lent = λ i. s.bytes.ghost_name;
    }

-- an output stays as long as it is
pub added_length : (bytes : List ℕ) (before after : Output) → Appended bytes before after → length after.bytes.now ≡ length before.bytes.now
added_length bytes before after w = ap length w.written.after ∙ over_length before.bytes.now before.place bytes w.written.room

-- and its place stays in it
pub added_within : (bytes : List ℕ) (before after : Output) → Appended bytes before after → Within after
added_within bytes before after w = omega (arith, added_length bytes before after w, w.written.room, w.written.next_place)

module _ (some more : List ℕ) (before middle : Output) (w : Appended some before middle) where
  -- more bytes behind some
  pub added_more : (after : Output) → Appended more middle after → Appended (some ++ more) before after
  added_more after x =
      record {
        written = record {
          room = omega (arith, length-append some more, added_length some before middle w, w.written.next_place, x.written.room);
          next_place = omega (arith, length-append some more, w.written.next_place, x.written.next_place);
          after = x.written.after
              ∙ ap (λ (l : List ℕ). overwritten l middle.place more) w.written.after
              ∙ ap (λ (p : ℕ). overwritten (overwritten before.bytes.now before.place some) p more) w.written.next_place
              ∙ over_join before.bytes.now before.place some more w.written.room;
        };
        lent = x.lent ∙ w.lent;
      }

  -- where more bytes have no room behind some, both have none
  pub crowded_more : length middle.bytes.now < middle.place + length more → length before.bytes.now < before.place + length (some ++ more)
  crowded_more short = omega (arith, length-append some more, added_length some before middle w, w.written.next_place, short)

  pub adds_more : (r : Option (Unit {0})) (after : Output) → Appends more middle r after → Appends (some ++ more) before r after
  adds_more (Some u) after x = added_more after x
  adds_more None after short = crowded_more short

-- where bytes have no room, they and more have none
pub crowded_front : (some more : List ℕ) (before : Output) → length before.bytes.now < before.place + length some → length before.bytes.now < before.place + length (some ++ more)
crowded_front some more before short = omega (arith, length-append some more, short)
