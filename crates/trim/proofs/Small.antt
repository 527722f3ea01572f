-- The small schemas, trimmed. Assumes nothing.
use Rattle.std.proofs.Common.{false, refl}
use Rattle.std.proofs.lemmas.Option.{none-some}
use Rattle.schema.specs.Examples.{book, zero_and_zero}
use Rattle.schema.specs.Permitted.{permit}
use Rattle.schema.specs.Tables.{automaton}
use Rattle.schema.proofs.Dead.{leads_back_dead}
use Rattle.trim.specs.Examples.{SmallTrims}

pub small_trims : SmallTrims
small_trims =
    record {
      no_symbol = refl;
      all_of_book = refl;
      second_symbol = refl;
      both_symbols = refl;
      idle_stays = refl;
      book_without_pages = record {
        sound = refl;
        dead = leads_back_dead.general (permit (λ a. false) (automaton book zero_and_zero)) 0 refl (λ a s is. absurd (none-some s is));
        is = refl;
      };
    }
