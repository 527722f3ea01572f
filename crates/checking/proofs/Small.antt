-- The inputs of the page on the encoding, tried. Assumes nothing.
use Rattle.std.proofs.Common.{refl}
use Rattle.checking.specs.Examples.{SmallChecks}

pub small_checks : SmallChecks
small_checks =
    record {
      yes = refl;
      a_child = refl;
      another_value = refl;
      long_zero = refl;
      no_byte = refl;
      no_count = refl;
      long_count = refl;
      no_symbol = refl;
      no_level = refl;
      no_level_at_end = refl;
      no_child_left = refl;
      bytes_left = refl;
      no_and_bytes_left = refl;
      tables_first = refl;
      two_children = refl;
    }
