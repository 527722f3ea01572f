-- The law over every history of an area. Assumes nothing.
use Rattle.compare.specs.declared.area.Area.{Area}
use Rattle.history.specs.Law.{EveryHistory}
use Rattle.history.proofs.Counting.{in_time}
use Rattle.history.proofs.Documented.{apart, documented}
use Rattle.history.proofs.Ousting.{holds, ousted, unchanged}
use Rattle.history.proofs.Tallies.{counted}
use Rattle.history.proofs.Verdicts.{concluded}
use Rattle.history.proofs.Writings.{written}

pub every_history : (a : Area) → EveryHistory a
every_history a =
    record {
      concluded = concluded a;
      counted = counted a;
      written = written a;
      apart = apart a;
      documented = documented a;
      in_time = in_time a;
      holds = holds a;
      ousted = ousted a;
      unchanged = unchanged a;
    }
