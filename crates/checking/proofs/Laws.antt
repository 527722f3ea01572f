-- What holds of `check`, whatever it is handed. Assumes nothing.
use Rattle.codec.proofs.Codes.{reads_encodings}
use Rattle.schema.proofs.Bound.{accepted_is_bound}
use Rattle.checking.specs.Laws.{CheckLaws}
use Rattle.checking.proofs.Small.{small_checks}
use Rattle.checking.proofs.Trees.{checks_trees}

pub check_laws : CheckLaws
check_laws = record {
  trees = checks_trees;
  encodings = reads_encodings;
  bindings = accepted_is_bound;
  examples = small_checks;
}
