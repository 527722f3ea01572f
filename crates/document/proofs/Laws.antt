-- The laws of the call and of its documents. Assumes nothing.
use Rattle.document.specs.Laws.{DocumentLaws}
use Rattle.document.proofs.Accepting.{tells_apart}
use Rattle.document.proofs.Existing.{has_document}
use Rattle.document.proofs.Outcomes.{document_by_not_holder, one_documenting}
use Rattle.document.proofs.Unique.{one_document}

pub document_laws : DocumentLaws
document_laws = record { once = one_documenting; not_holder = document_by_not_holder; apart = tells_apart; one = one_document; exists = has_document }
