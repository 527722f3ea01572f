-- What is so of documents and of the call, whatever it is given. Assumes nothing.
use Rattle.std.specs.Prelude.{◌≡◌}
use Rattle.document.specs.declared.counterexample.TheConstants.{NODE_SYMBOLS}
use Rattle.document.specs.declared.document.TheConstants.{LEVELS}
use Rattle.document.specs.Documents.{HasDocument, OneDocument, TellsApart}
use Rattle.document.specs.Writing.{DocumentByNotHolder, OneDocumenting}

-- the laws of the call and of its documents
pub record DocumentLaws : Type 0 where
  pub once : OneDocumenting
  pub not_holder : DocumentByNotHolder
  pub apart : TellsApart
  pub one : OneDocument
  pub exists : HasDocument

-- the numbers of its constants
pub record DocumentLimits : Type 0 where
  pub levels : LEVELS ≡ 4160
  pub symbols : NODE_SYMBOLS ≡ 271
