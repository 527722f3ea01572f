-- What holds of `check`, whatever it is handed. Assumes nothing.
use Rattle.codec.specs.Encoding.{ReadsEncodings}
use Rattle.schema.specs.Bindings.{AcceptedIsBound}
use Rattle.checking.specs.Checking.{ChecksTrees}
use Rattle.checking.specs.Examples.{SmallChecks}

-- what an answer says of trees, what reading accepts, what accepting means, and examples
pub record CheckLaws : Type 0 where
  pub trees : ChecksTrees
  pub encodings : ReadsEncodings
  pub bindings : AcceptedIsBound
  pub examples : SmallChecks
