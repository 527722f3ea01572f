-- What the node on top goes on with does not depend on what a new level would hold. Assumes nothing.
use Rattle.codec.proofs.reader.Reader.next.Goals as goal

pub returns-else-self : goal.returns-else-self
returns-else-self g c = c.go_on.ensures c.args.at
