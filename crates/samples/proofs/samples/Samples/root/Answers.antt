-- What is noted is right.
use Rattle.std.proofs.Common.{◌∙◌}
use Rattle.samples.proofs.samples.Samples.root.Goals as goal

pub returns : goal.returns
returns c = λ A n has low live. let found = has.rooted c.args.state low live in (found.0, c.noted.ensures ∙ found.1, found.2)
