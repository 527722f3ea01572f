-- The value and the count of the root are those of the sample. Assumes nothing.
use Rattle.std.proofs.Common.{◌≡◌, ℕ, ◌<◌, sym, ◌∙◌}
use Rattle.std.proofs.lemmas.Option.{none-some}
use Rattle.codec.specs.Trees.{node, Children, many}
use Rattle.schema.specs.Automata.{Automaton}
use Rattle.samples.specs.Samples.{Sample}
use Rattle.samples.specs.Kept.{Sampled}
use Rattle.samples.proofs.Growing.{sample_live}
use Rattle.samples.proofs.Turning.{root_head, begins, crowded_head}
use Rattle.samples.proofs.writing.begin.Goals as goal
use Rattle.samples.proofs.writing.begin.Goals.{After-len-count}

-- the root's value and its number of symbols are the sample's
same : (c : After-len-count) (A : Automaton) (n v : ℕ) (cs : Children) → Sampled A n c.args.samples.now → c.args.state < n → Sample A c.args.state (node v cs) → (c.in_ok-root.root.value ≡ v) × (c.len-count.result ≡ many cs)
same c A n v cs has low s =
    let head = root_head A c.args.state c.root.result c.in_ok-root.root (c.root.ensures A n has low (sample_live A c.args.state (node v cs) s)) c.in_ok-root.was v cs s in
    (head.0, c.len-count.ensures.count ∙ head.1)

pub returns-in_err-root-clause-begins : goal.returns-in_err-root-clause-begins
returns-in_err-root-clause-begins c = λ A n v cs has low s space.
    let found = c.root.ensures A n has low (sample_live A c.args.state (node v cs) s) in
    absurd (none-some _ (sym c.in_err-root.was ∙ found.1))

pub returns-in_err-head-clause-begins : goal.returns-in_err-head-clause-begins
returns-in_err-head-clause-begins c = λ A n v cs has low s space.
    let is = same (goal.at.returns-in_err-head-clause-begins c).After-len-count A n v cs has low s in
    rw c.from_residual-in_err-head.ensures (crowded_head v c.in_ok-root.root.value c.len-count.result cs is.0 is.1 c.args.output.now c.in_err-head.ensures)

pub returns-clause-begins : goal.returns-clause-begins
returns-clause-begins c = λ A n v cs has low s space.
    let is = same (goal.at.returns-clause-begins c).After-len-count A n v cs has low s in
    rw c.then_some.ensures (begins v c.in_ok-root.root.value c.len-count.result cs is.0 is.1 c.args.output.now _ c.args.state c.args.levels.now _ _ c.in_ok-head.ensures c.push.ensures space)
