-- Where no child comes after, nothing is written. Assumes nothing.
use Rattle.std.proofs.Common.{◌≡◌, ℕ, List, [], length, sym, refl, ap, ◌∙◌, subst, arith}
use Rattle.codec.specs.declared.item.Level.{Level}
use Rattle.codec.specs.Encoding.{children_bytes}
use Rattle.codec.specs.Trees.{Children, none, child, word}
use Rattle.samples.specs.declared.node.NodeKey.{NodeKey}
use Rattle.samples.specs.Outputs.{Appended}
use Rattle.samples.proofs.Outputs.{added_none}
use Rattle.document.proofs.counterexample.Counterexample.write_level_after.Goals as goal

no_bytes : (cs : Children) → length (word cs) ≡ 0 → children_bytes cs ≡ []
no_bytes none empty = refl
no_bytes (child a t cs) empty = absurd (omega (arith, empty))

pub returns-then-level-eq0-clause-written : goal.returns-then-level-eq0-clause-written
returns-then-level-eq0-clause-written g c = λ ready space within s is.
    let output = c.args.output.now in
    let empty : length (word s.context.after) ≡ 0 = sym (ap (λ (l : Level NodeKey). l.left) is) ∙ c.if-level-eq0.true in
    (subst (λ (l : List ℕ). Appended l output output) (sym (no_bytes s.context.after empty)) (added_none output within), refl)
