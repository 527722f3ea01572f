-- What the joint has alone is what each half has alone. Assumes nothing.
use Rattle.domain.proofs.Same.{smallest_of_same, joined_alone}
use Rattle.domain.proofs.joint.JointDomain.gap.Goals as goal

pub returns : goal.returns
returns g c =
    let left = g.L.Domain.holds in
    let right = g.R.Domain.holds in
    let a = c.args.self.now in
    let b = c.args.other.now in
    smallest_of_same _ _ c.lower.result (λ v _. joined_alone (left a.left) (right a.right) (left b.left) (right b.right) v)
    (c.lower.ensures _ _ c.gap.ensures c.gap-2.ensures)
