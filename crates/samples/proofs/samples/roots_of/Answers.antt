-- One state more has its root, where it is live.
use Rattle.std.proofs.Common.{◌≡◌, ℕ, ◌<◌, true, Some, None, Option, length, sym, ◌∙◌, subst, ⊎_elim, arith, get_or-set_same, get_or-set_other, length-set}
use Rattle.std.proofs.Math.ListN.{set}
use Rattle.std.proofs.lemmas.Bool.{cases_lt}
use Rattle.std.proofs.lemmas.List.{length-replicate}
use Rattle.bits.specs.Bits.{bit}
use Rattle.schema.specs.Meaning.{meaning}
use Rattle.samples.specs.Kept.{noted_at, Root, RootOf}
use Rattle.samples.proofs.Tested.{few_states}
use Rattle.samples.proofs.samples.roots_of.Goals as goal

pub loop-state-init : goal.loop-state-init
loop-state-init g c = record { long = length-replicate {A = Option Root} 64 None; rooted = λ ranked q low. absurd (omega (arith, low)) }

pub loop-state-preserved : goal.loop-state-preserved
loop-state-preserved g c =
    let roots = c.loop-state.roots in
    let state = c.loop-state.state in
    let o = c.root_of.result in
    let A = meaning g.D.Domain.holds c.args.tested.now in
    let At : ℕ → Type 0 = λ p. (s : Root) × (noted_at (set roots state o) p ≡ Some s) × RootOf A p s in
    record {
      long = length-set roots state o ∙ c.loop-state.invariant.long;
      rooted = λ ranked q low live.
          let inside : state < length roots = omega (arith, c.loop-state.invariant.long) in
          ⊎_elim {C = At q}
          (λ under. let s = c.loop-state.invariant.rooted ranked q under live in (s.0, get_or-set_other roots state q o None (λ e. omega (arith, e, under)) ∙ s.1, s.2))
          (λ last.
          let same : state ≡ q = omega (arith, last, low) in
          let s = c.root_of.ensures ranked (subst (λ (p : ℕ). bit c.args.ranks.now.live p ≡ true) (sym same) live) in
          subst At same (s.0, get_or-set_same roots state o None inside ∙ s.1, s.2))
          (cases_lt q state);
    }

pub returns : goal.returns
returns g c = λ ranked q low live.
    let few = few_states c.args.tested.now in
    c.loop-state.invariant.rooted ranked q (omega (arith, low, few)) ((ranked.live q).1 (low, live))
