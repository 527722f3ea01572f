-- The tests in their order, and then the trail. Assumes nothing.
use Rattle.std.proofs.Common.{◌≡◌, ℕ, [], ◌∷◌, length, Some, None, sym, refl, ap, ◌∙◌, subst, arith}
use Rattle.std.proofs.lemmas.Bool.{cond-true, cond-false, lt-ltb, le-ltb}
use Rattle.refusal.specs.Order.{first_of}
use Rattle.compare.specs.declared.claim.Numbers.{Numbers}
use Rattle.compare.specs.declared.event.Event.TheVariants.{Write}
use Rattle.compare.specs.Concluding.{claim_refusal}
use Rattle.compare.specs.Trailing.{Trail, no_room}
use Rattle.compare.specs.View.{view}
use Rattle.compare.proofs.Trails.{broken_trail, found_next}
use Rattle.compare.proofs.trail.trail.Goals as goal

pub returns-in-Err-clause-outcome : goal.returns-in-Err-clause-outcome
returns-in-Err-clause-outcome g c =
    let s = view c.args.area.now in
    let w = broken_trail c.args.area.now in
    let told = ap (λ (n : Numbers). claim_refusal s n Write) (sym c.numbers.ensures) ∙ c.in-Err.ensures in
    (w.0, w.1, (ap (λ o. first_of (o ∷ no_room c.args.output.now w.0 ∷ [])) told, refl))

pub returns-then-output-needed-clause-outcome : goal.returns-then-output-needed-clause-outcome
returns-then-output-needed-clause-outcome g c =
    let s = view c.args.area.now in
    let output = c.args.output.now in
    let w = broken_trail c.args.area.now in
    let told = ap (λ (n : Numbers). claim_refusal s n Write) (sym c.numbers.ensures) ∙ c.in_default.ensures in
    let long : c.trail_length-needed.result ≡ length w.0 = c.trail_length-needed.ensures.count w.0 (subst (λ (i : ℕ). Trail s.pairs i w.0) (sym c.broken_index-index.ensures) w.1) in
    let room : no_room output w.0 ≡ Some c.at.result =
    cond-true _ _ _ (lt-ltb (length output) (length w.0) (omega (arith, long, c.if-output-needed.true))) ∙ ap (λ (k : ℕ). Some (record { fault = _; place = k })) (sym long) ∙ ap Some (sym c.at.ensures) in
    (w.0, w.1, (found_next (claim_refusal s c.args.claim.numbers Write) (no_room output w.0) (Some c.at.result) told room, refl))

pub returns-clause-outcome : goal.returns-clause-outcome
returns-clause-outcome g c =
    let s = view c.args.area.now in
    let output = c.args.output.now in
    let w = broken_trail c.args.area.now in
    let told = ap (λ (n : Numbers). claim_refusal s n Write) (sym c.numbers.ensures) ∙ c.in_default.ensures in
    let trail : Trail s.pairs c.broken_index-index.result w.0 = subst (λ (i : ℕ). Trail s.pairs i w.0) (sym c.broken_index-index.ensures) w.1 in
    let long : c.trail_length-needed.result ≡ length w.0 = c.trail_length-needed.ensures.count w.0 trail in
    let room : no_room output w.0 ≡ None = cond-false _ _ _ (le-ltb (length output) (length w.0) (omega (arith, long, c.if-output-needed.false))) in
    let put = c.write_trail-written.ensures.written w.0 trail (omega (arith, long, c.if-output-needed.false)) in
    (w.0, w.1, (found_next (claim_refusal s c.args.claim.numbers Write) (no_room output w.0) None told room, put.0, put.1))
