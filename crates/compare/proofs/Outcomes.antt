-- Each call has one outcome. Assumes nothing.
use Rattle.std.proofs.Common.{◌≡◌, ℕ, Bool, true, false, cond, List, Some, Ok, Err, Decides, Option, Result, sym, refl, ap, ◌∙◌, subst}
use Rattle.std.proofs.lemmas.Option.{none-some, same_Some}
use Rattle.refusal.specs.declared.fault.Refusal.{Refusal}
use Rattle.compare.specs.declared.area.Area.{Area}
use Rattle.compare.specs.declared.claim.Lease.{Lease}
use Rattle.compare.specs.declared.claim.Numbers.{Numbers}
use Rattle.compare.specs.declared.conclude.Concluded.{Concluded}
use Rattle.compare.specs.declared.conclude.Concluded.TheVariants as concluded
use Rattle.compare.specs.declared.phase.Kind.{Kind}
use Rattle.compare.specs.declared.phase.Phase.TheVariants as phase
use Rattle.compare.specs.declared.phase.Verdict.TheVariants as verdict
use Rattle.compare.specs.Concluding.{Concludes}
use Rattle.compare.specs.Outcomes.{SameConclusion, OneBeginning, OneConclusion, OneGivingUp, OneTrailing}
use Rattle.compare.specs.Trailing.{TrailAnswer, broken_index}
use Rattle.compare.specs.View.{View, view, begun, free, in_phase, held_by}
use Rattle.compare.proofs.Trails.{one_trail}
use Rattle.compare.proofs.Views.{determined}

-- the view of an area says all
pub view_determines : (a b : Area) → view a ≡ view b → a ≡ b
view_determines a b same =
    let pairs : a.pairs ≡ b.pairs = determined a.pairs b.pairs (ap (λ (w : View). w.firsts) same) (ap (λ (w : View). w.seconds) same) (ap (λ (w : View). w.pairs) same) in
    λ i. record { number = (same i).number; serial = (same i).serial; phase = (same i).phase; symbols = (same i).symbols; pairs = pairs i; examined = (same i).examined }

-- of two answers to one question that are both exact, both are yes or both are no
pub same_decision : {P : Type 0} (b c : Bool) → Decides b P → Decides c P → b ≡ c
same_decision true c first second = sym (second.1 (first.0 refl))
same_decision false true first second = first.1 (second.0 refl)
same_decision false false first second = refl

-- numbers by their parts
same_numbers : (n m : Numbers) → n.area ≡ m.area → n.serial ≡ m.serial → n ≡ m
same_numbers n m area serial = λ i. record { area = area i; serial = serial i }

pub one_beginning : OneBeginning
unfolding OneBeginning
one_beginning e T U sets a (Ok claim) (Ok other) b c first second =
    let f = first.1 in
    let g = second.1 in (
      same_numbers claim.numbers other.numbers (f.number ∙ sym g.number) (f.serial ∙ sym g.serial),
      view_determines b c (f.after ∙ ap (begun (view a) T U) (same_decision f.live g.live f.decides g.decides) ∙ sym g.after),
    )
one_beginning e T U sets a (Ok claim) (Err s) b c first second = absurd (none-some _ (sym first.0 ∙ second.0))
one_beginning e T U sets a (Err r) (Ok other) b c first second = absurd (none-some _ (sym second.0 ∙ first.0))
one_beginning e T U sets a (Err r) (Err s) b c first second = (same_Some _ _ (sym first.0 ∙ second.0), first.1 ∙ sym second.1)

-- included and apart are two verdicts, and apart has one kind
not_both : (w : View) (k : Kind) → w.phase ≡ phase.Ready verdict.Included → w.phase ≡ phase.Ready (verdict.Apart k) → ⊥
not_both w k included apart = let clash : phase.Ready verdict.Included ≡ phase.Ready (verdict.Apart k) = sym included ∙ apart in cc

one_kind : (w : View) (k l : Kind) → w.phase ≡ phase.Ready (verdict.Apart k) → w.phase ≡ phase.Ready (verdict.Apart l) → k ≡ l
one_kind w k l first second = let same : phase.Ready (verdict.Apart k) ≡ phase.Ready (verdict.Apart l) = sym first ∙ second in cc

one_concluded : (w : View) (r s : Concluded) (v u : View) → Concludes w r v → Concludes w s u → SameConclusion r s × (v ≡ u)
one_concluded w (concluded.Included n) (concluded.Included m) v u f g = (f.1 ∙ sym g.1, f.2 ∙ sym g.2)
one_concluded w (concluded.Included n) (concluded.Apart l m d) v u f g = absurd (not_both w l f.0 g.0)
one_concluded w (concluded.Apart k n c) (concluded.Included m) v u f g = absurd (not_both w k g.0 f.0)
one_concluded w (concluded.Apart k n c) (concluded.Apart l m d) v u f g =
    let kind = one_kind w k l f.0 g.0 in
    ((kind, f.1 ∙ sym g.1, same_numbers c.numbers d.numbers (f.2 ∙ sym g.2) (f.3 ∙ sym g.3)), f.4 ∙ ap (λ (j : Kind). in_phase w (phase.Apart j)) kind ∙ sym g.4)

-- refusals that hand the claim back are one
one_refusal : {S : Type 0} (claim : Lease S) (o : Option Refusal) (r s : Refusal × Lease S) → o ≡ Some r.0 → r.1 ≡ claim → o ≡ Some s.0 → s.1 ≡ claim → r ≡ s
one_refusal {S} claim o r s first back second also = let same = same_Some _ _ (sym first ∙ second) in λ i. (same i, (back ∙ sym also) i)

pub one_conclusion : OneConclusion
unfolding OneConclusion
one_conclusion a claim (Ok r) (Ok s) b c first second = let one = one_concluded (view a) r s (view b) (view c) first.1 second.1 in (one.0, view_determines b c one.1)
one_conclusion a claim (Ok r) (Err f) b c first second = absurd (none-some _ (sym first.0 ∙ second.0))
one_conclusion a claim (Err e) (Ok s) b c first second = absurd (none-some _ (sym second.0 ∙ first.0))
one_conclusion a claim (Err e) (Err f) b c first second = (one_refusal claim _ e f first.0 first.1 second.0 second.1, first.2 ∙ sym second.2)

pub one_giving_up : OneGivingUp
unfolding OneGivingUp
one_giving_up a claim (Ok n) (Ok m) b c first second = by (held_by (view a) claim.serial) first.1 second.1
  where
    by : (h : Bool) → cond h ((n ≡ 1) × (view b ≡ free a.number a.serial)) ((n ≡ 0) × (b ≡ a)) → cond h ((m ≡ 1) × (view c ≡ free a.number a.serial)) ((m ≡ 0) × (c ≡ a)) → (◌≡◌ {A = Result ℕ Refusal} (Ok n) (Ok m)) × (b ≡ c)
    by true f g = (ap Ok (f.0 ∙ sym g.0), view_determines b c (f.1 ∙ sym g.1))
    by false f g = (ap Ok (f.0 ∙ sym g.0), f.1 ∙ sym g.1)
one_giving_up a claim (Ok n) (Err f) b c first second = absurd (none-some _ (sym first.0 ∙ second.0))
one_giving_up a claim (Err e) (Ok m) b c first second = absurd (none-some _ (sym second.0 ∙ first.0))
one_giving_up a claim (Err e) (Err f) b c first second = (ap Err (same_Some _ _ (sym first.0 ∙ second.0)), first.1 ∙ sym second.1)

one_answer : (w : View) (claim : Numbers) (output v : List ℕ) (r s : Result ℕ Refusal) (one other : List ℕ) → TrailAnswer w claim output v r one → TrailAnswer w claim output v s other → (r ≡ s) × (one ≡ other)
one_answer w claim output v (Ok n) (Ok m) one other f g = (ap Ok (f.1 ∙ sym g.1), f.2 ∙ sym g.2)
one_answer w claim output v (Ok n) (Err t) one other f g = absurd (none-some _ (sym f.0 ∙ g.0))
one_answer w claim output v (Err e) (Ok m) one other f g = absurd (none-some _ (sym g.0 ∙ f.0))
one_answer w claim output v (Err e) (Err t) one other f g = (ap Err (same_Some _ _ (sym f.0 ∙ g.0)), f.1 ∙ sym g.1)

pub one_trailing : OneTrailing
unfolding OneTrailing
one_trailing a claim output r s one other (v, trail, first) (u, also, second) =
    let same : u ≡ v = one_trail (view a).pairs (broken_index (view a)) u v also trail in
    one_answer (view a) claim output v r s one other first (subst (λ (x : List ℕ). TrailAnswer (view a) claim output x s other) same second)
