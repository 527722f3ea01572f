-- The node on top ends, or goes on with the next child, which is the first one left. Assumes nothing.
use Rattle.std.proofs.Common.{◌≡◌, ℕ, ◌+◌, ◌<◌, List, [], ◌∷◌, ◌++◌, length, Some, sym, ap, ◌∙◌, subst, arith}
use Rattle.std.proofs.lemmas.Option.{none-some, same_Some}
use Rattle.codec.specs.declared.item.Level.{Level}
use Rattle.codec.specs.Numbers.{number_bytes}
use Rattle.codec.specs.Piles.{topmost}
use Rattle.codec.specs.Trees.{node, Children, child, many, heights}
use Rattle.codec.proofs.Slots.{topmost_of, over_top}
use Rattle.samples.specs.declared.node.NodeKey.{NodeKey}
use Rattle.samples.specs.declared.writing.Child.{Child}
use Rattle.schema.specs.Meaning.{meaning, states_of}
use Rattle.samples.specs.Samples.{Sample}
use Rattle.samples.specs.Writing.{head_bytes, level_of, LastOf, Leaves}
use Rattle.samples.specs.Kept.{HasSamples}
use Rattle.samples.specs.Outputs.{Appended}
use Rattle.samples.proofs.Outputs.{crowded_front}
use Rattle.samples.proofs.Turning.{FirstChild, first_child, leaves_more, ends, goes_on, fewer_left, two_on_top, popped_below}
use Rattle.samples.proofs.Tested.{next_inside}
use Rattle.samples.proofs.writing.turn.Given as given
use Rattle.samples.proofs.writing.turn.Goals as goal
use Rattle.samples.proofs.writing.turn.Goals.{In_ok-level, After-next_child}

-- the level on top
on_top : (g : given.Over) (c : In_ok-level g) (below : List (Level NodeKey)) (q : ℕ) (cs : Children) → c.args.levels.now.entries ≡ below ++ level_of q cs ∷ [] → c.in_ok-level.level ≡ level_of q cs
on_top g c below q cs on = same_Some _ _ (sym c.in_ok-level.was ∙ c.top.ensures ∙ ap topmost on ∙ topmost_of below (level_of q cs))

-- what is found of the next child
record Next (g : given.Over) (c : After-next_child g) (q : ℕ) (cs : Children) : Type 0 where
  first : FirstChild cs
  state : ℕ
  leads : (meaning g.D.Domain.holds c.args.tested.now).next q first.symbol ≡ Some state
  inside : state < states_of c.args.tested.now
  sample : Sample (meaning g.D.Domain.holds c.args.tested.now) state (node first.value first.below)
  found : c.next_child.result ≡ Some (record { symbol = first.symbol; state = state })

next : (g : given.Over) (c : After-next_child g) → HasSamples g.D.Domain.holds c.args.tested.now c.args.samples.now → (below : List (Level NodeKey)) (q : ℕ) (cs : Children) → c.in_ok-level.level ≡ level_of q cs → q < states_of c.args.tested.now → LastOf (meaning g.D.Domain.holds c.args.tested.now) q cs → Next g c q cs
next g c has below q cs top low last =
    let A = meaning g.D.Domain.holds c.args.tested.now in
    let left : c.in_ok-level.level.left ≡ many cs = ap (λ (l : Level NodeKey). l.left) top in
    let f = first_child cs (λ none. c.if-level-eq0.false (left ∙ none)) in
    let last' : LastOf A q (child f.symbol (node f.value f.below) f.others) = subst (LastOf A q) f.split last in
    let to = last'.samples.0 in
    record {
      first = f;
      state = to.0;
      leads = to.1;
      inside = next_inside g.D.Domain.holds c.args.tested.now q f.symbol to.0 low to.1;
      sample = to.2;
      found = c.next_child.ensures has q f.symbol to.0 (node f.value f.below) f.others (top ∙ ap (level_of q) f.split) low last' to.1;
    }

pub returns-in_err-level-clause-turns : goal.returns-in_err-level-clause-turns
returns-in_err-level-clause-turns g c = λ has below q cs on low last fits.
    absurd (none-some _ (sym c.in_err-level.was ∙ c.top.ensures ∙ ap topmost on ∙ topmost_of below (level_of q cs)))

pub returns-then-level-eq0-clause-turns : goal.returns-then-level-eq0-clause-turns
returns-then-level-eq0-clause-turns g c = λ has below q cs on low last fits.
    let top = on_top g (goal.at.returns-then-level-eq0-clause-turns g c).In_ok-level below q cs on in
    ends (meaning g.D.Domain.holds c.args.tested.now) below q cs c.args.output.now _ (sym (ap (λ (l : Level NodeKey). l.left) top) ∙ c.if-level-eq0.true) (popped_below _ below _ _ _ on c.pop.ensures)

pub returns-in_err-child-clause-turns : goal.returns-in_err-child-clause-turns
returns-in_err-child-clause-turns g c = λ has below q cs on low last fits.
    let at = goal.at.returns-in_err-child-clause-turns g c in
    let n = next g at.After-next_child has below q cs (on_top g at.In_ok-level below q cs on) low last in
    absurd (none-some _ (sym c.in_err-child.was ∙ n.found))

pub returns-in_err-number-clause-turns : goal.returns-in_err-number-clause-turns
returns-in_err-number-clause-turns g c = λ has below q cs on low last fits.
    let at = goal.at.returns-in_err-number-clause-turns g c in
    let A = meaning g.D.Domain.holds c.args.tested.now in
    let before = c.args.output.now in
    let n = next g at.After-next_child has below q cs (on_top g at.In_ok-level below q cs on) low last in
    let same : c.in_ok-child.child ≡ record { symbol = n.first.symbol; state = n.state } = same_Some _ _ (sym c.in_ok-child.was ∙ n.found) in
    let short = subst (λ (a : ℕ). length before.bytes.now < before.place + length (number_bytes a)) (c.from.ensures ∙ ap (λ (d : Child). d.symbol) same) c.in_err-number.ensures in
    rw c.from_residual-in_err-number.ensures
    (goes_on A below q cs before n.first n.state n.leads _ _ _ (crowded_front (number_bytes n.first.symbol) (head_bytes n.first.value n.first.below) before short))

pub returns-clause-turns : goal.returns-clause-turns
returns-clause-turns g c = λ has below q cs on low last fits.
    let at = goal.at.returns-clause-turns g c in
    let A = meaning g.D.Domain.holds c.args.tested.now in
    let before = c.args.output.now in
    let top = on_top g at.In_ok-level below q cs on in
    let n = next g at.After-next_child has below q cs top low last in
    let same : c.in_ok-child.child ≡ record { symbol = n.first.symbol; state = n.state } = same_Some _ _ (sym c.in_ok-child.was ∙ n.found) in
    let led : c.in_ok-child.child.state ≡ n.state = ap (λ (d : Child). d.state) same in
    let written = subst (λ (a : ℕ). Appended (number_bytes a) before c.number.new.self) (c.from.ensures ∙ ap (λ (d : Child). d.symbol) same) c.in_ok-number.ensures in
    let fewer : c.replace.new.self.entries ≡ below ++ level_of q n.first.others ∷ [] =
    over_top _ below (level_of q cs) _ _ on c.replace.ensures ∙ ap (λ (l : Level NodeKey). below ++ l ∷ []) (fewer_left q cs n.first c.in_ok-level.level top) in
    let space : 0 < length c.replace.new.self.free = omega (arith, fits, ap heights n.first.split, ap length c.replace.ensures.free) in
    let inside : c.in_ok-child.child.state < states_of c.args.tested.now = omega (arith, led, n.inside) in
    let begun = c.begin.ensures.begins A _ n.first.value n.first.below has inside (subst (λ (p : ℕ). Sample A p (node n.first.value n.first.below)) (sym led) n.sample) space in
    let levels : c.replace.new.self.entries ++ level_of c.in_ok-child.child.state n.first.below ∷ [] ≡ below ++ level_of q n.first.others ∷ level_of n.state n.first.below ∷ [] =
    ap (λ (p : ℕ). c.replace.new.self.entries ++ level_of p n.first.below ∷ []) led ∙ two_on_top _ below (level_of q n.first.others) (level_of n.state n.first.below) fewer in
    goes_on A below q cs before n.first n.state n.leads _ _ _
    (
    leaves_more (number_bytes n.first.symbol) (head_bytes n.first.value n.first.below) _ before c.number.new.self _ c.begin.result c.begin.new.levels written
    (subst (λ (l : List (Level NodeKey)). Leaves (head_bytes n.first.value n.first.below) l c.number.new.self c.begin.result c.begin.new.levels c.begin.new.output) levels begun)
    )
