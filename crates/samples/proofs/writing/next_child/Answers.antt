-- The root's sequence is the sample's, and its symbol with so many left that of the next child. Assumes nothing.
use Rattle.std.proofs.Common.{◌≡◌, ℕ, ◌<◌, Some, sym, ap, ◌∙◌, subst, arith}
use Rattle.std.proofs.lemmas.Option.{none-some, same_Some}
use Rattle.codec.specs.declared.item.Level.{Level}
use Rattle.codec.specs.Trees.{Tree, Children, child, word}
use Rattle.schema.specs.Live.{Live}
use Rattle.schema.specs.Tables.{sets}
use Rattle.schema.specs.Meaning.{meaning, states_of}
use Rattle.samples.specs.declared.node.NodeKey.{NodeKey}
use Rattle.samples.specs.declared.node.NodeKey.TheVariants.{State}
use Rattle.samples.specs.Writing.{level_of, LastOf}
use Rattle.samples.specs.Kept.{HasSamples, Root, RootOf}
use Rattle.samples.proofs.Lengths.{many_symbols}
use Rattle.samples.proofs.Turning.{last_live, root_word}
use Rattle.samples.proofs.writing.next_child.Given as given
use Rattle.samples.proofs.writing.next_child.Goals as goal
use Rattle.samples.proofs.writing.next_child.Goals.{After-root, After-symbol_left}

module _ (g : given.Over) (q a : ℕ) (t : Tree) (cs : Children) where
  -- what was found for the state
  found : (c : After-root g) → HasSamples g.D.Domain.holds c.args.tested.now c.args.samples.now → c.in-State.state ≡ q → q < states_of c.args.tested.now → LastOf (meaning g.D.Domain.holds c.args.tested.now) q (child a t cs) → (s : Root) × (c.root.result ≡ Some s) × RootOf (meaning g.D.Domain.holds c.args.tested.now) q s
  found c has at low last =
      let A = meaning g.D.Domain.holds c.args.tested.now in
      subst (λ (k : ℕ). (s : Root) × (c.root.result ≡ Some s) × RootOf A k s) at
      (c.root.ensures A _ has (omega (arith, at, low)) (subst (Live A) (sym at) (last_live A q a t cs last)))

  -- the symbol is the next child's
  symbol : (c : After-symbol_left g) → ((s : Root) × (c.root.result ≡ Some s) × RootOf (meaning g.D.Domain.holds c.args.tested.now) q s) → c.args.level ≡ level_of q (child a t cs) → LastOf (meaning g.D.Domain.holds c.args.tested.now) q (child a t cs) → c.symbol_left.result ≡ Some a
  symbol c f is last =
      let A = meaning g.D.Domain.holds c.args.tested.now in
      c.symbol_left.ensures last.before a (word cs) (c.as_slice.ensures.all ∙ root_word A q c.root.result c.in_ok-root.root f c.in_ok-root.was _ last.sequence)
      (ap (λ (l : Level NodeKey). l.left) is ∙ omega (arith, many_symbols cs))

-- the state of the level
at_state : (l : Level NodeKey) (state q : ℕ) (cs : Children) → l.at ≡ State state → l ≡ level_of q cs → state ≡ q
at_state l state q cs at is = let same : ◌≡◌ {A = NodeKey} (State state) (State q) = sym at ∙ ap (λ (m : Level NodeKey). m.at) is in cc

pub returns-in_err-root : goal.returns-in_err-root
returns-in_err-root g c = λ has q a p t cs is low last to.
    let at = goal.at.returns-in_err-root g c in
    let f = found g q a t cs at.After-root has (at_state _ _ q (child a t cs) c.in-State.is is) low last in
    absurd (none-some _ (sym c.in_err-root.was ∙ f.1))

pub returns-in_err-symbol : goal.returns-in_err-symbol
returns-in_err-symbol g c = λ has q a p t cs is low last to.
    let at = goal.at.returns-in_err-symbol g c in
    let f = found g q a t cs at.After-root has (at_state _ _ q (child a t cs) c.in-State.is is) low last in
    absurd (none-some _ (sym c.in_err-symbol.was ∙ symbol g q a t cs at.After-symbol_left f is last))

pub returns-in_err-state : goal.returns-in_err-state
returns-in_err-state g c = λ has q a p t cs is low last to.
    let at = goal.at.returns-in_err-state g c in
    let A = meaning g.D.Domain.holds c.args.tested.now in
    let state = at_state _ _ q (child a t cs) c.in-State.is is in
    let f = found g q a t cs at.After-root has state low last in
    let same : c.in_ok-symbol.symbol ≡ a = same_Some _ _ (sym c.in_ok-symbol.was ∙ symbol g q a t cs at.After-symbol_left f is last) in
    let next : c.next_state.result ≡ Some p = c.next_state.ensures (sets g.D.Domain.holds c.args.tested.now.measured.schema) ∙ (λ i. A.next (state i) (same i)) ∙ to in
    absurd (none-some _ (sym c.in_err-state.was ∙ next))

pub returns : goal.returns
returns g c = λ has q a p t cs is low last to.
    let at = goal.at.returns g c in
    let A = meaning g.D.Domain.holds c.args.tested.now in
    let state = at_state _ _ q (child a t cs) c.in-State.is is in
    let f = found g q a t cs at.After-root has state low last in
    let same : c.in_ok-symbol.symbol ≡ a = same_Some _ _ (sym c.in_ok-symbol.was ∙ symbol g q a t cs at.After-symbol_left f is last) in
    let next : c.next_state.result ≡ Some p = c.next_state.ensures (sets g.D.Domain.holds c.args.tested.now.measured.schema) ∙ (λ i. A.next (state i) (same i)) ∙ to in
    let led : c.in_ok-state.state ≡ p = same_Some _ _ (sym c.in_ok-state.was ∙ next) in
    λ i. Some (record { symbol = same i; state = led i })
