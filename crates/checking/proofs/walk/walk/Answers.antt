-- Each item leaves the verdict as it was and takes bytes or a level. Assumes nothing.
use Rattle.std.proofs.Common.{◌≡◌, ℕ, Bool, length, Some, Ok, Err, Result, sym, ap, ◌∙◌, subst, arith}
use Rattle.std.specs.Option.{unwrap_or}
use Rattle.std.proofs.lemmas.Result.{err_from_is_err_and}
use Rattle.refusal.specs.declared.fault.Fault.TheVariants as fault
use Rattle.refusal.specs.declared.fault.Refusal.{Refusal}
use Rattle.codec.specs.declared.item.Item.{Item}
use Rattle.codec.specs.declared.item.Item.TheVariants.{Value, Symbol, End}
use Rattle.codec.specs.Items.{Walks}
use Rattle.codec.specs.Piles.{slots, topmost}
use Rattle.schema.specs.Meaning.{meaning, symbols_of}
use Rattle.checking.specs.Steps.{TakesSymbol}
use Rattle.checking.proofs.Midst.{the_verdict, stops, after_value, after_end, strange, after_symbol, less_symbol}
use Rattle.checking.proofs.walk.walk.Given as given
use Rattle.checking.proofs.walk.walk.Goals as goal
use Rattle.checking.proofs.walk.walk.Goals.{In-Some, After-new-reader}

-- what the reader handed out, as an item
handed : (g : given.Over) (c : In-Some g) (item : Item) → c.in-Some.item ≡ item → Walks (record { state = unwrap_or c.loop-item.answer 0; row = 0 }) c.loop-item.reader (Ok (Some item)) c.next.new.self
handed g c item is =
    subst (λ (n : ℕ). Walks (record { state = n; row = 0 }) c.loop-item.reader (Ok (Some item)) c.next.new.self) c.unwrap_or.ensures
    (subst (λ o. Walks (record { state = c.unwrap_or.result; row = 0 }) c.loop-item.reader (Ok o) c.next.new.self) (c.in-Some.is ∙ ap Some is) c.in_ok-item.ensures)

pub loop-item-preserved-in-Value : goal.loop-item-preserved-in-Value
loop-item-preserved-in-Value g c =
    let at = (goal.at.loop-item-preserved-in-Value g c).In-Some in
    rw (c.open-answer.ensures)
    (after_value _ _ _ _ _ _ c.loop-item.invariant _ _ _ _ (handed g at (Value c.in-Value.value c.in-Value._count c.in-Value._bytes) c.in-Value.is))

pub loop-item-preserved : goal.loop-item-preserved
loop-item-preserved g c =
    let at = (goal.at.loop-item-preserved g c).In-Some in
    rw (c.close-answer.ensures, c.top-top.ensures) (after_end _ _ _ _ _ _ c.loop-item.invariant _ (handed g at End c.in-End.is))

-- the verdict over the levels that were lent, which are the reader's
lent : (g : given.Over) (c : After-new-reader g) (r : Result Bool Refusal) → (let s = c.args.schema.now in the_verdict (meaning g.D.Domain.holds s) (symbols_of s) c.args.tree.now (slots c.new-reader.result.levels) ≡ r) → (let s = c.args.schema.now in r ≡ the_verdict (meaning g.D.Domain.holds s) (symbols_of s) c.args.tree.now (length c.args.levels.now))
lent g c r is =
    let s = c.args.schema.now in
    let room : slots c.new-reader.result.levels ≡ length c.args.levels.now = omega (arith, ap (λ p. slots p.levels) c.new-reader.ensures, ap length c.new.ensures.empty, ap length c.new.ensures.over) in
    subst (λ (n : ℕ). r ≡ the_verdict (meaning g.D.Domain.holds s) (symbols_of s) c.args.tree.now n) room (sym is)

pub returns-in_err-item : goal.returns-in_err-item
returns-in_err-item g c =
    let p = err_from_is_err_and c.from_residual.result c.from_residual.ensures.1 in
    let w = subst (λ (n : ℕ). Walks (record { state = n; row = 0 }) c.loop-item.reader (Err c.in_err-item.field-0.0) c.next.new.self) c.unwrap_or.ensures c.in_err-item.ensures in
    p.1 ∙ ap Err p.2 ∙ lent g (goal.at.returns-in_err-item g c).After-new-reader _ (stops _ _ _ _ _ _ c.loop-item.invariant _ _ w)

pub returns-in_err-symbol-in-Symbol : goal.returns-in_err-symbol-in-Symbol
returns-in_err-symbol-in-Symbol g c =
    let at = goal.at.returns-in_err-symbol-in-Symbol g c in
    let w = handed g at.In-Some (Symbol c.in-Symbol.symbol c.in-Symbol._bytes) c.in-Symbol.is in
    let no = c.in_err-symbol-in-Symbol.ensures in
    let p = err_from_is_err_and c.from_residual-in_err-symbol-in-Symbol.result c.from_residual-in_err-symbol-in-Symbol.ensures.1 in
    p.1 ∙ ap Err (p.2 ∙ no.1) ∙ ap (λ (n : ℕ). Err (record { fault = fault.Symbol; place = n })) c.place-place.ensures ∙ lent g at.After-new-reader _ (strange _ _ _ _ _ _ c.loop-item.invariant _ _ _ w no.0)

-- the symbol's step from where the reader handed it out
stepped : (g : given.Over) (c : goal.After-name-answer g) → TakesSymbol (meaning g.D.Domain.holds c.args.schema.now) c.in-Symbol.symbol c.loop-item.answer (topmost c.next.new.self.levels.entries) c.next.new.self c.name-answer.result c.name-answer.new.reader
stepped g c =
    subst (λ (n : ℕ). TakesSymbol (meaning g.D.Domain.holds c.args.schema.now) n c.loop-item.answer (topmost c.next.new.self.levels.entries) c.next.new.self c.name-answer.result c.name-answer.new.reader)
    c.in_ok-symbol-in-Symbol.ensures.0 c.name-answer.ensures

pub loop-item-preserved-in_ok-symbol-in-Symbol : goal.loop-item-preserved-in_ok-symbol-in-Symbol
loop-item-preserved-in_ok-symbol-in-Symbol g c =
    let at = goal.at.loop-item-preserved-in_ok-symbol-in-Symbol g c in
    let w = handed g at.In-Some (Symbol c.in-Symbol.symbol c.in-Symbol._bytes) c.in-Symbol.is in
    after_symbol _ _ _ _ _ _ c.loop-item.invariant _ _ _ w _ _ (stepped g c) c.in_ok-symbol-in-Symbol.ensures.1

pub loop-item-smaller-in_ok-symbol-in-Symbol : goal.loop-item-smaller-in_ok-symbol-in-Symbol
loop-item-smaller-in_ok-symbol-in-Symbol g c =
    let at = goal.at.loop-item-smaller-in_ok-symbol-in-Symbol g c in
    let w = handed g at.In-Some (Symbol c.in-Symbol.symbol c.in-Symbol._bytes) c.in-Symbol.is in
    less_symbol _ _ _ _ _ _ c.loop-item.invariant _ _ _ w _ _ (stepped g c)
