-- The search finds a sequence over the symbols into live states that the second state refuses, if there is one. Assumes nothing.
use Rattle.std.proofs.Common.{Bool, Decides, sym, subst, arith}
use Rattle.bits.specs.Bits.{bit}
use Rattle.schema.specs.Tables.{tables, sets, automaton}
use Rattle.schema.proofs.Sound.{sound}
use Rattle.search.specs.Watching.{refusing}
use Rattle.schema.specs.Meaning.{meaning}
use Rattle.compare.specs.declared.phase.Kind.TheVariants.{Content}
use Rattle.compare.specs.Breaking.{Broken}
use Rattle.compare.proofs.Sought.{found_breaks}
use Rattle.compare.proofs.compared.Compared.is_content_broken.Goals as goal

pub returns : goal.returns
returns g c = λ there mask.
    let compared = c.args.self.now in
    let t = compared.first.now in
    let s = t.measured.schema in
    let w = c.new.result in
    let v = w.tested.now.measured.schema in
    let holds = g.D.Domain.holds in
    let A = meaning holds compared.first.now in
    let B = meaning holds compared.second.now in
    let W = refusing (automaton (tables v) (sets holds v)) w.state in
    let p = c.args.p in
    let q = c.args.q in
    let symbols = c.symbols_into.result in
    let same = c.symbols_into.ensures in
    let found = c.shortest.ensures.answer there.0 (omega arith) in
    subst (λ (b : Bool). Decides b (Broken A B Content p q)) (sym c.is_some.ensures)
    (found_breaks A B s.states compared.live p q there.0 (sound (tables s) (sets holds s) t.sound).next_in mask (bit symbols) same W (c.new.ensures.means there.1) c.shortest.result found)
