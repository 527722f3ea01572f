-- Round after round, until one finds nothing or all states are found. Assumes nothing.
use Rattle.std.proofs.Common.{◌≡◌, ℕ, ◌<◌, replicate, Some, None, Option, ap, ◌∙◌, arith}
use Rattle.std.specs.List.{slice_get}
use Rattle.std.proofs.lemmas.List.{get_or-replicate, length-replicate}
use Rattle.std.proofs.lemmas.Option.{slice_get-get_or}
use Rattle.bits.specs.Bits.{bit}
use Rattle.schema.specs.Permitted.{automaton_over}
use Rattle.schema.specs.Tables.{tables, sets}
use Rattle.schema.proofs.Permits.{permit_inside}
use Rattle.schema.proofs.Rounds.{no_round, one_round, finished, all_rounds}
use Rattle.schema.proofs.Sizes.{sized}
use Rattle.schema.proofs.tested.Tested.ranks_over.Goals as goal

-- at first no rank is noted
none_noted : (q : ℕ) → q < 64 → slice_get {X = Option ℕ} (replicate 64 None) q ≡ Some None
none_noted q low = slice_get-get_or (replicate 64 None) q None (omega (arith, length-replicate {A = Option ℕ} 64 None)) ∙ ap Some (get_or-replicate 64 q None None low)

pub loop-round-init : goal.loop-round-init
loop-round-init g c =
    let t = c.args.self.now in
    let s = t.measured.schema in
    let few = (sized (tables s) t.measured.sized).states.to in
    let inside = permit_inside (bit c.args.permitted) (tables s) (sets g.D.Domain.holds s) t.sound in
    no_round (automaton_over c.args.permitted g.D.Domain.holds s) s.states few inside (replicate 64 None) none_noted

pub loop-round-preserved : goal.loop-round-preserved
loop-round-preserved g c =
    let t = c.args.self.now in
    let s = t.measured.schema in
    let few = (sized (tables s) t.measured.sized).states.to in
    let inside = permit_inside (bit c.args.permitted) (tables s) (sets g.D.Domain.holds s) t.sound in
    one_round (automaton_over c.args.permitted g.D.Domain.holds s) s.states few inside c.loop-round.live c.loop-round.rank c.loop-round.round c.round-found.result c.loop-round.invariant c.round-found.ensures c.round-found.type_inv c.if-found-eq0.false c.note.new.ranks c.note.ensures

pub returns-then-found-eq0 : goal.returns-then-found-eq0
returns-then-found-eq0 g c =
    let t = c.args.self.now in
    let s = t.measured.schema in
    let few = (sized (tables s) t.measured.sized).states.to in
    let inside = permit_inside (bit c.args.permitted) (tables s) (sets g.D.Domain.holds s) t.sound in
    finished (automaton_over c.args.permitted g.D.Domain.holds s) s.states few inside c.loop-round.live c.loop-round.rank c.loop-round.round c.round-found.result c.loop-round.invariant c.round-found.ensures c.round-found.type_inv c.if-found-eq0.true

pub returns-after-loop-round : goal.returns-after-loop-round
returns-after-loop-round g c =
    let t = c.args.self.now in
    let s = t.measured.schema in
    let few = (sized (tables s) t.measured.sized).states.to in
    let inside = permit_inside (bit c.args.permitted) (tables s) (sets g.D.Domain.holds s) t.sound in
    all_rounds (automaton_over c.args.permitted g.D.Domain.holds s) s.states few inside c.loop-round.live c.loop-round.rank c.loop-round.round c.loop-round.invariant c.loop-round-test.false
