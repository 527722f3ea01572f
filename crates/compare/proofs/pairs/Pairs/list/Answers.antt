-- The pair goes behind the others where it is new and can stand there: then there is room for it. Assumes nothing.
use Rattle.std.proofs.Common.{sym, ◌∙◌, arith}
use Rattle.compare.proofs.Views.{row_of, room_of, kept_with, after_new}
use Rattle.compare.proofs.pairs.Pairs.list.Goals as goal

pub offset_bounds-self-self : goal.offset_bounds-self-self
offset_bounds-self-self c = omega (arith, room_of c.args.self.now c.args.pair (sym c.can_stand.ensures ∙ c.if-not-can_stand.false) (sym c.has.ensures ∙ c.if-has.false))

pub bounds-self-self : goal.bounds-self-self
bounds-self-self c = room_of c.args.self.now c.args.pair (sym c.can_stand.ensures ∙ c.if-not-can_stand.false) (sym c.has.ensures ∙ c.if-has.false)

pub overflow_add-self : goal.overflow_add-self
overflow_add-self c = omega (arith, room_of c.args.self.now c.args.pair (sym c.can_stand.ensures ∙ c.if-not-can_stand.false) (sym c.has.ensures ∙ c.if-has.false))

pub bounds-self-row : goal.bounds-self-row
bounds-self-row c = row_of c.args.self.now c.args.pair (sym c.can_stand.ensures ∙ c.if-not-can_stand.false)

pub bounds-self-row-2 : goal.bounds-self-row-2
bounds-self-row-2 c = row_of c.args.self.now c.args.pair (sym c.can_stand.ensures ∙ c.if-not-can_stand.false)

pub invariant_of-self : goal.invariant_of-self
invariant_of-self c = record { sound = kept_with c.args.self.now c.args.pair (sym c.can_stand.ensures ∙ c.if-not-can_stand.false) (sym c.has.ensures ∙ c.if-has.false) c.with_member.result c.with_member.type_inv c.with_member.ensures.adds }

pub returns-clause-entries : goal.returns-clause-entries
returns-clause-entries c = after_new c.args.self.now c.args.pair (sym c.can_stand.ensures ∙ c.if-not-can_stand.false) (sym c.has.ensures ∙ c.if-has.false)
