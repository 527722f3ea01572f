-- What is kept, or that nothing is left. Assumes nothing.
use Rattle.std.proofs.Common.{◌<◌, [], sym, refl, arith}
use Rattle.std.proofs.lemmas.Bool.{both_ways}
use Rattle.bits.specs.Bits.{bit}
use Rattle.schema.specs.Tables.{tables}
use Rattle.schema.proofs.Sizes.{sized, sound_tables}
use Rattle.trim.proofs.trimming.Trimming.new.Goals as goal

pub returns-then-not-has_member-clause-nothing : goal.returns-then-not-has_member-clause-nothing
returns-then-not-has_member-clause-nothing g c =
    let t = c.args.tested.now in
    let T = tables t.measured.schema in
    let some : 0 < T.states = omega (arith, (sized T t.measured.sized).states.from) in
    record {
      sound = sound_tables T t.sound;
      dead = λ live. both_ways (bit c.live_over-live.result 0) (sym c.if-not-has_member.ensures) ((c.live_over-live.ensures.live 0).1 (some, live));
      is = c.at.ensures;
    }

pub returns-clause-kept : goal.returns-clause-kept
returns-clause-kept g c =
    let t = c.args.tested.now in
    let T = tables t.measured.schema in
    let start = sym c.if-not-has_member.ensures in
    let exact = c.kept_states.ensures c.live_over-live.ensures.live start in
    record {
      of_schema = refl;
      of_symbols = refl;
      keeps = record { sound = sound_tables T t.sound; exact = exact; start = (exact 0).1 (((c.live_over-live.ensures.live 0).0 start).1, ([], refl)) };
    }
