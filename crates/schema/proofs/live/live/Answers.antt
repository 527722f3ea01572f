-- The tables and the mask are those of the lent schema, which is the tested one. Assumes nothing.
use Rattle.std.proofs.Common.{Ok, subst}
use Rattle.schema.specs.declared.tables.Schema.{Schema}
use Rattle.schema.specs.Live.{RankMask}
use Rattle.schema.specs.Outcome.{LiveAnswer}
use Rattle.schema.specs.Tables.{tables, sets, automaton_of}
use Rattle.schema.proofs.Sizes.{sound_tables}
use Rattle.schema.proofs.live.live.Goals as goal

pub returns-clause-answer : goal.returns-clause-answer
returns-clause-answer g c =
    let t = c.in_ok-tested.tested in
    subst (λ (s : Schema g.row.D.Denot). LiveAnswer (tables s) (sets g.D.Domain.holds s) (Ok c.live_states.result)) c.in_ok-tested.ensures (sound_tables (tables t.measured.schema) t.sound, c.live_states.ensures.live)

pub returns-clause-ranks : goal.returns-clause-ranks
returns-clause-ranks g c = subst (λ (s : Schema g.row.D.Denot). RankMask (automaton_of g.D.Domain.holds s) s.states c.live_states.result) c.in_ok-tested.ensures c.live_states.ensures.ranks
