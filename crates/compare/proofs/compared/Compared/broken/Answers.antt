-- Where no gap was found and no content is broken, neither way is. Assumes nothing.
use Rattle.std.proofs.Common.{ltb, sym, ⊎_elim}
use Rattle.std.proofs.lemmas.Bool.{and_parts, both_ways, cases_Bool, ltb-true}
use Rattle.schema.specs.Automata.{allowed}
use Rattle.schema.specs.Meaning.{meaning}
use Rattle.compare.proofs.Gaps.{gap_none}
use Rattle.compare.proofs.compared.Compared.broken.Goals as goal

pub returns-clause-answer : goal.returns-clause-answer
returns-clause-answer g c = λ there mask.
    let A = meaning g.D.Domain.holds c.args.self.now.first.now in
    let B = meaning g.D.Domain.holds c.args.self.now.second.now in
    record {
      values = gap_none (A.has c.args.p) (B.has c.args.q) c.gap.result (λ v has. ltb-true v 4294967296 (and_parts (ltb v 4294967296) _ has).0) c.gap.ensures (sym c.if-is_some.ensures);
      contents = λ w live.
          ⊎_elim
          (λ may. may)
          (λ refused. absurd (both_ways c.is_content_broken.result c.if-is_content_broken.false ((c.is_content_broken.ensures there mask).1 (w, live, refused))))
          (cases_Bool (allowed B c.args.q w));
    }
