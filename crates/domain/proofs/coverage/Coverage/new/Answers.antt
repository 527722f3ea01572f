-- One of the three answers. Assumes nothing.
use Rattle.std.proofs.Common.{ap, sym, subst, inl, inr}
use Rattle.domain.specs.Making.{Breaks}
use Rattle.domain.proofs.Making.{making_laws, written}
use Rattle.domain.proofs.coverage.Coverage.new.Goals as goal

pub returns-then-ranges-gt-RANGES : goal.returns-then-ranges-gt-RANGES
returns-then-ranges-gt-RANGES c = record { answer = inl (c.if-ranges-gt-RANGES.true, c.at.ensures); laws = making_laws }

pub returns-in-Some : goal.returns-in-Some
returns-in-Some c = record { answer = inr (c.if-ranges-gt-RANGES.false, subst (Breaks c.args.ranges.now) (sym (ap (λ e. e.place) c.at-in-Some.ensures)) c.in-Some.ensures, ap (λ e. e.fault) c.at-in-Some.ensures); laws = making_laws }

pub returns : goal.returns
returns c =
    record {
      answer = written c.args.ranges.now c.copy_from_slice.new.self c.if-ranges-gt-RANGES.false c.in_default.ensures c.copy_from_slice.ensures.after;
      laws = making_laws;
    }
