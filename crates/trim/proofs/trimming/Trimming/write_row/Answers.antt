-- The end mark, and then symbol by symbol. Assumes nothing.
use Rattle.std.proofs.Common.{◌≡◌, ℕ, ◌+◌, List, ◌∷◌, length, set, ap, ◌∙◌, arith}
use Rattle.std.proofs.lemmas.List.{length-set}
use Rattle.schema.specs.Tables.{end_mark}
use Rattle.trim.specs.Trimming.{old_tables, new_entry_of}
use Rattle.trim.proofs.Lines.{filled, after_first}
use Rattle.trim.proofs.trimming.Trimming.write_row.Goals as goal

pub returns : goal.returns
returns g c =
    let t = c.args.self.now in
    let line = c.args.line.now in
    let mark = c.end_mark.result in
    let entries = c.loop-symbol.byte-items in
    let whole : length (set line 0 mark) ≡ (old_tables t).symbols + 1 = omega (arith, length-set line 0 mark, c.requires) in
    let long : length entries ≡ (old_tables t).symbols = omega (arith, c.loop-symbol.auto.byte-items, whole) in
    after_first line entries mark (omega (arith, long, c.requires))
    ∙ ap (λ (n : ℕ). n ∷ entries) c.end_mark.ensures
    ∙ ap (λ (l : List ℕ). end_mark (old_tables t) c.args.state c.args.row ∷ l) (filled (new_entry_of t c.args.state c.args.row) (old_tables t).symbols entries long (λ k low. c.loop-symbol.invariant k (omega (arith, c.loop-symbol-test.false, whole))))
