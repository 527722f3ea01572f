-- The word that was taken is the one that the list is read from. Assumes nothing.
use Rattle.std.proofs.Common.{◌≡◌, Some, subst, rules}
use Rattle.std.specs.Str.Iter.{split_whitespace_steps}
use Rattle.notation.proofs.words.Words.bytes.Goals as goal

pub returns : goal.returns
returns c =
    let taken : c.word.ensures.0 ≡ Some c.in_ok-word.word = search rules in
    (Some c.in_ok-word.word, subst (λ w. split_whitespace_steps c.args.self.now.left w c.word.new.self.left) taken c.word.ensures.1, c.list.ensures)
