-- The table's text at the number is the word, and every word is short. Assumes nothing.
use Rattle.refusal.proofs.Table.{short}
use Rattle.refusal.proofs.words.word.Goals as goal

pub returns : goal.returns
returns c = record { value = c.entry.ensures; short = short }
