-- The trail of the pair that led to an entry, and a symbol more. Assumes nothing.
use Rattle.std.proofs.Common.{length, sym, ap, ◌∙◌}
use Rattle.search.proofs.Paths.{word_ends, word_longer}
use Rattle.compare.specs.Listing.{entries_of, pair_links}
use Rattle.compare.proofs.trail.+trail_length.Goals as goal

pub returns-in-Some-clause-count : goal.returns-in-Some-clause-count
returns-in-Some-clause-count t c = word_longer pair_links (entries_of c.args.pairs.now) c.args.index c.in-Some.pair c.trail_length.result (sym c.led_to.ensures ∙ c.in-Some.is) c.trail_length.ensures.count

pub returns-in-None-clause-count : goal.returns-in-None-clause-count
returns-in-None-clause-count t c = λ w t. sym (ap length (word_ends pair_links (entries_of c.args.pairs.now) c.args.index (sym c.led_to.ensures ∙ c.in-None.is) w t))
