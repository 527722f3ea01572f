-- What falls as the trail is counted. Assumes nothing.
use Rattle.compare.proofs.trail.+trail_length.Given as goal

-- the index falls
abbrev pub decreases-trail_length : goal.decreases-trail_length
decreases-trail_length l = l.index
