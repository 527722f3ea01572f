-- What falls as the trail is written. Assumes nothing.
use Rattle.compare.proofs.trail.+write_trail.Given as goal

-- the index falls
abbrev pub decreases-write_trail : goal.decreases-write_trail
decreases-write_trail l = l.index
