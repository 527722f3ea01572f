-- The three kinds of domain: which values each has. Assumes nothing.
use Rattle.std.specs.Prelude.{ℕ, ◌+◌, ◌-◌, Bool, false, cond, ◌&&◌, ◌||◌, List, [], ◌∷◌, take, ◌==◌, nat_le, nat_lt}
use Rattle.bits.specs.Bits.{bit}
use Rattle.domain.specs.declared.keywords.Keywords.{Keywords}
use Rattle.domain.specs.declared.coverage.Range.{Range}
use Rattle.domain.specs.declared.coverage.Coverage.{Coverage}
use Rattle.domain.specs.declared.joint.TheConstants.{MIDDLE}

-- keywords: the value i, below 64, is a member when bit i is set
abbrev pub has_keyword : Keywords → ℕ → Bool
has_keyword k v = nat_lt v 64 && bit k.bits v

-- both ends of a range are in it
abbrev pub in_range : Range → ℕ → Bool
in_range r v = nat_le r.first v && nat_le v r.last

-- a range begins at the value
abbrev pub begins : Range → ℕ → Bool
begins r v = r.first == v

-- a range ends right before the value
abbrev pub follows : Range → ℕ → Bool
follows r v = r.last + 1 == v

-- one of the ranges passes the test at the value
abbrev pub some : (Range → ℕ → Bool) → List Range → ℕ → Bool
some test [] v = false
some test (r ∷ rs) v = test r v || some test rs v

-- the ranges in use: the first `count` of the eight
abbrev pub ranges_of : Coverage → List Range
ranges_of c = take c.count c.ranges

-- coverage: a value is a member when one of the ranges in use holds it
abbrev pub has_letter : Coverage → ℕ → Bool
has_letter c v = some in_range (ranges_of c) v

-- joint: below the middle the left set answers, and from there on the right one, less the middle
abbrev pub joined : (ℕ → Bool) → (ℕ → Bool) → ℕ → Bool
joined left right v = cond (nat_lt v MIDDLE) (left v) (right (v - MIDDLE))
