-- The trail to a listed pair: the symbols that led to it from the first one. Assumes nothing.
use Rattle.std.specs.Prelude.{◌≡◌, ℕ, ◌-◌, ◌<◌, ◌≤◌, cond, List, [], ◌∷◌, length, Some, None, Ok, Err, Option, Result, nat_lt}
use Rattle.codec.specs.Numbers.{overwritten}
use Rattle.refusal.specs.declared.fault.Fault.TheVariants.{Room}
use Rattle.refusal.specs.declared.fault.Refusal.{Refusal}
use Rattle.refusal.specs.Order.{first_of}
use Rattle.search.specs.Paths.{Spells, found_from}
use Rattle.compare.specs.declared.area.Area.{Area}
use Rattle.compare.specs.declared.claim.Numbers.{Numbers}
use Rattle.compare.specs.declared.event.Event.TheVariants.{Write}
use Rattle.compare.specs.declared.pairs.Listed.{Listed}
use Rattle.compare.specs.declared.pairs.Pairs.{Pairs}
use Rattle.compare.specs.Concluding.{claim_refusal}
use Rattle.compare.specs.Listing.{entries_of, pair_links}
use Rattle.compare.specs.View.{View, view}

-- the trail of an entry: the symbols that lead to it from the first entry
abbrev pub Trail : List Listed → ℕ → List ℕ → Type 0
Trail es i w = Spells pair_links es i w

-- no entry has two trails
abbrev pub OneTrail : Type 0
OneTrail = (es : List Listed) (i : ℕ) (v w : List ℕ) → Trail es i v → Trail es i w → v ≡ w

-- every listed pair has a trail
abbrev pub EveryTrail : Type 0
EveryTrail = (p : Pairs) (i : ℕ) → i < length (entries_of p) → (w : List ℕ) × Trail (entries_of p) i w

-- the entry at i, where its parent stands before it
abbrev pub led_to : List Listed → ℕ → Option Listed
led_to es i = found_from pair_links es i

-- the bytes of the trail stand at the output's front where they have room, and the place after them
-- is told
abbrev pub TrailWritten : List Listed → ℕ → List ℕ → ℕ → List ℕ → Type 0
TrailWritten es i output n output' =
    (w : List ℕ) → Trail es i w → length w ≤ length output
    → (n ≡ length w) × (output' ≡ overwritten output 0 w)

-- the index of the pair that was examined last, and 0 where no pair is listed there
abbrev pub broken_index : View → ℕ
broken_index w = cond (nat_lt (w.examined - 1) (length w.pairs)) (w.examined - 1) 0

-- `room`: the output is too short for the bytes, and the place is how many are needed
abbrev pub no_room : List ℕ → List ℕ → Option Refusal
no_room output w =
    cond (nat_lt (length output) (length w)) (Some (record { fault = Room; place = length w })) None

-- the refusal of writing a trail: what is refused of the claim, or `room`
abbrev pub trail_refusal : View → Numbers → List ℕ → List ℕ → Option Refusal
trail_refusal s claim output w = first_of (claim_refusal s claim Write ∷ no_room output w ∷ [])

-- what is answered of a trail: its length, with the trail at the output's front and the rest as
-- found, or the first refusal, which leaves the output as found
abbrev pub TrailAnswer : View → Numbers → List ℕ → List ℕ → Result ℕ Refusal → List ℕ → Type 0
TrailAnswer s claim output w (Ok n) output' =
    (trail_refusal s claim output w ≡ None) × (n ≡ length w) × (output' ≡ overwritten output 0 w)
TrailAnswer s claim output w (Err e) output' =
    (trail_refusal s claim output w ≡ Some e) × (output' ≡ output)

-- the one outcome of a trail for the claim with these numbers: the answer of the trail of the
-- broken pair
abbrev pub Trailing : Area → Numbers → List ℕ → Result ℕ Refusal → List ℕ → Type 0
Trailing a claim output r output' =
    (w : List ℕ) × Trail (view a).pairs (broken_index (view a)) w
    × TrailAnswer (view a) claim output w r output'
