-- The refusals of the area's calls, each as the test that finds it. Their place is the area's
-- serial. Assumes nothing.
use Rattle.std.specs.Prelude.{ℕ, Bool, cond, not, ◌&&◌, ◌||◌, [], ◌∷◌, Some, None, Option, ◌==◌, nat_lt}
use Rattle.refusal.specs.declared.fault.Fault.{Fault}
use Rattle.refusal.specs.declared.fault.Fault.TheVariants.{Symbols, Worn, Foreign, Ousted, Schemas, Steps}
use Rattle.refusal.specs.declared.fault.Refusal.{Refusal}
use Rattle.refusal.specs.Order.{first_of}
use Rattle.schema.specs.Tables.{Tables}
use Rattle.compare.specs.declared.area.TheConstants.{LAST_SERIAL}
use Rattle.compare.specs.declared.claim.Numbers.{Numbers}
use Rattle.compare.specs.declared.event.Decision.{Decision}
use Rattle.compare.specs.declared.event.Decision.TheVariants.{Refuse}
use Rattle.compare.specs.declared.event.Event.{Event}
use Rattle.compare.specs.declared.event.Event.TheVariants.{Hold}
use Rattle.compare.specs.declared.step.TheConstants.{MOST_STEPS}
use Rattle.compare.specs.Phases.{decided}
use Rattle.compare.specs.View.{View}

-- a refusal with the area's serial as its place, where a test finds it
abbrev pub where_found : Bool → View → Fault → Option Refusal
where_found b w f = cond b (Some (record { fault = f; place = w.serial })) None

-- `symbols`: the two schemas differ in symbol count
abbrev pub other_symbols : View → Tables → Tables → Option Refusal
other_symbols w T U = where_found (not (T.symbols == U.symbols)) w Symbols

-- `busy`, `ousted` or `early`: what the phase refuses of the event
abbrev pub by_phase : View → Decision → Option Refusal
by_phase w (Refuse f) = Some (record { fault = f; place = w.serial })
by_phase w d = None

-- what the area's phase refuses of the event
abbrev pub phase_refuses : View → Event → Option Refusal
phase_refuses w e = by_phase w (decided w.phase e)

-- `worn`: the serial can't be raised
abbrev pub worn_out : View → Option Refusal
worn_out w = where_found (w.serial == LAST_SERIAL) w Worn

-- `foreign`: the claim is of another area
abbrev pub of_another : View → ℕ → Option Refusal
of_another w number = where_found (not (number == w.number)) w Foreign

-- the symbol count and the two state counts are those noted
abbrev pub same_counts : View → Tables → Tables → Bool
same_counts w T U = w.symbols == T.symbols && (w.firsts == T.states && w.seconds == U.states)

-- `schemas`: the symbol count or a state count is not the one noted
abbrev pub other_counts : View → Tables → Tables → Option Refusal
other_counts w T U = where_found (not (same_counts w T U)) w Schemas

-- `steps`: none are asked for, or too many
abbrev pub wrong_steps : View → ℕ → Option Refusal
wrong_steps w n = where_found (n == 0 || nat_lt MOST_STEPS n) w Steps

-- `ousted`: the claim has another serial
abbrev pub other_serial : View → ℕ → Option Refusal
other_serial w serial = where_found (not (serial == w.serial)) w Ousted

-- the test of the holder: the numbers are of another area or have another serial, or there is no
-- holder in this phase
abbrev pub holder_refusal : View → Numbers → Option Refusal
holder_refusal w n = first_of (of_another w n.area ∷ other_serial w n.serial ∷ phase_refuses w Hold ∷ [])

-- what keeps sound schemas from all that the holder of the claim with these numbers asks
abbrev pub held_kept_from : View → Tables → Tables → Numbers → Option Refusal
held_kept_from w T U claim = first_of (other_symbols w T U ∷ holder_refusal w claim ∷ other_counts w T U ∷ [])
