-- What the report of a day accounts for. docs/DECISIONS.md, "The day": every minute is a finished attempt, or is refused and listed with its number, so
-- that nothing is left out silently (40); a minute that counts as above is a finished one, and the total is the number of such minutes over 60 (41). Of each
-- minute there is an entry in each of the five lists, and where the minute is refused, s, k and r are 0; those of a finished one are `day`'s, by its contract.
-- ⊕ ⊗ ⊘ are operations on doubles: they round.
use Rattle.std.specs.Prelude.{ℕ, ◌+◌, ◌≤◌, ◌<◌, ◌≡◌, true, false, cond, List, [], ◌∷◌, eqb, length, get_or, Float}
use Rattle.std.specs.Float.{nan}
use Rattle.std.specs.Float.Ieee.{to_unsigned}
use Rattle.std.specs.Float.Ieee.Scale.{finite}
use Rattle.ieee.specs.Double.{◌⊕◌, ◌⊗◌, ◌⊘◌, double, nought, half}
use Rattle.workspace.specs.Vectors.{unpack, state}
use Rattle.driver.specs.declared.Answer.TheVariants.{Ready, Refused}
use Rattle.driver.specs.Calls.{Held, Called, may_accept, accept}
use Rattle.driver.specs.Numbers.{refusal_numbers}
use Rattle.session.specs.Refusals.{◌∈◌}
use Rattle.heat_sink.specs.declared.Inverter.{Inverter}
use Rattle.sheet.specs.Text.{minutes_a_day}
use Rattle.inverter.specs.declared.Total.{Total}
use Rattle.inverter.specs.Day.{called, finished, refusal, Minutes, Entries, held, outset, first_area}
use Rattle.inverter.specs.Finite.{entering, left_by, above_by}

-- ---- a minute

-- an attempt that is finished can be accepted
abbrev pub Acceptable : Held → Type 0
Acceptable h = may_accept h.kept.phase ≡ true → (accept h).answer ≡ Ready

-- From what the caller held, a minute with this reading comes to one of three ends: a finished attempt, one more, which the next minute can accept; a
-- refusal by the engine, none more, with its number and nothing to accept; or, where the reading is not finite, to no call at all and the number 9
pub data Ended (reading : Float) (h : Held) (end : Called) : Type 0 where
  Completed : finite reading ≡ true → finished end.answer ≡ true → refusal end.answer ≡ 0 → may_accept end.held.kept.phase ≡ true
      → end.held.counters.finished_attempts ≡ h.counters.finished_attempts + 1 → Ended reading h end
  GivenUp : finite reading ≡ true → finished end.answer ≡ false → refusal end.answer ∈ refusal_numbers
      → may_accept end.held.kept.phase ≡ false
      → end.held.counters.finished_attempts ≡ h.counters.finished_attempts → Ended reading h end
  KeptOut : finite reading ≡ false → end ≡ called (Refused 9) h → Ended reading h end

-- ---- the refused minutes

-- a refused minute, counted from 0, and the number that it was refused with
pub record RefusedMinute : Type 0 where
  pub minute : ℕ
  pub number : ℕ

abbrev pub refused_minute : ℕ → ℕ → RefusedMinute
refused_minute minute number = record { minute = minute; number = number }

-- those among the numbers of the minutes from this one on, in their order (0 is the number of a minute that is not refused)
unfoldable pub listed : ℕ → List ℕ → List RefusedMinute
listed minute [] = []
listed minute (number ∷ numbers) = cond (eqb number 0) (listed (minute + 1) numbers) (refused_minute minute number ∷ listed (minute + 1) numbers)

-- the minutes rise strictly; the first is not before `from`, the last is before `to`
unfoldable pub Rising : ℕ → ℕ → List RefusedMinute → Type 0
Rising from to [] = from ≤ to
Rising from to (e ∷ es) = (from ≤ e.minute) × Rising (e.minute + 1) to es

-- each has a number of the table of refusals
unfoldable pub Numbered : List RefusedMinute → Type 0
Numbered [] = Unit
Numbered (e ∷ es) = (e.number ∈ refusal_numbers) × Numbered es

-- a minute of which no attempt is told: s, k and r are 0
pub record Untold (lists : Minutes) (minute : ℕ) : Type 0 where
  pub no_stages : get_or lists.stages minute 0 ≡ 0
  pub no_passes : get_or lists.passes minute 0 ≡ 0
  pub no_radius : get_or lists.scaled_radii minute nan ≡ nought

-- so is every refused minute, one whose number is not 0
abbrev pub RefusedUntold : Minutes → Type 0
RefusedUntold lists = (minute : ℕ) → (get_or lists.refusals minute 0 ≡ 0 → ⊥) → Untold lists minute

-- ---- the day

-- the minutes that a number of hours tells: 60 times as many, to the nearest whole number
unfoldable pub minutes_of : Float → ℕ
unfolding to_unsigned
minutes_of hours = to_unsigned 64 (hours ⊗ double 60 ⊕ half)

-- the total of a day, and what it tells of each minute
pub record Accounts (t : Total) (lists : Minutes) : Type 0 where
  pub every_minute : t.finished_attempts + t.refused ≡ minutes_a_day
  pub above_finished : t.above ≤ t.finished_attempts
  pub an_entry_each : Entries minutes_a_day lists
  pub all_listed : length (listed 0 lists.refusals) ≡ t.refused
  pub in_order : Rising 0 minutes_a_day (listed 0 lists.refusals)
  pub numbered : Numbered (listed 0 lists.refusals)
  pub refused_untold : RefusedUntold lists
  pub hours_are : t.hours ≡ double t.above ⊘ double 60
  pub minutes_told : minutes_of t.hours ≡ t.above

-- ---- the minutes whose reading is not finite

-- what the engine is left with by the minutes whose reading is finite, as if the day had no others
unfoldable pub engine_alone : Inverter → List Float → Held
engine_alone m readings = left_by m (entering 0 readings) (held (outset (first_area m)))

-- such a minute has the number 9, and the junction of the minute before, or that of the outset; the counts are those of the others alone
pub record KeepsOut (m : Inverter) (readings : List Float) (t : Total) (lists : Minutes) : Type 0 where
  pub number_nine : (i : ℕ) → i < length readings → finite (get_or readings i nan) ≡ false → get_or lists.refusals i 0 ≡ 9
  pub junction_stands : (i : ℕ) → i + 1 < length readings → finite (get_or readings (i + 1) nan) ≡ false
      → get_or lists.junctions (i + 1) nan ≡ get_or lists.junctions i nan
  pub first_junction : 0 < length readings → finite (get_or readings 0 nan) ≡ false
      → get_or lists.junctions 0 nan ≡ get_or (unpack m.n (first_area m) state) 0 nan
  pub above_alone : t.above ≡ above_by m (entering 0 readings) (held (outset (first_area m)))
  pub evaluations_alone : t.evaluations ≡ (engine_alone m readings).counters.evaluations
  pub finished_alone : t.finished_attempts ≡ (engine_alone m readings).counters.finished_attempts
