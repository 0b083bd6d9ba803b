-- What readings that are not finite do to a day: docs/DECISIONS.md 40. Such a minute is refused and listed with 9, and never enters the engine: the day
-- leaves the engine as its other minutes alone do.
use Rattle.std.specs.Prelude.{ℕ, ◌+◌, cond, List, [], ◌∷◌, Float}
use Rattle.std.specs.Float.Ieee.Scale.{finite}
use Rattle.driver.specs.Calls.{Held, Called, no_figures}
use Rattle.heat_sink.specs.declared.Inverter.{Inverter}
use Rattle.inverter.specs.declared.Count.{Count}
use Rattle.inverter.specs.Day.{SoFar, so_far, longer, junction, is_above, one_if, passed}

-- one minute more, refused with 9: record, counters, area and the minutes above stand, its junction is the one at hand, and it tells no attempt
unfoldable pub kept_out : Inverter → SoFar → SoFar
kept_out m t =
    let count : Count = record { «record» = t.count.«record»; counters = t.count.counters; above = t.count.above; refused = t.count.refused + 1 } in
    so_far count t.area (longer t.lists 9 (junction m t.count.«record».phase t.area) no_figures)

-- a minute that enters the engine, and its reading
pub record Entering : Type 0 where
  pub minute : ℕ
  pub reading : Float

abbrev pub entering_with : ℕ → Float → Entering
entering_with minute reading = record { minute = minute; reading = reading }

-- those of a day, from this minute on, their readings being the finite ones: each keeps its number, and so its time
unfoldable pub entering : ℕ → List Float → List Entering
entering minute [] = []
entering minute (reading ∷ readings) = cond (finite reading) (entering_with minute reading ∷ entering (minute + 1) readings) (entering (minute + 1) readings)

-- the reading of the next of them, and where there is none the present one
unfoldable pub next_reading : Float → List Entering → Float
next_reading reading [] = reading
next_reading reading (e ∷ es) = e.reading

-- what the engine is left with by these minutes alone, one after another
unfoldable pub left_by : Inverter → List Entering → Held → Held
left_by m [] h = h
left_by m (e ∷ es) h = left_by m es (passed m e.minute e.reading (next_reading e.reading es) h).held

-- whether a minute that came to c counts as above, and how many of these do
abbrev pub above_at : Inverter → Called → ℕ
above_at m c = one_if (is_above m c.answer (junction m c.held.kept.phase c.held.area))

unfoldable pub above_by : Inverter → List Entering → Held → ℕ
above_by m [] h = 0
above_by m (e ∷ es) h = let c = passed m e.minute e.reading (next_reading e.reading es) h in above_at m c + above_by m es c.held
