-- A day of one inverter, over the calls of the engine: the heat sink's temperatures a minute at a time, each minute heated by its reading, and how
-- many minutes end with the junction above its rated temperature. ⊘ is an operation on doubles: it rounds.
use Rattle.std.specs.Prelude.{ℕ, zero, suc, ◌+◌, ◌*◌, Bool, true, false, cond, not, ◌&&◌, List, [], ◌∷◌, ◌++◌, ◌≡◌, eqb, length, get_or, map, replicate, Float, Result, Ok, Err}
use Rattle.std.specs.Float.{nan}
use Rattle.std.specs.Float.Ieee.{lt}
use Rattle.std.specs.Float.Ieee.Scale.{finite}
use Rattle.ieee.specs.Double.{◌⊘◌, double, nought, one}
use Rattle.workspace.specs.declared.Arguments.{Arguments}
use Rattle.family.specs.Family.{family_of, most_stages}
use Rattle.workspace.specs.Vectors.{Vectors, ◌with◌≔◌, number, named, vector_count, pack, state, candidate, unpack}
use Rattle.driver.specs.declared.Phase.{Phase}
use Rattle.driver.specs.declared.Figures.{Figures}
use Rattle.driver.specs.declared.Answer.{Answer}
use Rattle.driver.specs.declared.Answer.TheVariants.{Evaluate, Finished, Ready, Refused, Empty}
use Rattle.driver.specs.declared.Counters.{Counters}
use Rattle.driver.specs.declared.Replied.{Replied}
use Rattle.driver.specs.Calls.{Held, Called, may_accept, figures_in, start, attempt, reply, accept}
use Rattle.driver.specs.Promises.{new_record, holding}
use Rattle.heat_sink.specs.declared.Inverter.{Inverter}
use Rattle.inverter.specs.declared.Count.{Count}
use Rattle.inverter.specs.declared.Total.{Total}
use Rattle.inverter.specs.declared.Minute.{Minute}
use Rattle.sheet.specs.declared.Malformed.{Malformed}
use Rattle.sheet.specs.Text as Text
use Rattle.sheet.specs.Text.{malformed}
use Rattle.heat_sink.specs.Model.{rates}

-- ---- a minute

unfoldable pub time_of : ℕ → Float
time_of minute = double (60 * minute)

-- one step of 60 seconds. Without `adaptive` the tolerances are tested and not used
unfoldable pub arguments : ℕ → Arguments
arguments minute = record { time = time_of minute; step = double 60; absolute_tolerance = one; relative_tolerance = one; adaptive = false }

abbrev pub called : Answer → Held → Called
called a h = record { answer = a; held = h }

-- A minute goes on from the candidate of the last attempt, where that was finished. Any other starts from the kept state: the first minute, and one after
-- a minute that the engine refused
unfoldable pub begun : Inverter → ℕ → Held → Called
begun m minute h =
    cond (may_accept h.kept.phase) (accept h) (start h m.family m.n (unpack m.n h.area state) (time_of minute))

-- a reading holds through its minute, so that the rate jumps at the minute's end: there, at the candidate, the upcoming reading holds
unfoldable pub reading_at : Float → Float → ℕ → Float
reading_at reading upcoming vector = cond (eqb vector (number candidate)) upcoming reading

-- the most calls that follow the first: the state's evaluation, the attempt, and as many replies as an attempt takes, at most 12 passes and the
-- most stages of any family
abbrev pub most_calls : ℕ
most_calls = 2 + 12 + most_stages

module _ (m : Inverter) (minute : ℕ) (reading upcoming : Float) where
  -- the call that an answer asks for; none after finished, refused and empty
  unfoldable pub go_on : Answer → Held → Called
  go_on (Evaluate time vector) h = reply h (rates m (unpack m.n h.area (named vector)) (reading_at reading upcoming vector))
  go_on Ready h = attempt h (arguments minute)
  go_on (Finished figures) h = called (Finished figures) h
  go_on (Refused number) h = called (Refused number) h
  go_on Empty h = called Empty h

  unfoldable pub next : Called → Called
  next c = go_on c.answer c.held

  unfoldable pub driven : ℕ → Called → Called
  driven zero c = c
  driven (suc k) c = driven k (next c)

  unfoldable pub passed : Held → Called
  passed h = driven most_calls (begun m minute h)

  -- A reading that is not finite never enters the engine: refused there, it would cost the minutes that follow the eigenvector, and so their stage counts.
  -- Its minute makes no call, so that record, counters and area stand, and has the number of a derivative that is not finite
  unfoldable pub whole_minute : Held → Called
  whole_minute h = cond (finite reading) (passed h) (called (Refused 9) h)

-- ---- the minutes of a day

-- the reading that holds from a minute's end on: the next finite one, since no other enters the engine, and the minute's own where there is none
unfoldable pub upcoming : Float → List Float → Float
upcoming reading [] = reading
upcoming reading (after ∷ readings) = cond (finite after) after (upcoming reading readings)

unfoldable pub finished : Answer → Bool
finished (Finished figures) = true
finished (Evaluate time vector) = false
finished Ready = false
finished (Refused number) = false
finished Empty = false

-- the present temperature of the junction: the candidate's after a finished attempt that is not accepted yet, else that of the kept state
unfoldable pub junction : Inverter → Phase → List Float → Float
junction m phase area = get_or (cond (may_accept phase) (unpack m.n area candidate) (unpack m.n area state)) 0 nan

-- a minute counts as above where it is finished with its junction above the rated temperature
unfoldable pub is_above : Inverter → Answer → Float → Bool
is_above m a temperature = finished a && lt m.rated temperature

-- the number that a minute is refused with, 0 where it is not
unfoldable pub refusal : Answer → ℕ
refusal (Refused number) = number
refusal (Evaluate time vector) = 0
refusal (Finished figures) = 0
refusal Ready = 0
refusal Empty = 0

abbrev pub one_if : Bool → ℕ
one_if b = cond b 1 0

-- one more minute, its last answer, record and counters, and its junction temperature
unfoldable pub minute_counted : Inverter → Replied → Float → Count → Count
minute_counted m end temperature t = record {
  «record» = end.«record»;
  counters = end.counters;
  above = t.above + one_if (is_above m end.answer temperature);
  refused = t.refused + one_if (not (eqb (refusal end.answer) 0));
}

-- what a day tells of its minutes, in five lists: the number that a minute was refused with (0 for none), its junction at the end, and s, k and r of its
-- finished attempt (0 for none)
pub record Minutes : Type 0 where
  pub refusals : List ℕ
  pub junctions : List Float
  pub stages : List ℕ
  pub passes : List ℕ
  pub scaled_radii : List Float

abbrev pub minutes : List ℕ → List Float → List ℕ → List ℕ → List Float → Minutes
minutes refusals junctions stages passes scaled_radii =
    record { refusals = refusals; junctions = junctions; stages = stages; passes = passes; scaled_radii = scaled_radii }

-- the five lists of the minutes that the code keeps one after another
abbrev pub columns : List Minute → Minutes
columns ms =
    minutes (map (λ (m : Minute). m.refusal) ms) (map (λ (m : Minute). m.junction) ms) (map (λ (m : Minute). m.stages) ms)
    (map (λ (m : Minute). m.passes) ms) (map (λ (m : Minute). m.scaled_radius) ms)

-- each of the lists has so many entries
pub record Entries (count : ℕ) (lists : Minutes) : Type 0 where
  pub a_number_each : length lists.refusals ≡ count
  pub a_junction_each : length lists.junctions ≡ count
  pub stages_each : length lists.stages ≡ count
  pub passes_each : length lists.passes ≡ count
  pub a_radius_each : length lists.scaled_radii ≡ count

-- one minute more: its number, its junction and its figures
unfoldable pub longer : Minutes → ℕ → Float → Figures → Minutes
longer lists number temperature figures =
    minutes (lists.refusals ++ (number ∷ [])) (lists.junctions ++ (temperature ∷ [])) (lists.stages ++ (figures.stages ∷ []))
    (lists.passes ++ (figures.passes ∷ [])) (lists.scaled_radii ++ (figures.scaled_radius ∷ []))

-- what the minutes so far come to, the area as it stands, and what is told of each
pub record SoFar : Type 0 where
  pub count : Count
  pub area : List Float
  pub lists : Minutes

abbrev pub so_far : Count → List Float → Minutes → SoFar
so_far count area lists = record { count = count; area = area; lists = lists }

abbrev pub held : SoFar → Held
held t = holding t.count.«record» t.count.counters t.area

abbrev pub end_of : Called → Replied
end_of c = record { answer = c.answer; «record» = c.held.kept; counters = c.held.counters }

unfoldable pub with_minute : Inverter → Called → SoFar → SoFar
with_minute m c t = let temperature = junction m c.held.kept.phase c.held.area in
    so_far (minute_counted m (end_of c) temperature t.count) c.held.area (longer t.lists (refusal c.answer) temperature (figures_in c.answer))

unfoldable pub run : Inverter → ℕ → List Float → SoFar → SoFar
run m minute [] t = t
run m minute (reading ∷ readings) t =
    run m (minute + 1) readings (with_minute m (whole_minute m minute reading (upcoming reading readings) (held t)) t)

unfoldable pub no_count : Count
no_count = let none : Counters = record { evaluations = 0; finished_attempts = 0 } in
    record { «record» = new_record; counters = none; above = 0; refused = 0 }

abbrev pub outset : List Float → SoFar
outset area = so_far no_count area (minutes [] [] [] [] [])

-- how many doubles the area has, and room for it whatever the family and n: at most 12 vectors of at most 512
abbrev pub area_size : Inverter → ℕ
area_size m = vector_count (family_of m.family) * m.n

abbrev pub largest_area : ℕ
largest_area = 12 * 512

-- at the outset the kept state is the starting temperature throughout, and all else is 0
unfoldable pub first_area : Inverter → List Float
first_area m = let zeros : Vectors = unpack m.n (replicate (area_size m) nought) in
    pack (zeros with state ≔ replicate m.n m.initial)

-- ---- the day

unfoldable pub total_of : Count → Total
total_of t = record {
  hours = double t.above ⊘ double 60;
  above = t.above;
  evaluations = t.counters.evaluations;
  finished_attempts = t.counters.finished_attempts;
  refused = t.refused;
}

abbrev pub total : SoFar → Total
total t = total_of t.count

-- the result, and what the lists are left as
pub record Report : Type 0 where
  pub result : Result Total Malformed
  pub lists : Minutes

-- a text that is no day leaves the lists as they were before
unfoldable pub reported : Text.Parsed → Minutes → Report
reported (Text.Day m readings) before = let t = run m 0 readings (outset (first_area m)) in
    record { result = Ok (total t); lists = t.lists }
reported (Text.BadAt line) before = record { result = Err (malformed line); lists = before }

-- the report of a text
unfoldable pub day : List ℕ → Minutes → Report
day text before = reported (Text.parsed text) before

-- the result that the code gives and the five lists that it leaves are those of the report
pub record Reports (promised : Report) (given : Result Total Malformed) (left : Minutes) : Type 0 where
  pub results : given ≡ promised.result
  pub lists : left ≡ promised.lists

-- ---- the code's values

-- what is told of a minute
unfoldable pub told : Answer → Float → Minute
told a temperature = let figures = figures_in a in
    record {
      refusal = refusal a;
      junction = temperature;
      stages = figures.stages;
      passes = figures.passes;
      scaled_radius = figures.scaled_radius;
    }

-- the total that the code gives and the five lists that it leaves
pub record GivesTotal (t : SoFar) (given : Total) (left : Minutes) : Type 0 where
  pub totals : given ≡ total t
  pub lists : left ≡ t.lists

-- what a call of the code hands back, with the area it leaves
abbrev pub given : Replied → List Float → Called
given r area = called r.answer (holding r.«record» r.counters area)

-- the vector that an answer asks about (0 where it asks nothing)
unfoldable pub asked : Answer → ℕ
asked (Evaluate time vector) = vector
asked (Finished figures) = 0
asked Ready = 0
asked (Refused number) = 0
asked Empty = 0

-- whether it asks for no call
unfoldable pub asks_no_call : Answer → Bool
asks_no_call (Evaluate time vector) = false
asks_no_call (Finished figures) = true
asks_no_call Ready = false
asks_no_call (Refused number) = true
asks_no_call Empty = true
