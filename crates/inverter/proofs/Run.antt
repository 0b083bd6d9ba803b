-- The minutes of a day, one after another, by their definitions. Assumes nothing.
use mathlib.Core.Path.{◌≡◌, refl, sym, ap, ◌∙◌}
use mathlib.Core.Bool.{Bool, true, false, cond, not}
use mathlib.Core.List.{List, [], ◌∷◌, ◌++◌}
use Prim.Native.Nat.{ℕ, ◌+◌, ◌≤◌, ◌<◌}
use native.Mathlib.Numerals.{add-one}
use native.Mathlib.Omega.{arith}
use lib.Dec.{eqb}
use lib.ListN.{length, get_or, take, drop, set, drop_of_length-le}
use lib.Seq.{drop-cons, take_all}
use lib.Ieee.{Float, nan}
use lib.Ieee.Scale.{finite}
use Rattle.std.specs.Option.{unwrap_or}
use Rattle.std.specs.List.{find}
use Rattle.std.specs.Prelude.{Option, Some, Ok, Err}
use Rattle.std.proofs.lemmas.List.{map-append, take_more_set}
use Rattle.workspace.specs.Vectors.{unpack, state, candidate}
use Rattle.driver.specs.declared.Phase.{Phase}
use Rattle.driver.specs.declared.Answer.{Answer}
use Rattle.driver.specs.declared.Replied.{Replied}
use Rattle.driver.specs.Calls.{Called, may_accept, figures_in}
use Rattle.driver.specs.Promises.{holding}
use Rattle.heat_sink.specs.declared.Inverter.{Inverter}
use Rattle.inverter.specs.declared.Count.{Count}
use Rattle.inverter.specs.declared.Total.{Total}
use Rattle.inverter.specs.declared.Minute.{Minute}
use Rattle.inverter.specs.Day.{one_if, whole_minute, upcoming, junction, is_above, refusal, minute_counted, end_of, so_far, held, with_minute, run}
use Rattle.inverter.specs.Day.{Minutes, columns, longer, told, first_area, outset, GivesTotal, Reports, reported, day}
use Rattle.sheet.specs.Text as Text
use Rattle.sheet.specs.Text.{malformed}

pub one_most : (b : Bool) → one_if b ≤ 1
one_most true = omega arith
one_most false = omega arith

-- a minute more counts at most one more
pub above_most : (m : Inverter) (e : Replied) (x : Float) (t : Count) (i : ℕ) → t.above ≤ i → (minute_counted m e x t).above ≤ i + 1
unfolding minute_counted
above_most m e x t i h = omega (arith, one_most (is_above m e.answer x))

pub refused_most : (m : Inverter) (e : Replied) (x : Float) (t : Count) (i : ℕ) → t.refused ≤ i → (minute_counted m e x t).refused ≤ i + 1
unfolding minute_counted
refused_most m e x t i h = omega (arith, one_most (not (eqb (refusal e.answer) 0)))

-- the junction: the first temperature of the candidate, or of the kept state
module _ (m : Inverter) (phase : Phase) (area : List Float) where
  pub junction_candidate : may_accept phase ≡ true → get_or (unpack m.n area candidate) 0 nan ≡ junction m phase area
  unfolding junction
  junction_candidate e = simp e

  pub junction_state : may_accept phase ≡ false → get_or (unpack m.n area state) 0 nan ≡ junction m phase area
  unfolding junction
  junction_state e = simp e

-- the reading that follows
pub upcoming_found : (reading : Float) (readings : List Float) → unwrap_or (find finite readings) reading ≡ upcoming reading readings
unfolding upcoming
upcoming_found reading [] = refl
upcoming_found reading (after ∷ readings) = go (finite after) _ _ (upcoming_found reading readings)
  where
    go : (b : Bool) (found : Option Float) (x : Float) → unwrap_or found reading ≡ x → unwrap_or (cond b (Some after) found) reading ≡ cond b after x
    go true found x e = refl
    go false found x e = e

-- ---- what is told

-- one minute more
longer_columns : (ms : List Minute) (a : Answer) (temperature : Float)
    → longer (columns ms) (refusal a) temperature (figures_in a) ≡ columns (ms ++ (told a temperature ∷ []))
unfolding longer told
longer_columns ms a temperature = simp map-append

-- ---- the minutes

-- a minute, of which the code has found the end, what is counted, the junction temperature and what is told
module _ (m : Inverter) (readings : List Float) (i : ℕ) (count : Count) (area : List Float) (ms : List Minute) where
  pub minute_turn : (end : Called) {count' : Count} {temperature after : Float} {row : Minute} → i < length readings → i < length ms
      → after ≡ upcoming (get_or readings i nan) (drop (i + 1) readings)
      → end ≡ whole_minute m i (get_or readings i nan) after (holding count.«record» count.counters area)
      → temperature ≡ junction m end.held.kept.phase end.held.area → row ≡ told end.answer temperature
      → count' ≡ minute_counted m (end_of end) temperature count
      → run m i (drop i readings) (so_far count area (columns (take i ms)))
      ≡ run m (i + 1) (drop (i + 1) readings) (so_far count' end.held.area (columns (take (i + 1) (set ms i row))))
  unfolding run with_minute
  minute_turn end {count'} {temperature} {after} {row} h room u e j w f =
      let told_so_far = columns (take i ms) in
      let t = so_far count area told_so_far in
      let rest = drop (i + 1) readings in
      let here = get_or readings i nan in
      let more : Float → Minutes = λ x. longer told_so_far (refusal end.answer) x (figures_in end.answer) in
      ap (λ (xs : List Float). run m i xs t) (drop-cons readings i nan h)
      ∙ ap (λ (k : ℕ). run m (i + 1) (drop k readings) (with_minute m (whole_minute m i here (upcoming here (drop k readings)) (held t)) t)) (sym (add-one i))
      ∙ ap (λ (x : Float). run m (i + 1) rest (with_minute m (whole_minute m i here x (held t)) t)) (sym u)
      ∙ ap (λ (c : Called). run m (i + 1) rest (with_minute m c t)) (sym e)
      ∙ ap (λ (x : Float). run m (i + 1) rest (so_far (minute_counted m (end_of end) x count) end.held.area (more x))) (sym j)
      ∙ ap (λ (c : Count). run m (i + 1) rest (so_far c end.held.area (more temperature))) (sym f)
      ∙ ap (λ (l : Minutes). run m (i + 1) rest (so_far count' end.held.area l))
      (longer_columns (take i ms) end.answer temperature
      ∙ ap (λ (x : Minute). columns (take i ms ++ (x ∷ []))) (sym w)
      ∙ ap columns (sym (take_more_set ms i row room)))

  -- after the last minute
  pub minutes_end : length readings ≤ i → length ms ≤ i
      → run m i (drop i readings) (so_far count area (columns (take i ms))) ≡ so_far count area (columns ms)
  unfolding run
  minutes_end h all =
      ap (λ (xs : List Float). run m i xs (so_far count area (columns (take i ms)))) (drop_of_length-le readings h)
      ∙ ap (λ (xs : List Minute). so_far count area (columns xs)) (take_all i ms all)

-- the report of a text that is a day, and of one that is none
module _ (text : List ℕ) (before : Minutes) where
  pub reports_day : {m : Inverter} {readings : List Float} {r : Total} {left : Minutes} → Text.parsed text ≡ Text.Day m readings
      → GivesTotal (run m 0 readings (outset (first_area m))) r left → Reports (day text before) (Ok r) left
  unfolding day reported
  reports_day e t = rw e (record { results = ap Ok t.totals; lists = t.lists })

  pub reports_bad : {line : ℕ} → Text.parsed text ≡ Text.BadAt line → Reports (day text before) (Err (malformed line)) before
  unfolding day reported
  reports_bad e = rw e (record { results = refl; lists = refl })
