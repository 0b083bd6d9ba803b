-- What the programs write of a day, byte for byte: the total, the counts and a line for each refused minute, or else a line for each minute with its junction,
-- s, k and r; or the line that makes the text no day. README, "Two commands". Definitions only.
use Rattle.std.specs.Prelude.{ℕ, zero, suc, ◌*◌, ◌/◌, ◌%◌, cond, List, [], ◌∷◌, ◌++◌, eqb, get_or, replicate, Float, Result, Ok, Err}
use Rattle.std.specs.Float.{nan, binary64}
use Rattle.std.specs.Float.Ieee.{to_bits}
use Rattle.ieee.specs.Double.{nought}
use Rattle.page.specs.Page.{digits, decimal, word}
use Rattle.sheet.specs.Text.{minutes_a_day}
use Rattle.inverter.specs.declared.Total.{Total}
use Rattle.sheet.specs.declared.Malformed.{Malformed}
use Rattle.inverter.specs.Day.{Minutes, minutes, Report, day}
use Rattle.accounts.specs.Accounts.{RefusedMinute, refused_minute, listed}

-- ---- words, in ASCII

-- "total "
abbrev pub total_text : List ℕ
total_text = 116 ∷ 111 ∷ 116 ∷ 97 ∷ 108 ∷ 32 ∷ []

-- "\nhours above "
abbrev pub hours_above_text : List ℕ
hours_above_text = 10 ∷ 104 ∷ 111 ∷ 117 ∷ 114 ∷ 115 ∷ 32 ∷ 97 ∷ 98 ∷ 111 ∷ 118 ∷ 101 ∷ 32 ∷ []

-- "\nminutes above "
abbrev pub minutes_above_text : List ℕ
minutes_above_text = 10 ∷ 109 ∷ 105 ∷ 110 ∷ 117 ∷ 116 ∷ 101 ∷ 115 ∷ 32 ∷ 97 ∷ 98 ∷ 111 ∷ 118 ∷ 101 ∷ 32 ∷ []

-- "evaluations "
abbrev pub evaluations_text : List ℕ
evaluations_text = 101 ∷ 118 ∷ 97 ∷ 108 ∷ 117 ∷ 97 ∷ 116 ∷ 105 ∷ 111 ∷ 110 ∷ 115 ∷ 32 ∷ []

-- "finished attempts "
abbrev pub finished_attempts_text : List ℕ
finished_attempts_text = 102 ∷ 105 ∷ 110 ∷ 105 ∷ 115 ∷ 104 ∷ 101 ∷ 100 ∷ 32 ∷ 97 ∷ 116 ∷ 116 ∷ 101 ∷ 109 ∷ 112 ∷ 116 ∷ 115 ∷ 32 ∷ []

-- "refused minutes "
abbrev pub refused_minutes_text : List ℕ
refused_minutes_text = 114 ∷ 101 ∷ 102 ∷ 117 ∷ 115 ∷ 101 ∷ 100 ∷ 32 ∷ 109 ∷ 105 ∷ 110 ∷ 117 ∷ 116 ∷ 101 ∷ 115 ∷ 32 ∷ []

-- "minute "
abbrev pub minute_text : List ℕ
minute_text = 109 ∷ 105 ∷ 110 ∷ 117 ∷ 116 ∷ 101 ∷ 32 ∷ []

-- " refused with "
abbrev pub refused_with_text : List ℕ
refused_with_text = 32 ∷ 114 ∷ 101 ∷ 102 ∷ 117 ∷ 115 ∷ 101 ∷ 100 ∷ 32 ∷ 119 ∷ 105 ∷ 116 ∷ 104 ∷ 32 ∷ []

-- "malformed at line "
abbrev pub malformed_text : List ℕ
malformed_text = 109 ∷ 97 ∷ 108 ∷ 102 ∷ 111 ∷ 114 ∷ 109 ∷ 101 ∷ 100 ∷ 32 ∷ 97 ∷ 116 ∷ 32 ∷ 108 ∷ 105 ∷ 110 ∷ 101 ∷ 32 ∷ []

-- ", no total\n"
abbrev pub no_total_text : List ℕ
no_total_text = 44 ∷ 32 ∷ 110 ∷ 111 ∷ 32 ∷ 116 ∷ 111 ∷ 116 ∷ 97 ∷ 108 ∷ 10 ∷ []

abbrev pub point_text : List ℕ
point_text = 46 ∷ []

abbrev pub space_text : List ℕ
space_text = 32 ∷ []

abbrev pub line_end : List ℕ
line_end = 10 ∷ []

-- ---- lines

-- a double as the 16 hexadecimal digits of its bits
unfoldable pub bits_text : Float → List ℕ
bits_text x = word (to_bits binary64 x)

-- minutes as hours, cut to four places
unfoldable pub hours_text : ℕ → List ℕ
hours_text minutes = decimal (minutes / 60) ++ point_text ++ digits 10 4 (minutes % 60 * 10000 / 60)

unfoldable pub count_line : List ℕ → ℕ → List ℕ
count_line name n = name ++ decimal n ++ line_end

unfoldable pub heading : Total → List ℕ
heading t = total_text ++ bits_text t.hours ++ hours_above_text ++ hours_text t.above

unfoldable pub counts : Total → List ℕ
counts t =
    count_line minutes_above_text t.above
    ++ count_line evaluations_text t.evaluations
    ++ count_line finished_attempts_text t.finished_attempts
    ++ count_line refused_minutes_text t.refused

unfoldable pub refusal_line : RefusedMinute → List ℕ
refusal_line e = minute_text ++ decimal e.minute ++ count_line refused_with_text e.number

-- of a minute and its number; none where that is 0
unfoldable pub refused_line : ℕ → ℕ → List ℕ
refused_line minute number = cond (eqb number 0) [] (refusal_line (refused_minute minute number))

unfoldable pub refusal_lines : List RefusedMinute → List ℕ
refusal_lines [] = []
refusal_lines (e ∷ es) = refusal_line e ++ refusal_lines es

unfoldable pub malformed_line : ℕ → List ℕ
malformed_line line = malformed_text ++ decimal line ++ no_total_text

-- a number after a space
unfoldable pub spaced : ℕ → List ℕ
spaced n = space_text ++ decimal n

-- of a minute: its junction's bits, s, k and the bits of r, a space between two of them
unfoldable pub minute_line : Float → ℕ → ℕ → Float → List ℕ
minute_line junction s k r = bits_text junction ++ spaced s ++ spaced k ++ space_text ++ bits_text r ++ line_end

-- of the first minutes, so many
module _ (junctions : List Float) (stages passes : List ℕ) (scaled_radii : List Float) where
  unfoldable pub minute_lines : ℕ → List ℕ
  minute_lines zero = []
  minute_lines (suc i) = minute_lines i ++ minute_line (get_or junctions i nan) (get_or stages i 0) (get_or passes i 0) (get_or scaled_radii i nan)

-- ---- the whole text

-- the lists before the day is read
abbrev pub no_lists : Minutes
no_lists = let zeros : List ℕ = replicate minutes_a_day 0 in
    let noughts : List Float = replicate minutes_a_day nought in
    minutes zeros noughts zeros zeros noughts

-- the report of a text; of one that is no day, only its result is written
unfoldable pub report : List ℕ → Report
report text = day text no_lists

unfoldable pub day_text : Result Total Malformed → List ℕ → List ℕ
day_text (Ok t) refusals = heading t ++ counts t ++ refusal_lines (listed 0 refusals)
day_text (Err malformed) refusals = malformed_line malformed.line

unfoldable pub minutes_text : Result Total Malformed → Minutes → List ℕ
minutes_text (Ok t) lists = minute_lines lists.junctions lists.stages lists.passes lists.scaled_radii minutes_a_day
minutes_text (Err malformed) lists = malformed_line malformed.line

-- what `day` writes, and what `minutes` writes
unfoldable pub day_page : List ℕ → List ℕ
day_page text = day_text (report text).result (report text).lists.refusals

unfoldable pub minutes_page : List ℕ → List ℕ
minutes_page text = minutes_text (report text).result (report text).lists

-- ---- the page that it is put on

-- the bytes that there is room for: more than 1,440 lines of at most 76
abbrev pub room : ℕ
room = 110000
