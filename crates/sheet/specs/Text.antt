-- A day as text. Line 1: the family and the number of temperatures in decimal, then six doubles: the starting temperature, the ambient one,
-- `conduct`, `cool`, `heat` and the rated junction temperature. Lines 2 to 1441: a reading each. A double is the 16 hexadecimal digits of its
-- bits, A to F in capitals. One space stands between two fields, and each line ends in LF, the last included. Nothing else is a day.
use Rattle.std.specs.Prelude.{ℕ, zero, suc, ◌+◌, Bool, cond, ◌&&◌, List, [], ◌∷◌, ◌++◌, ◌≡◌, leb, eqb, length, Float, Option, Some, None, Result, Ok, Err, option_map, option_and_then}
use Rattle.std.specs.Bool.{then_some}
use Rattle.std.specs.Float.{binary64}
use Rattle.std.specs.Float.Ieee.{of_bits}
use Rattle.std.specs.Float.Ieee.Scale.{finite}
use Rattle.family.specs.Family.{known}
use Rattle.fields.specs.Fields.{word_field, number_field, after}
use Rattle.heat_sink.specs.declared.Inverter.{Inverter}
use Rattle.sheet.specs.declared.Malformed.{Malformed}

abbrev pub minutes_a_day : ℕ
minutes_a_day = 1440

abbrev pub most_temperatures : ℕ
most_temperatures = 512

-- the decimal digits that a whole number of line 1 has at most
abbrev pub number_places : ℕ
number_places = 3

abbrev pub space : ℕ
space = 32

abbrev pub line_end : ℕ
line_end = 10

-- ---- line 1

infixl 10 ◌>>=◌
abbrev pub ◌>>=◌ : {A B : Type 0} → Option A → (A → Option B) → Option B
o >>= f = option_and_then f o

abbrev pub double_of_bits : ℕ → Float
double_of_bits bits = of_bits binary64 bits

abbrev pub inverter : ℕ → ℕ → ℕ → ℕ → ℕ → ℕ → ℕ → ℕ → Inverter
inverter family n initial ambient conduct cool heat rated = record {
  family = family;
  n = n;
  initial = double_of_bits initial;
  ambient = double_of_bits ambient;
  conduct = double_of_bits conduct;
  cool = double_of_bits cool;
  heat = double_of_bits heat;
  rated = double_of_bits rated;
}

unfoldable pub finite_constants : Inverter → Bool
finite_constants m = finite m.initial && finite m.ambient && finite m.conduct && finite m.cool && finite m.heat && finite m.rated

-- a family that is carried, a number of temperatures that the engine takes, and constants that are finite
unfoldable pub sound : Inverter → Bool
sound m = known m.family && leb 1 m.n && leb m.n most_temperatures && finite_constants m

-- what line 1 says, and the place after it
pub record Head : Type 0 where
  pub inverter : Inverter
  pub next : ℕ

unfoldable pub if_sound : Inverter → ℕ → Option Head
if_sound m at = then_some (sound m) (record { inverter = m; next = at })

unfoldable pub constants : List ℕ → ℕ → ℕ → ℕ → Option Head
constants text family n at = do
  initial ← word_field space text at
  ambient ← word_field space text initial.next
  conduct ← word_field space text ambient.next
  cool ← word_field space text conduct.next
  heat ← word_field space text cool.next
  rated ← word_field line_end text heat.next
  if_sound (inverter family n initial.value ambient.value conduct.value cool.value heat.value rated.value) rated.next

unfoldable pub first_line : List ℕ → Option Head
first_line text = do
  family ← number_field number_places space text 0
  n ← number_field number_places space text family.next
  constants text family.value n.value n.next

-- an inverter that was read, if one was, and the place after it
abbrev pub head_to : ℕ → Option Inverter → Option Head
head_to next m = option_map (λ m. record { inverter = m; next = next }) m

-- ---- lines 2 to 1441

-- what the lines say: the readings and the place after them, or the first line that is none
pub data Lined : Type 0 where
  Readings : List Float → ℕ → Lined
  BadAtLine : ℕ → Lined

-- so many lines more, from line `line` on, after the readings so far
unfoldable pub lines_from : List ℕ → ℕ → ℕ → ℕ → List Float → Lined
lines_from text zero at line readings = Readings readings at
lines_from text (suc k) at line readings =
    after (BadAtLine line) (word_field line_end text at) (λ bits next. lines_from text k next (line + 1) (readings ++ (double_of_bits bits ∷ [])))

-- the first line that is none
abbrev pub malformed : ℕ → Malformed
malformed line = record { line = line }

-- a slice that is filled by them, and the place where they end; after a bad line, what both are is left open
unfoldable pub Fills : Lined → Result (Unit {0}) Malformed → ℕ → List Float → Type 0
Fills (Readings readings at) said to filled = (said ≡ Ok tt) × (to ≡ at) × (filled ≡ readings)
Fills (BadAtLine line) said to filled = said ≡ Err (malformed line)

-- ---- the whole text

-- a day, or the first line that makes the text none. A line that is missing counts as bad, and so does what follows the last line
pub data Parsed : Type 0 where
  Day : Inverter → List Float → Parsed
  BadAt : ℕ → Parsed

unfoldable pub to_the_end : List ℕ → Inverter → Lined → Parsed
to_the_end text m (Readings readings at) = cond (eqb at (length text)) (Day m readings) (BadAt (minutes_a_day + 2))
to_the_end text m (BadAtLine line) = BadAt line

unfoldable pub after_head : List ℕ → Option Head → Parsed
after_head text (Some head) = to_the_end text head.inverter (lines_from text minutes_a_day head.next 2 [])
after_head text None = BadAt 1

unfoldable pub parsed : List ℕ → Parsed
parsed text = after_head text (first_line text)

-- what the code answers, and the slice that it fills
unfoldable pub Reads : Parsed → Result Inverter Malformed → List Float → Type 0
Reads (Day m readings) said filled = (said ≡ Ok m) × (filled ≡ readings)
Reads (BadAt line) said filled = said ≡ Err (malformed line)
