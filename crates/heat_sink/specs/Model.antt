-- The heat sink: a chain of temperatures, 0 the junction, and how fast each changes (K/s) while the meter reads `reading` (W). Every operation is a
-- double's, in this order. `heat` is in K per joule, `conduct` and `cool` in 1/s. ⊖ ⊗ are operations on doubles: they round.
use Rattle.std.specs.Prelude.{ℕ, zero, suc, ◌+◌, cond, List, ltb, length, get_or, Float}
use Rattle.std.specs.Float.{nan}
use Rattle.ieee.specs.Double.{◌⊖◌, ◌⊗◌}
use Rattle.workspace.specs.Vectors.{tabulate}
use Rattle.heat_sink.specs.declared.Inverter.{Inverter}

module _ (m : Inverter) (y : List Float) where
  abbrev pub temperature : ℕ → Float
  temperature i = get_or y i nan

  -- from link i to the next
  unfoldable pub along : ℕ → Float
  along i = m.conduct ⊗ (temperature i ⊖ temperature (i + 1))

  -- the junction is heated by the reading, the others by the link before
  unfoldable pub into : Float → ℕ → Float
  into reading zero = m.heat ⊗ reading
  into reading (suc i) = along i

  -- the last link is cooled by the air
  unfoldable pub out_of : ℕ → Float
  out_of i = cond (ltb (i + 1) (length y)) (along i) (m.cool ⊗ (temperature i ⊖ m.ambient))

  unfoldable pub rate : Float → ℕ → Float
  rate reading i = into reading i ⊖ out_of i

  unfoldable pub rates : Float → List Float
  rates reading = tabulate (rate reading) 0 (length y)
