-- Readings that are not finite: their minutes are refused with 9 and leave the engine as it was (`kept_out_minute`); no derivative is worked out from one
-- (`finite_at`); and a day leaves the engine as its minutes with a finite reading alone leave it (`left_by_finite`),
-- and those alone are above (`above_by_finite`). From the definitions alone.
use mathlib.Core.Path.{◌≡◌, refl, sym, ap, ◌∙◌}
use mathlib.Core.Bool.{Bool, true, false, cond}
use mathlib.Core.List.{List, [], ◌∷◌}
use Prim.Native.Nat.{ℕ, ◌+◌}
use native.Mathlib.Nat.{add-zero, zero-add}
use native.Mathlib.Omega.{arith}
use lib.Dec.{eqb}
use lib.Ieee.{Float}
use lib.Ieee.Scale.{finite}
use Rattle.workspace.specs.Vectors.{number, candidate}
use Rattle.driver.specs.Calls.{Called, no_figures, figures_in}
use Rattle.heat_sink.specs.declared.Inverter.{Inverter}
use Rattle.inverter.specs.declared.Count.{Count}
use Rattle.inverter.specs.Day.{reading_at, passed, whole_minute, upcoming, finished, junction, is_above, refusal, minute_counted, longer}
use Rattle.inverter.specs.Day.{SoFar, so_far, held, with_minute, run}
use Rattle.inverter.specs.Finite.{kept_out, Entering, entering_with, entering, next_reading, left_by, above_at, above_by}
use Rattle.inverter.proofs.Calls.{minute_finite, minute_not_finite}

module _ (m : Inverter) (minute : ℕ) (reading after : Float) where
  -- a minute whose reading is not finite
  pub kept_out_minute : (t : SoFar) → finite reading ≡ false → with_minute m (whole_minute m minute reading after (held t)) t ≡ kept_out m t
  unfolding with_minute minute_counted is_above finished refusal figures_in kept_out
  kept_out_minute t e =
      let n = t.count in
      let count : ℕ → Count = λ above. record { «record» = n.«record»; counters = n.counters; above = above; refused = n.refused + 1 } in
      let temperature = junction m t.count.«record».phase t.area in
      ap (λ (c : Called). with_minute m c t) (sym (minute_not_finite m minute reading after (held t) e))
      ∙ ap (λ (above : ℕ). so_far (count above) t.area (longer t.lists 9 temperature no_figures)) (add-zero t.count.above)

-- the reading from a minute's end on is finite where the minute's own is
upcoming_finite : (reading : Float) (readings : List Float) → finite reading ≡ true → finite (upcoming reading readings) ≡ true
unfolding upcoming
upcoming_finite reading [] e = e
upcoming_finite reading (after ∷ readings) e = go (finite after) refl (upcoming_finite reading readings e)
  where
    go : (b : Bool) → finite after ≡ b → finite (upcoming reading readings) ≡ true → finite (cond b after (upcoming reading readings)) ≡ true
    go true f later = f
    go false f later = later

-- every derivative of a minute that enters the engine is worked out from a finite reading
pub finite_at : (reading : Float) (readings : List Float) (vector : ℕ) → finite reading ≡ true
    → finite (reading_at reading (upcoming reading readings) vector) ≡ true
unfolding reading_at
finite_at reading readings vector e = go (eqb vector (number candidate))
  where
    go : (b : Bool) → finite (cond b (upcoming reading readings) reading) ≡ true
    go true = upcoming_finite reading readings e
    go false = e

-- the next finite reading is that of the next minute that enters
next_upcoming : (minute : ℕ) (reading : Float) (readings : List Float) → upcoming reading readings ≡ next_reading reading (entering minute readings)
unfolding upcoming entering next_reading
next_upcoming minute reading [] = refl
next_upcoming minute reading (after ∷ readings) = go (finite after) (next_upcoming (minute + 1) reading readings)
  where
    go : (b : Bool) → upcoming reading readings ≡ next_reading reading (entering (minute + 1) readings)
        → cond b after (upcoming reading readings)
        ≡ next_reading reading (cond b (entering_with minute after ∷ entering (minute + 1) readings) (entering (minute + 1) readings))
    go true later = refl
    go false later = later

-- the engine after a day's minutes
pub left_by_finite : (m : Inverter) (minute : ℕ) (readings : List Float) (t : SoFar)
    → held (run m minute readings t) ≡ left_by m (entering minute readings) (held t)
unfolding run with_minute minute_counted entering left_by
left_by_finite m minute [] t = refl
left_by_finite m minute (reading ∷ readings) t =
    let c = whole_minute m minute reading (upcoming reading readings) (held t) in
    left_by_finite m (minute + 1) readings (with_minute m c t) ∙ go (finite reading) refl
  where
    rest : List Entering
    rest = entering (minute + 1) readings

    go : (b : Bool) → finite reading ≡ b
        → left_by m rest (whole_minute m minute reading (upcoming reading readings) (held t)).held
        ≡ left_by m (cond b (entering_with minute reading ∷ rest) rest) (held t)
    go true e =
        ap (λ (c : Called). left_by m rest c.held) (sym (minute_finite m minute reading (upcoming reading readings) (held t) e))
        ∙ ap (λ (x : Float). left_by m rest (passed m minute reading x (held t)).held) (next_upcoming (minute + 1) reading readings)
    go false e = ap (λ (c : Called). left_by m rest c.held) (sym (minute_not_finite m minute reading (upcoming reading readings) (held t) e))

-- and the minutes above
pub above_by_finite : (m : Inverter) (minute : ℕ) (readings : List Float) (t : SoFar)
    → (run m minute readings t).count.above ≡ t.count.above + above_by m (entering minute readings) (held t)
unfolding run with_minute minute_counted entering above_by is_above finished
above_by_finite m minute [] t = omega arith
above_by_finite m minute (reading ∷ readings) t =
    let c = whole_minute m minute reading (upcoming reading readings) (held t) in
    let later = above_by_finite m (minute + 1) readings (with_minute m c t) in
    let now = go (finite reading) refl in
    omega (arith, later, now)
  where
    rest : List Entering
    rest = entering (minute + 1) readings

    from : Called → ℕ
    from c = above_at m c + above_by m rest c.held

    go : (b : Bool) → finite reading ≡ b
        → from (whole_minute m minute reading (upcoming reading readings) (held t)) ≡ above_by m (cond b (entering_with minute reading ∷ rest) rest) (held t)
    go true e =
        ap from (sym (minute_finite m minute reading (upcoming reading readings) (held t) e))
        ∙ ap (λ (x : Float). from (passed m minute reading x (held t))) (next_upcoming (minute + 1) reading readings)
    go false e = ap from (sym (minute_not_finite m minute reading (upcoming reading readings) (held t) e)) ∙ zero-add (above_by m rest (held t))
