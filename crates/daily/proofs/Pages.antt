-- The whole text, which of a report is the definition's. From the definitions alone.
use mathlib.Core.Path.{◌≡◌, refl, sym, ap, subst, ◌∙◌}
use mathlib.Core.List.{List, ◌∷◌}
use Prim.Native.Nat.{ℕ, zero, suc}
use lib.ListN.{replicate}
use lib.Ieee.{binary64, of_bits}
use Rattle.std.specs.Prelude.{Result, map}
use Rattle.sheet.specs.declared.Malformed.{Malformed}
use Rattle.inverter.specs.declared.Minute.{Minute}
use Rattle.inverter.specs.declared.Total.{Total}
use Rattle.inverter.specs.Day.{Minutes, minutes, columns, Reports, day}
use Rattle.daily.specs.Written.{no_lists, report, day_text, minutes_text, day_page, minutes_page}

replicated : {X Y : Type 0} (f : X → Y) (n : ℕ) (x : X) → map f (replicate n x) ≡ replicate n (f x)
replicated f zero x = refl
replicated {Y = Y} f (suc n) x = ap (λ (ys : List Y). f x ∷ ys) (replicated f n x)

each : (n : ℕ) (m : Minute) → columns (replicate n m)
    ≡ minutes (replicate n m.refusal) (replicate n m.junction) (replicate n m.stages) (replicate n m.passes) (replicate n m.scaled_radius)
each n m = simp replicated

-- the lists before the day is read, of minutes by default
pub blank : (m : Minute)
    → (m.refusal ≡ 0) × ((m.junction ≡ of_bits binary64 0) × ((m.stages ≡ 0) × ((m.passes ≡ 0) × (m.scaled_radius ≡ of_bits binary64 0))))
    → columns (replicate 1440 m) ≡ no_lists
unfolding of_bits
blank m u = each 1440 m ∙ simp (u.0, u.1.0, u.1.1.0, u.1.1.1.0, u.1.1.1.1)

module _ (text : List ℕ) (before : Minutes) (b : before ≡ no_lists) where
  reports : {r : Result Total Malformed} {left : Minutes} → Reports (day text before) r left → Reports (report text) r left
  unfolding report
  reports {r} {left} h = subst (λ (x : Minutes). Reports (day text x) r left) b h

  -- of a result that is known
  pub day_written : {r o : Result Total Malformed} {left : Minutes} → r ≡ o → Reports (day text before) r left → day_text o left.refusals ≡ day_page text
  unfolding day_page
  day_written {r} {o} {left} e h = let w = reports h in
      ap (λ (x : Result Total Malformed). day_text x left.refusals) (sym e ∙ w.results)
      ∙ ap (λ (x : Minutes). day_text (report text).result x.refusals) w.lists

  pub minutes_written : {r o : Result Total Malformed} {left : Minutes} → r ≡ o → Reports (day text before) r left → minutes_text o left ≡ minutes_page text
  unfolding minutes_page
  minutes_written {r} {o} {left} e h = let w = reports h in
      ap (λ (x : Result Total Malformed). minutes_text x left) (sym e ∙ w.results) ∙ ap (minutes_text (report text).result) w.lists
