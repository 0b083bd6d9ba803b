-- The fields of an answer in numbers tell its values: read by their names and by the code, which is the case's number, they are `case_values` (`values_are`).
use mathlib.Core.Path.{◌≡◌, refl}
use mathlib.Core.List.{[], ◌∷◌}
use Prim.Native.Nat.{ℕ, zero, suc}
use Rattle.driver.specs.declared.Answer.{Answer as Case}
use Rattle.driver.specs.declared.Answer.TheVariants.{Evaluate, Finished, Ready, Refused, Empty}
use Rattle.driver.specs.Answers.{case_number, Values, values, case_values}
use Rattle.driver.specs.Calls.{figures_in}
use Rattle.lent.specs.declared.Answer.{Answer}
use Rattle.lent.specs.Numbers.{number_in, time_in, in_numbers}

unfoldable pub values_by : ℕ → Answer → Values
values_by zero x = values [] []
values_by (suc zero) x = values (x.time ∷ []) (x.number ∷ [])
values_by (suc (suc zero)) x = values (x.norm ∷ x.scaled_radius ∷ []) (x.stages ∷ x.passes ∷ [])
values_by (suc (suc (suc zero))) x = values [] []
values_by (suc (suc (suc (suc zero)))) x = values [] (x.number ∷ [])
values_by (suc (suc (suc (suc (suc k))))) x = values [] []

pub values_are : (a : Case) → values_by (in_numbers a).code (in_numbers a) ≡ case_values a
unfolding values_by case_number case_values number_in time_in figures_in
values_are (Evaluate t vector) = refl
values_are (Finished figures) = refl
values_are Ready = refl
values_are (Refused number) = refl
values_are Empty = refl
