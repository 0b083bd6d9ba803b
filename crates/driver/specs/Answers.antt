-- What a call answers, by the numbers and values of document 01: "evaluate at this time, finished with this error norm, ready, or refused", and empty. By
-- document 02, CR 2, finished carries s, k and the scaled radius beside the norm.
use Rattle.std.specs.Prelude.{◌≡◌, List, [], ◌∷◌, ℕ, Float}
use Rattle.driver.specs.declared.Answer.{Answer}
use Rattle.driver.specs.declared.Answer.TheVariants.{Evaluate, Finished, Ready, Refused, Empty}

unfoldable pub case_number : Answer → ℕ
case_number (Evaluate time vector) = 1
case_number (Finished figures) = 2
case_number Ready = 3
case_number (Refused number) = 4
case_number Empty = 5

-- the doubles and the whole numbers that it carries: of evaluate the time, and the vector; of finished norm and r, and s and k; of a refusal its number
pub record Values : Type 0 where
  pub doubles : List Float
  pub numbers : List ℕ

abbrev pub values : List Float → List ℕ → Values
values doubles numbers = record { doubles = doubles; numbers = numbers }

unfoldable pub case_values : Answer → Values
case_values (Evaluate time vector) = values (time ∷ []) (vector ∷ [])
case_values (Finished figures) = values (figures.norm ∷ figures.scaled_radius ∷ []) (figures.stages ∷ figures.passes ∷ [])
case_values Ready = values [] []
case_values (Refused number) = values [] (number ∷ [])
case_values Empty = values [] []

-- the promise on an answer: its case and what it carries
pub record SameAnswer (given promised : Answer) : Type 0 where
  pub same_case : case_number given ≡ case_number promised
  pub same_values : case_values given ≡ case_values promised
