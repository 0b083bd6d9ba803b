-- The numbers that the six calls are turned away with, sorted by what a call then leaves. Document 01, "When a call is turned away", and document 02, CR 6. A
-- new number comes in here and in the list of its call (`numbers_of` in session/specs/Refusals): the statements of driver, session, lent and accounts go by
-- the lists and not by a range.
use Rattle.std.specs.Prelude.{ℕ, Bool, false, ◌||◌, List, [], ◌∷◌, ◌++◌, eqb}
use Rattle.driver.specs.declared.refusals.Refusal.{Refusal}
use Rattle.driver.specs.declared.refusals.Refusal.TheVariants as R

abbrev pub one_of : List ℕ → ℕ → Bool
one_of [] k = false
one_of (i ∷ is) k = eqb k i || one_of is k

-- everything stands: the call is not taken
abbrev pub standing_numbers : List ℕ
standing_numbers = 1 ∷ 2 ∷ 3 ∷ 4 ∷ 5 ∷ 6 ∷ 7 ∷ 8 ∷ []

-- of a reply that ends the power iteration: its need of stages is refused, and the iteration's work is kept (11: document 02, CR 6)
abbrev pub need_numbers : List ℕ
need_numbers = 11 ∷ []

-- of a reply whose derivative is finite: 10, its candidate is not finite; or a need is refused
abbrev pub after_nine : List ℕ
after_nine = 10 ∷ need_numbers

-- the reply is taken and counted, and the phase is then empty
abbrev pub ending_numbers : List ℕ
ending_numbers = 9 ∷ after_nine

abbrev pub refusal_numbers : List ℕ
refusal_numbers = standing_numbers ++ ending_numbers

-- the number of the code's refusal
abbrev pub refusal_number : Refusal → ℕ
refusal_number R.Family = 1
refusal_number R.Size = 2
refusal_number R.Lengths = 3
refusal_number R.Phase = 4
refusal_number R.State = 5
refusal_number R.Times = 6
refusal_number R.Tolerances = 7
refusal_number R.Counters = 8
refusal_number R.Derivative = 9
refusal_number R.Candidate = 10
refusal_number R.Stages = 11
