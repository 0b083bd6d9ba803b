-- The record as it is lent: its whole numbers w, in the order of the record's fields, and its doubles x. Of these a value and its predecessor (`b_previous` and
-- `b_previous_two`, ..) do not stand side by side. The compiler would read such two at once, and that read waits until the reply before has stored them one by
-- one, which the next coefficients of RKC, RKMC2 and TSRKC2 wait for.
use Rattle.std.specs.Prelude.{ℕ, List, get_or, Float}
use Rattle.std.specs.Float.{nan}
use Rattle.coefficients.specs.declared.Polynomials.{Polynomials}
use Rattle.coefficients.specs.declared.Recurrence.{Recurrence}
use Rattle.driver.specs.declared.Iteration.{Iteration}
use Rattle.driver.specs.declared.Staging.{Staging}
use Rattle.driver.specs.declared.Staged.{Staged}
use Rattle.driver.specs.declared.Record.{Record as Kept}
use Rattle.driver.specs.Promises.{outcome_of, new_record, no_recurrence}
use Rattle.lent.specs.declared.Answer.{Answer}
use Rattle.lent.specs.Numbers.{Arguments, History, Record, Answered, phase_of, meaning, in_numbers, handed_back}

abbrev pub wholes_long : ℕ
wholes_long = 8

abbrev pub doubles_long : ℕ
doubles_long = 21

abbrev pub arguments_in : List ℕ → List Float → Arguments
arguments_in w x = record {
  time = get_or x 0 nan;
  step = get_or x 1 nan;
  absolute_tolerance = get_or x 3 nan;
  relative_tolerance = get_or x 5 nan;
  adaptive = get_or w 3 0;
}

abbrev pub iteration_in : List ℕ → List Float → Iteration
iteration_in w x = record { pass = get_or w 4 0; perturbation = get_or x 7 nan; previous_radius = get_or x 9 nan; scaled_radius = get_or x 11 nan }

abbrev pub polynomials_in : List Float → Polynomials
polynomials_in x = record {
  omega_zero = get_or x 18 nan;
  omega_one = get_or x 14 nan;
  b_previous = get_or x 13 nan;
  b_previous_two = get_or x 16 nan;
  value_previous = get_or x 2 nan;
  value_previous_two = get_or x 8 nan;
  first_previous = get_or x 4 nan;
  first_previous_two = get_or x 10 nan;
  second_previous = get_or x 6 nan;
  second_previous_two = get_or x 12 nan;
  gain = get_or x 19 nan;
}

abbrev pub staging_in : List ℕ → List Float → Staging
staging_in w x =
    let c : Recurrence = record { theta_previous = get_or x 15 nan; theta_previous_two = get_or x 17 nan; polynomials = polynomials_in x } in
    record { stages = get_or w 5 0; stage = get_or w 6 0; recurrence = c }

abbrev pub history_in : List ℕ → List Float → History
history_in w x = record { present = get_or w 7 0; previous_accepted_step = get_or x 20 nan }

abbrev pub lent : List ℕ → List Float → Record
lent w x = record {
  family = get_or w 0 0;
  n = get_or w 1 0;
  phase = get_or w 2 0;
  arguments = arguments_in w x;
  iteration = iteration_in w x;
  staging = staging_in w x;
  history = history_in w x;
}

-- of the record that it means, what `stage_taken` asks for; all else is 0
abbrev pub place_of : List ℕ → Kept
place_of w =
    let g : Staging = record { stages = get_or w 5 0; stage = get_or w 6 0; recurrence = no_recurrence } in
    record {
      family = get_or w 0 0;
      n = get_or w 1 0;
      phase = phase_of (get_or w 2 0);
      arguments = new_record.arguments;
      iteration = new_record.iteration;
      staging = g;
      history = new_record.history;
    }

-- what a call answers, and what it leaves of the record
abbrev pub left_with : Answer → List ℕ → List Float → Answered
left_with a w x = record { answer = a; «record» = lent w x }

-- what a reply to a stage's evaluation hands back, from the record before it
abbrev pub staged_outcome : Record → Staged → Answered
staged_outcome before y = let x = outcome_of y (meaning before) in handed_back before before.arguments.adaptive (in_numbers x.answer) x.«record»
