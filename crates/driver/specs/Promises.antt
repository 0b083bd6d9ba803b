-- The promises of the calls in code: answer, record, counters and area, each an equation with the definition, for every input.
use Rattle.std.specs.Prelude.{ℕ, ◌≡◌, Bool, false, ◌&&◌, List, [], ◌∷◌, Float, Result, Ok, Err}
use Rattle.ieee.specs.Double.{nought}
use Rattle.family.specs.Family.{known}
use Rattle.workspace.specs.declared.Arguments.{Arguments}
use Rattle.workspace.specs.Vectors.{Vectors, number, all_finite, previous_one, candidate}
use Rattle.coefficients.specs.declared.Polynomials.{Polynomials}
use Rattle.coefficients.specs.declared.Recurrence.{Recurrence}
use Rattle.driver.specs.declared.Phase.{Phase}
use Rattle.driver.specs.declared.Phase.TheVariants as P
use Rattle.driver.specs.declared.Iteration.{Iteration}
use Rattle.driver.specs.declared.Staging.{Staging}
use Rattle.driver.specs.declared.History.{History}
use Rattle.driver.specs.declared.Record.{Record}
use Rattle.driver.specs.declared.Counters.{Counters}
use Rattle.driver.specs.declared.Answer.{Answer}
use Rattle.driver.specs.declared.Answer.TheVariants.{Evaluate, Refused}
use Rattle.driver.specs.declared.Next.{Next}
use Rattle.driver.specs.declared.Replied.{Replied}
use Rattle.driver.specs.declared.Staged.{Staged}
use Rattle.driver.specs.declared.Staged.TheVariants.{On, OnByTheta, Ended, NotFinite}
use Rattle.driver.specs.Answers.{SameAnswer}
use Rattle.driver.specs.declared.refusals.Refusal.{Refusal}
use Rattle.driver.specs.Numbers.{refusal_number}
use Rattle.driver.specs.Calls.{Held, Called, Step, same_phase, in_phase, at_stage, sized, whole_area, as_long, good_stage, room, one_more, setting_of}
use Rattle.driver.specs.declared.Need.{Need}
use Rattle.driver.specs.declared.Need.TheVariants.{Met, Unmet}
use Rattle.driver.specs.Calls.{Test, ◌∶◌, Verdict, admitted, refused_with}

-- what a call is handed
abbrev pub holding : Record → Counters → List Float → Held
holding r c area = record { kept = r; counters = c; area = area }

-- what it hands back and leaves
pub record Meets (promised : Called) (given : Answer) (r : Record) (c : Counters) (left : List Float) : Type 0 where
  pub answer : SameAnswer given promised.answer
  pub kept : r ≡ promised.held.kept
  pub counters : c ≡ promised.held.counters
  pub area : left ≡ promised.held.area

-- what the code's tests of a call find
abbrev pub verdict : Result (Unit {0}) Refusal → Verdict
verdict (Ok u) = admitted
verdict (Err x) = refused_with (refusal_number x)

-- and what it finds of a need of stages
abbrev pub need : Result ℕ Refusal → Need
need (Ok s) = Met s
need (Err x) = Unmet (refusal_number x)

-- the tests that every call begins with: family, n and the area's length; and those of a call that brings a vector
abbrev pub area_tests : ℕ → ℕ → List Float → List Test
area_tests f n area = 1 ∶ known f ∷ 2 ∶ sized n ∷ 3 ∶ whole_area f n area ∷ []

abbrev pub vector_tests : ℕ → ℕ → List Float → List Float → List Test
vector_tests f n area v = 1 ∶ known f ∷ 2 ∶ sized n ∷ 3 ∶ (whole_area f n area && as_long n v) ∷ []

-- a call that is not taken hands back what it was handed
abbrev pub turned_away : ℕ → Record → Counters → Replied
turned_away k r c = record { answer = Refused k; «record» = r; counters = c }

abbrev pub refusal : ℕ → Record → Next
refusal k r = record { answer = Refused k; «record» = r }

-- a call that is lent no counters: whatever they are, they stand
abbrev pub Keeps : (Counters → Called) → Next → List Float → Type 0
Keeps promised x left = (c : Counters) → Meets (promised c) x.answer x.«record» c left

-- a step of a reply or an attempt, before the area is taken as a whole
pub record Steps (promised : Step) (x : Next) (left : Vectors) : Type 0 where
  pub answer : SameAnswer x.answer promised.answer
  pub kept : x.«record» ≡ promised.kept
  pub vectors : left ≡ promised.vectors

-- ---- a reply to a stage's evaluation: does it pass tests 1 to 9 and bring the derivative of a stage?

unfoldable pub in_stages : Phase → Bool
in_stages p = same_phase p P.Stage

unfoldable pub stage_taken : Record → Counters → List Float → List Float → Bool
stage_taken r c area d =
    (((known r.family && sized r.n) && in_stages r.phase) && room c.evaluations)
    && (((whole_area r.family r.n area && as_long r.n d) && good_stage (setting_of r) r.staging.stages r.staging.stage) && all_finite d)

-- what such a reply hands back stands for this answer and record
unfoldable pub outcome_of : Staged → Record → Next
outcome_of (On t g) r = record { answer = Evaluate t (number previous_one); «record» = at_stage g.stages g.stage g.recurrence r }
outcome_of (OnByTheta t j theta) r =
    let c = r.staging.recurrence in
    let on : Recurrence = record { theta_previous = theta; theta_previous_two = c.theta_previous; polynomials = c.polynomials } in
    record { answer = Evaluate t (number previous_one); «record» = at_stage r.staging.stages j on r }
outcome_of (Ended t) r = record { answer = Evaluate t (number candidate); «record» = in_phase P.Candidate r }
outcome_of NotFinite r = record { answer = Refused 10; «record» = in_phase P.Empty r }

pub record StandsFor (promised : Called) (r : Record) (c : Counters) (x : Staged) (left : List Float) : Type 0 where
  pub meets : Meets promised (outcome_of x r).answer (outcome_of x r).«record» (one_more c) left

-- ---- a record that was never started: it is refused by every call but start (its family is none)

abbrev pub no_recurrence : Recurrence
no_recurrence =
    let p : Polynomials = record {
      omega_zero = nought;
      omega_one = nought;
      b_previous = nought;
      b_previous_two = nought;
      value_previous = nought;
      value_previous_two = nought;
      first_previous = nought;
      first_previous_two = nought;
      second_previous = nought;
      second_previous_two = nought;
      gain = nought;
    } in
    record { theta_previous = nought; theta_previous_two = nought; polynomials = p }

abbrev pub new_record : Record
new_record =
    let staging : Staging = record { stages = 0; stage = 0; recurrence = no_recurrence } in
    let iteration : Iteration = record { pass = 0; perturbation = nought; previous_radius = nought; scaled_radius = nought } in
    let arguments : Arguments = record { time = nought; step = nought; absolute_tolerance = nought; relative_tolerance = nought; adaptive = false } in
    let history : History = record { present = false; previous_accepted_step = nought } in
    record { family = 0; n = 0; phase = P.Empty; arguments = arguments; iteration = iteration; staging = staging; history = history }
