-- Records and answers in plain numbers: what they mean, and how they are written. An answer is its case's number and what it carries, as documents 01 and 02
-- (CR 2) have it.
use Rattle.std.specs.Prelude.{ℕ, Bool, cond, not, ◌&&◌, eqb, Float}
use Rattle.ieee.specs.Double.{nought}
use Rattle.workspace.specs.declared.Arguments.{Arguments as Brought}
use Rattle.driver.specs.declared.Phase.{Phase}
use Rattle.driver.specs.declared.Phase.TheVariants as P
use Rattle.driver.specs.declared.Iteration.{Iteration}
use Rattle.driver.specs.declared.Staging.{Staging}
use Rattle.driver.specs.declared.History.{History as Remembered}
use Rattle.driver.specs.declared.Record.{Record as Kept}
use Rattle.driver.specs.declared.Figures.{Figures}
use Rattle.driver.specs.declared.Answer.{Answer as Case}
use Rattle.driver.specs.declared.Answer.TheVariants.{Evaluate, Finished, Ready, Refused, Empty}
use Rattle.driver.specs.Answers.{case_number}
use Rattle.driver.specs.Calls.{phase_number, figures_in}
use Rattle.driver.specs.Numbers.{one_of, standing_numbers}
use Rattle.lent.specs.declared.Answer.{Answer}

-- ---- phases, by driver's numbers; any other number is a phase that only start leaves

unfoldable pub phase_of : ℕ → Phase
phase_of k =
    cond (eqb k 1) P.First
    (cond (eqb k 2) P.Ready
    (cond (eqb k 3) P.Pass
    (cond (eqb k 4) P.Stage
    (cond (eqb k 5) P.Candidate
    (cond (eqb k 6) P.Finished
    (cond (eqb k 7) P.Callback P.Empty))))))

-- ---- records

-- what an attempt was given; `adaptive` is a no at 0, else a yes
pub record Arguments : Type 0 where
  pub time : Float
  pub step : Float
  pub absolute_tolerance : Float
  pub relative_tolerance : Float
  pub adaptive : ℕ

-- the history: none at 0, else there is one
pub record History : Type 0 where
  pub present : ℕ
  pub previous_accepted_step : Float

pub record Record : Type 0 where
  pub family : ℕ
  pub n : ℕ
  pub phase : ℕ
  pub arguments : Arguments
  pub iteration : Iteration
  pub staging : Staging
  pub history : History

unfoldable pub brought : Float → Float → Float → Float → ℕ → Brought
brought t h absolute relative adaptive = record {
  time = t;
  step = h;
  absolute_tolerance = absolute;
  relative_tolerance = relative;
  adaptive = not (eqb adaptive 0);
}

abbrev pub as_brought : Arguments → Brought
as_brought a = brought a.time a.step a.absolute_tolerance a.relative_tolerance a.adaptive

abbrev pub as_remembered : History → Remembered
as_remembered x = record { present = not (eqb x.present 0); previous_accepted_step = x.previous_accepted_step }

unfoldable pub meaning : Record → Kept
meaning r = record {
  family = r.family;
  n = r.n;
  phase = phase_of r.phase;
  arguments = as_brought r.arguments;
  iteration = r.iteration;
  staging = r.staging;
  history = as_remembered r.history;
}

-- the number of a history, of which `found` was the number before: it stands where it means the same
unfoldable pub history_number : ℕ → Bool → ℕ
history_number found present = cond present (cond (eqb found 0) 1 found) 0

-- with the number that was brought for `adaptive`, and the one that was found for the history
unfoldable pub written : ℕ → ℕ → Kept → Record
written adaptive found r =
    let b = r.arguments in
    let a : Arguments = record {
      time = b.time;
      step = b.step;
      absolute_tolerance = b.absolute_tolerance;
      relative_tolerance = b.relative_tolerance;
      adaptive = adaptive;
    } in
    let x : History = record {
      present = history_number found r.history.present;
      previous_accepted_step = r.history.previous_accepted_step;
    } in
    record {
      family = r.family;
      n = r.n;
      phase = phase_number r.phase;
      arguments = a;
      iteration = r.iteration;
      staging = r.staging;
      history = x;
    }

-- ---- answers

-- the case's number; the vector's number or the refusal's; the time; the figures
abbrev pub told : ℕ → ℕ → Float → Figures → Answer
told code number t f = record {
  code = code;
  number = number;
  time = t;
  norm = f.norm;
  stages = f.stages;
  passes = f.passes;
  scaled_radius = f.scaled_radius;
}

-- what a case does not carry is 0
unfoldable pub number_in : Case → ℕ
number_in (Evaluate t vector) = vector
number_in (Finished figures) = 0
number_in Ready = 0
number_in (Refused number) = number
number_in Empty = 0

unfoldable pub time_in : Case → Float
time_in (Evaluate t vector) = t
time_in (Finished figures) = nought
time_in Ready = nought
time_in (Refused number) = nought
time_in Empty = nought

abbrev pub in_numbers : Case → Answer
in_numbers a = told (case_number a) (number_in a) (time_in a) (figures_in a)

-- turned away with a number at which everything stands: the record stands, whatever its numbers
unfoldable pub stands : Answer → Bool
stands a = eqb a.code 4 && one_of standing_numbers a.number

-- an answer, and the record with it
pub record Answered : Type 0 where
  pub answer : Answer
  pub «record» : Record

-- what a call hands back, from the record before it, the number brought for `adaptive`, the answer and the record after it
unfoldable pub handed_back : Record → ℕ → Answer → Kept → Answered
handed_back before adaptive a after = record { answer = a; «record» = cond (stands a) before (written adaptive before.history.present after) }
