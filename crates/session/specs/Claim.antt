-- What ties the calls to the attempt in one piece: the same points at the same times in the same order, and then the same end. Document 01, demand 2's domain;
-- "the evaluations of one finished attempt are s + k, with k from 1 to 12, each one reply".
use Rattle.std.specs.Prelude.{◌≡◌, Bool, true, false, List, [], ◌∷◌, ◌++◌, ℕ, zero, suc, ◌+◌, ◌-◌, ◌≤◌, ◌<◌, ◌^◌, length, take, Float}
use Rattle.std.specs.Float.Ieee.{lt}
use Rattle.ieee.specs.Double.{nought}
use Rattle.family.specs.declared.Family.TheVariants.{RKMC2, TSRKC2}
use Rattle.family.specs.Family.{known, family_of, stage_count}
use Rattle.coefficients.specs.Rows.{candidate_weights, carried}
use Rattle.workspace.specs.declared.Arguments.{Arguments}
use Rattle.workspace.specs.declared.Vector.{Vector}
use Rattle.workspace.specs.Vectors.{Vectors, width, named, unpack, pack, each, all_finite, next_stage, state, candidate, older_state, first_derivative}
use Rattle.workspace.specs.Vectors.{last_derivative}
use Rattle.workspace.specs.Kernel.{combined_entry, mixed_entry, older_of}
use Rattle.driver.specs.declared.Phase.TheVariants as P
use Rattle.driver.specs.declared.Need.TheVariants.{Met}
use Rattle.driver.specs.declared.Figures.{Figures}
use Rattle.driver.specs.declared.Answer.{Answer}
use Rattle.driver.specs.declared.Answer.TheVariants.{Evaluate, Finished, Ready, Refused, Empty}
use Rattle.driver.specs.Answers.{case_number, SameAnswer}
use Rattle.driver.specs.Numbers.{ending_numbers}
use Rattle.driver.specs.Calls.{Held, Called, in_phase, setting_for, permits, stage_need, sized, whole_area, awaiting, has_room, may_attempt, good_times}
use Rattle.driver.specs.Calls.{good_tolerances}
use Rattle.driver.specs.Calls.{figures_of, attempt, reply, Call, Reply}
use Rattle.session.specs.Attempt.{Asking, FinishedAttempt, Evaluated, evaluated, reaches_candidate, End, reached, refused, end, attempt_step}
use Rattle.session.specs.Refusals.{◌∈◌}

-- ---- a call, and then replies d i, d (i + 1), ..

-- what an answer calls for
unfoldable pub called_for : Answer → Held → List Evaluated
called_for (Evaluate t b) h = record { time = t; point = unpack h.kept.n h.area (named b) } ∷ []
called_for (Finished figures) h = []
called_for Ready h = []
called_for (Refused i) h = []
called_for Empty h = []

-- The evaluations that m answers call for, a reply after each. (m of them only where each answer calls for one.)
unfoldable pub answers : ℕ → (ℕ → List Float) → ℕ → Called → List Evaluated
answers zero d i x = []
answers (suc m) d i x = called_for x.answer x.held ++ answers m d (suc i) (reply x.held (d i))

-- what m replies leave
unfoldable pub after : ℕ → (ℕ → List Float) → ℕ → Called → Called
after zero d i x = x
after (suc m) d i x = after m d (suc i) (reply x.held (d i))

-- these replies as calls
unfoldable pub replies_from : ℕ → (ℕ → List Float) → ℕ → List Call
replies_from zero d i = []
replies_from (suc m) d i = Reply (d i) ∷ replies_from m d (suc i)

-- what the last of these calls found, h being what the call of x found
unfoldable pub last_found : ℕ → (ℕ → List Float) → ℕ → Held → Called → Held
last_found zero d i h x = h
last_found (suc m) d i h x = last_found m d (suc i) x.held (reply x.held (d i))

-- ---- the statement

-- what its finished answer tells
abbrev pub figures_told : FinishedAttempt → Figures
figures_told o = figures_of o.norm o.stages o.passes o.scaled_radius

-- the attempt is not turned away
pub record Allowed (h : Held) (a : Arguments) : Type 0 where
  pub family_known : known h.kept.family ≡ true
  pub n_sized : sized h.kept.n ≡ true
  pub area_whole : whole_area h.kept.family h.kept.n h.area ≡ true
  pub phase_allows : may_attempt h.kept.phase ≡ true
  pub times_good : good_times a ≡ true
  pub tolerances_good : good_tolerances a ≡ true

-- a call that needs a pending evaluation is allowed
pub record Pending (g : Held) : Type 0 where
  pub family_known : known g.kept.family ≡ true
  pub n_sized : sized g.kept.n ≡ true
  pub area_whole : whole_area g.kept.family g.kept.n g.area ≡ true
  pub awaits : awaiting g.kept ≡ true

-- an evaluation is pending after so many replies: room in the counters and the derivative alone decide what a reply of n doubles answers
pub record Waits (h : Held) (replies : ℕ) (x : Called) : Type 0 where
  pub family_is : x.held.kept.family ≡ h.kept.family
  pub n_is : x.held.kept.n ≡ h.kept.n
  pub area_whole : whole_area h.kept.family h.kept.n x.held.area ≡ true
  pub pending : awaiting x.held.kept ≡ true
  pub evaluations_are : x.held.counters.evaluations ≡ h.counters.evaluations + replies
  pub attempts_are : x.held.counters.finished_attempts ≡ h.counters.finished_attempts

-- finished after this many replies, from h with the arguments a; the candidate is the last stage, and RKMC2's and TSRKC2's a combination of the vectors that
-- are left
pub record Finishes (h : Held) (a : Arguments) (o : FinishedAttempt) (replies : ℕ) (x : Called) : Type 0 where
  pub answer_is : x.answer ≡ Finished (figures_told o)
  pub area_is : x.held.area ≡ pack o.vectors
  pub vectors_long : (b : Vector) → length (o.vectors b) ≡ width (family_of h.kept.family) h.kept.n b
  pub state_stands : o.vectors state ≡ unpack h.kept.n h.area state
  pub first_stands : o.vectors first_derivative ≡ unpack h.kept.n h.area first_derivative
  pub older_stands : o.vectors older_state ≡ unpack h.kept.n h.area older_state
  pub candidate_finite : all_finite (o.vectors candidate) ≡ true
  pub candidate_last : (family_of h.kept.family ≡ RKMC2 → ⊥) → (family_of h.kept.family ≡ TSRKC2 → ⊥) → o.vectors candidate ≡ o.vectors next_stage
  pub candidate_combined : family_of h.kept.family ≡ RKMC2 → o.vectors candidate ≡ each h.kept.n o.vectors
      (combined_entry a.step (candidate_weights o.stages (carried (setting_for h.kept a) o.stages (o.stages - 2))))
  pub candidate_mixed : family_of h.kept.family ≡ TSRKC2 → o.vectors candidate ≡ each h.kept.n o.vectors
      (mixed_entry (older_of (setting_for h.kept a)) (carried (setting_for h.kept a) o.stages (o.stages - 2)).polynomials.gain)
  pub last_finite : all_finite (o.vectors last_derivative) ≡ true
  pub phase_is : x.held.kept.phase ≡ P.Finished
  pub family_is : x.held.kept.family ≡ h.kept.family
  pub n_is : x.held.kept.n ≡ h.kept.n
  pub arguments_are : x.held.kept.arguments ≡ a
  pub history_is : x.held.kept.history ≡ h.kept.history
  pub stages_are : x.held.kept.staging.stages ≡ o.stages
  pub passes_are : x.held.kept.iteration.pass ≡ o.passes
  pub radius_is : x.held.kept.iteration.scaled_radius ≡ o.scaled_radius
  pub evaluations_are : x.held.counters.evaluations ≡ h.counters.evaluations + replies
  pub attempts_are : x.held.counters.finished_attempts ≡ h.counters.finished_attempts + 1
  pub replies_are : replies ≡ o.stages + o.passes
  pub one_pass : 1 ≤ o.passes
  pub twelve_passes : o.passes ≤ 12
  pub need_met : stage_need (setting_for h.kept a) o.scaled_radius ≡ Met o.stages
  pub not_negative : lt o.scaled_radius nought ≡ false
  pub stages_permitted : permits (setting_for h.kept a) o.stages ≡ true

-- stopped by number i with the vectors v, by a reply that found b: of the record only the phase is changed, and on 9 nothing of the area
pub record Stops (h : Held) (b : Held) (i : ℕ) (v : Vectors) (replies : ℕ) (x : Called) : Type 0 where
  pub answer_is : x.answer ≡ Refused i
  pub number_ends : i ∈ ending_numbers
  pub area_is : x.held.area ≡ pack v
  pub area_stands : i ≡ 9 → x.held.area ≡ b.area
  pub record_is : x.held.kept ≡ in_phase P.Empty b.kept
  pub family_is : x.held.kept.family ≡ h.kept.family
  pub n_is : x.held.kept.n ≡ h.kept.n
  pub vectors_long : (c : Vector) → length (v c) ≡ width (family_of h.kept.family) h.kept.n c
  pub evaluations_are : x.held.counters.evaluations ≡ h.counters.evaluations + replies
  pub attempts_are : x.held.counters.finished_attempts ≡ h.counters.finished_attempts

abbrev pub Ends : Held → Arguments → End FinishedAttempt → ℕ → Held → Called → Type 0
Ends h a (reached o) replies b x = Finishes h a o replies x
Ends h a (refused i v) replies b x = Stops h b i v replies x

-- the attempt in one piece from the vectors of the area
abbrev pub in_one_piece : Held → Arguments → Asking FinishedAttempt
in_one_piece h a = attempt_step (setting_for h.kept a) h.kept.n a (unpack h.kept.n h.area)

-- room for the next reply
abbrev pub room_in : Held → Bool
room_in h = has_room h.kept.phase h.counters

-- how many evaluations it asks for on these replies
abbrev pub replies_to : Held → Arguments → (ℕ → List Float) → ℕ
replies_to h a d = length (evaluated (in_one_piece h a) d 0)

-- they find room in the counters, and if it comes to the candidate's evaluation the finished attempt does too
pub record Fits (h : Held) (a : Arguments) (d : ℕ → List Float) : Type 0 where
  pub evaluations_fit : h.counters.evaluations + replies_to h a d < 2 ^ 64
  pub attempts_fit : reaches_candidate (in_one_piece h a) d 0 ≡ true → h.counters.finished_attempts + 1 < 2 ^ 64

pub record Runs (h : Held) (a : Arguments) (d : ℕ → List Float) : Type 0 where
  pub same_evaluations : answers (replies_to h a d) d 0 (attempt h a) ≡ evaluated (in_one_piece h a) d 0
  pub same_end : Ends h a (end (in_one_piece h a) d 0) (replies_to h a d)
      (last_found (replies_to h a d) d 0 h (attempt h a)) (after (replies_to h a d) d 0 (attempt h a))

-- What a finished attempt took, in the order's words: s + k replies with k from 1 to 12, each but the last answered by a further evaluation and the last by
-- finished with its norm, s, k and r; the counters rose by s + k and by 1.
pub record Took (h : Held) (a : Arguments) (d : ℕ → List Float) (o : FinishedAttempt) (x : Called) : Type 0 where
  pub replies_are : replies_to h a d ≡ o.stages + o.passes
  pub one_pass : 1 ≤ o.passes
  pub twelve_passes : o.passes ≤ 12
  pub stages_are : o.stages ≡ stage_count (family_of h.kept.family) (setting_for h.kept a).quotient o.scaled_radius
  pub each_evaluates : (j : ℕ) → j < o.stages + o.passes → case_number (after j d 0 (attempt h a)).answer ≡ 1
  pub answer_is : SameAnswer x.answer (Finished (figures_told o))
  pub evaluations_are : x.held.counters.evaluations ≡ h.counters.evaluations + (o.stages + o.passes)
  pub attempts_are : x.held.counters.finished_attempts ≡ h.counters.finished_attempts + 1

-- ---- and where the counters are full

-- the first m replies find room in the counters
unfoldable pub RoomForFirst : Held → Arguments → (ℕ → List Float) → ℕ → Type 0
RoomForFirst h a d m = (j : ℕ) → j < m → room_in (after j d 0 (attempt h a)).held ≡ true

-- m replies go as in the attempt in one piece, up to its evaluation m, and every later reply is turned away with 8 and leaves everything
pub record CountersFullAt (h : Held) (a : Arguments) (d : ℕ → List Float) (m : ℕ) : Type 0 where
  pub same_evaluations : answers (suc m) d 0 (attempt h a) ≡ take (suc m) (evaluated (in_one_piece h a) d 0)
  pub waits : Waits h m (after m d 0 (attempt h a))
  pub left : (i : ℕ) → after (suc i) d m (after m d 0 (attempt h a)) ≡ record { answer = Refused 8; held = (after m d 0 (attempt h a)).held }
