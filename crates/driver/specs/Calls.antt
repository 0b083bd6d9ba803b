-- The calls, one after another: what each answers, and what it leaves of record, counters and area. Document 01, "driver.rs: the calls" and "When a call is
-- turned away", and document 02, CR 2 and CR 6 (the history). ⊕ ⊗ ⊘ are operations on doubles: they round.
use Rattle.std.specs.Prelude.{ℕ, ◌+◌, ◌-◌, ◌*◌, ◌^◌, ◌≡◌, Bool, true, false, cond, not, ◌&&◌, ◌||◌, List, [], ◌∷◌, leb, ltb, eqb, length, replicate, Float}
use Rattle.std.specs.Float.Ieee.{eq, lt}
use Rattle.std.specs.Float.Ieee.Scale.{finite}
use Rattle.ieee.specs.Double.{◌⊕◌, ◌⊗◌, ◌⊘◌, nought}
use Rattle.family.specs.declared.Setting.{Setting}
use Rattle.family.specs.declared.Family.{Family}
use Rattle.family.specs.Family.{known, family_of, setting, kind, keeps_older, stage_count, exceeds, permitted}
use Rattle.coefficients.specs.declared.Recurrence.{Recurrence}
use Rattle.coefficients.specs.Rows.{recurrence, coefficients, next}
use Rattle.workspace.specs.declared.Arguments.{Arguments}
use Rattle.workspace.specs.Vectors.{Vectors, ◌with◌≔◌, number, vector_count, unpack, pack, all_finite, first_derivative, last_derivative, previous_one}
use Rattle.workspace.specs.Vectors.{eigenvector, perturbed_state, state, candidate, older_state}
use Rattle.workspace.specs.Kernel.{with_direction, perturbation_of, perturbed, turned, radius_of, ended, scaled, first_stage, with_row, exchanged}
use Rattle.workspace.specs.Kernel.{with_candidate, with_last, error_norm}
use Rattle.driver.specs.declared.Phase.{Phase}
use Rattle.driver.specs.declared.Phase.TheVariants as P
use Rattle.driver.specs.declared.Iteration.{Iteration}
use Rattle.driver.specs.declared.Staging.{Staging}
use Rattle.driver.specs.declared.History.{History}
use Rattle.driver.specs.declared.Record.{Record}
use Rattle.driver.specs.declared.Counters.{Counters}
use Rattle.driver.specs.declared.Figures.{Figures}
use Rattle.driver.specs.declared.Answer.{Answer}
use Rattle.driver.specs.declared.Answer.TheVariants.{Evaluate, Finished, Ready, Refused, Empty}
use Rattle.driver.specs.declared.Need.{Need}
use Rattle.driver.specs.declared.Need.TheVariants.{Met, Unmet}
use Rattle.driver.specs.Numbers.{one_of, standing_numbers}

-- what the caller holds between two calls
pub record Held : Type 0 where
  pub kept : Record
  pub counters : Counters
  pub area : List Float

-- what a call answers, and what it leaves
pub record Called : Type 0 where
  pub answer : Answer
  pub held : Held

-- ---- the phases, numbered from 0 in their order: they are compared by their numbers, and a caller that holds plain numbers holds these

abbrev pub phase_number : Phase → ℕ
phase_number P.Empty = 0
phase_number P.First = 1
phase_number P.Ready = 2
phase_number P.Pass = 3
phase_number P.Stage = 4
phase_number P.Candidate = 5
phase_number P.Finished = 6
phase_number P.Callback = 7

abbrev pub same_phase : Phase → Phase → Bool
same_phase p q = eqb (phase_number p) (phase_number q)

-- ---- the record in another phase, and further on

-- with another phase, arguments and position: family, n and history stand
abbrev pub moved_to : Phase → Arguments → Iteration → Staging → Record → Record
moved_to p a i g r = record { family = r.family; n = r.n; phase = p; arguments = a; iteration = i; staging = g; history = r.history }

-- of this family, with vectors of this length: position and history stand
abbrev pub sized_for : ℕ → ℕ → Record → Record
sized_for f n r = record {
  family = f;
  n = n;
  phase = r.phase;
  arguments = r.arguments;
  iteration = r.iteration;
  staging = r.staging;
  history = r.history;
}

-- with another history: all else stands
abbrev pub with_history : History → Record → Record
with_history x r = record {
  family = r.family;
  n = r.n;
  phase = r.phase;
  arguments = r.arguments;
  iteration = r.iteration;
  staging = r.staging;
  history = x;
}

-- the history marked absent: the step that it held stands, and nothing reads it
abbrev pub without_history : Record → Record
without_history r = with_history (record { present = false; previous_accepted_step = r.history.previous_accepted_step }) r

unfoldable pub in_phase : Phase → Record → Record
in_phase p r = moved_to p r.arguments r.iteration r.staging r

unfoldable pub at_time : Float → Arguments → Arguments
at_time t a = record {
  time = t;
  step = a.step;
  absolute_tolerance = a.absolute_tolerance;
  relative_tolerance = a.relative_tolerance;
  adaptive = a.adaptive;
}

-- waiting for the derivative of a state that is kept at this time, with no history: a start's or a callback's
unfoldable pub first_at : Phase → ℕ → ℕ → Float → Record → Record
first_at p f n t r = without_history (moved_to p (at_time t r.arguments) r.iteration r.staging (sized_for f n r))

abbrev pub iteration_at : ℕ → Float → Float → Float → Iteration
iteration_at k perturbation previous radius = record { pass = k; perturbation = perturbation; previous_radius = previous; scaled_radius = radius }

unfoldable pub at_pass : Arguments → ℕ → Float → Float → Record → Record
at_pass a k perturbation previous r = moved_to P.Pass a (iteration_at k perturbation previous nought) r.staging r

-- the iteration has found the scaled radius
unfoldable pub with_radius : Float → Record → Record
with_radius radius r = let i = r.iteration in
    moved_to r.phase r.arguments (iteration_at i.pass i.perturbation i.previous_radius radius) r.staging r

unfoldable pub at_stage : ℕ → ℕ → Recurrence → Record → Record
at_stage s j c r = moved_to P.Stage r.arguments r.iteration (record { stages = s; stage = j; recurrence = c }) r

-- ---- what an attempt of this record runs under: it decides the stage need, the permitted counts, the rows, the candidate and the error

-- q: the last accepted step over the present one, 0 without a history
unfoldable pub quotient_of : History → Float → Float
quotient_of x step = cond x.present (x.previous_accepted_step ⊘ step) nought

abbrev pub setting_under : ℕ → History → Float → Setting
setting_under f x step = setting f x.present (quotient_of x step)

-- and with these arguments
abbrev pub setting_for : Record → Arguments → Setting
setting_for r a = setting_under r.family r.history a.step

abbrev pub setting_of : Record → Setting
setting_of r = setting_for r r.arguments

-- ---- a reply that is not turned away with 1 to 9: by the phase, what comes next

-- an answer, the record and the vectors
pub record Step : Type 0 where
  pub answer : Answer
  pub kept : Record
  pub vectors : Vectors

abbrev pub step_to : Answer → Record → Vectors → Step
step_to a r v = record { answer = a; kept = r; vectors = v }

-- the derivative d of the kept state
unfoldable pub take_first : Record → Vectors → List Float → Step
take_first r v d = step_to Ready (in_phase P.Ready r) (v with first_derivative ≔ d)

unfoldable pub take_callback : Record → Vectors → List Float → Step
take_callback r v d = step_to Ready (in_phase P.Ready r) (v with first_derivative ≔ d with eigenvector ≔ replicate r.n nought)

unfoldable pub ask_pass : Record → Vectors → Step
ask_pass r v = step_to (Evaluate r.arguments.time (number perturbed_state)) r (perturbed r.n r.iteration.perturbation v)

unfoldable pub ask_stage : Record → Vectors → Step
ask_stage r v = let a = r.arguments in
    step_to (Evaluate (a.time ⊕ a.step ⊗ r.staging.recurrence.theta_previous) (number previous_one)) r v

-- how many stages this scaled radius takes; 11 where TSRKC2 would need more than 1000
unfoldable pub stage_need : Setting → Float → Need
stage_need m radius = cond (exceeds (kind m) m.quotient radius) (Unmet 11) (Met (stage_count (kind m) m.quotient radius))

-- the stages begin; or the need is refused: the iteration's work is kept, the phase is empty and all else stands
unfoldable pub by_need : Need → Record → Vectors → Float → Step
by_need (Met s) r v radius = let c = recurrence (setting_of r) s in
    ask_stage (at_stage s 2 c (with_radius radius r)) (first_stage r.n r.arguments.step c.theta_previous v)
by_need (Unmet i) r v radius = step_to (Refused i) (in_phase P.Empty r) v

unfoldable pub begin_stages : Record → Vectors → Float → Step
begin_stages r v radius = by_need (stage_need (setting_of r) radius) r v radius

unfoldable pub take_pass : Record → Vectors → List Float → Step
take_pass r v d = let w = turned r.n v d in
    let i = r.iteration in
    let radius = radius_of i.perturbation w in
    cond (ended i.pass i.previous_radius radius || eqb i.pass 12)
    (begin_stages r w (scaled r.arguments.step radius))
    (ask_pass (at_pass r.arguments (i.pass + 1) i.perturbation radius r) w)

unfoldable pub ask_candidate : Record → Vectors → Step
ask_candidate r v = let a = r.arguments in
    cond (all_finite (v candidate))
    (step_to (Evaluate (a.time ⊕ a.step) (number candidate)) (in_phase P.Candidate r) v)
    (step_to (Refused 10) (in_phase P.Empty r) v)

unfoldable pub take_stage : Record → Vectors → List Float → Step
take_stage r v d = let m = setting_of r in
    let s = r.staging.stages in
    let j = r.staging.stage in
    let c = r.staging.recurrence in
    let row = coefficients m s j c in
    let w = with_row m r.n r.arguments.step row v d in
    cond (ltb j s)
    (ask_stage (at_stage s (j + 1) (next m c row) r) (exchanged w))
    (ask_candidate r (with_candidate m r.n r.arguments.step s c row w))

-- What a finished attempt tells: its error norm, s, k, and r "as it was before NaN became 0" (document 02, CR 2). `stage_count` takes a NaN as 0; the r that it
-- was handed stands in the record.
abbrev pub figures_of : Float → ℕ → ℕ → Float → Figures
figures_of norm s k radius = record { norm = norm; stages = s; passes = k; scaled_radius = radius }

-- of the record r, whose attempt left the vectors w
abbrev pub figures_after : Record → Vectors → Figures
figures_after r w = let s = r.staging.stages in
    let i = r.iteration in
    figures_of (error_norm (setting_of r) r.n s r.arguments w) s i.pass i.scaled_radius

-- the figures that an answer carries: what a case does not carry is 0
abbrev pub no_figures : Figures
no_figures = figures_of nought 0 0 nought

unfoldable pub figures_in : Answer → Figures
figures_in (Evaluate t b) = no_figures
figures_in (Finished figures) = figures
figures_in Ready = no_figures
figures_in (Refused i) = no_figures
figures_in Empty = no_figures

-- the record holds s, k and r of these figures
pub record HoldsFigures (told : Figures) (r : Record) : Type 0 where
  pub stages_held : r.staging.stages ≡ told.stages
  pub passes_held : r.iteration.pass ≡ told.passes
  pub radius_held : r.iteration.scaled_radius ≡ told.scaled_radius

unfoldable pub take_candidate : Record → Vectors → List Float → Step
take_candidate r v d = let w = with_last (setting_of r) r.n r.arguments v d in
    step_to (Finished (figures_after r w)) (in_phase P.Finished r) w

-- (Empty, Ready and Finished are never reached here: test 4 answers first)
unfoldable pub replied : Phase → Record → Vectors → List Float → Step
replied P.Empty = take_first
replied P.First = take_first
replied P.Ready = take_first
replied P.Pass = take_pass
replied P.Stage = take_stage
replied P.Candidate = take_candidate
replied P.Finished = take_first
replied P.Callback = take_callback

-- ---- the tests, by number: 1 family, 2 n, 3 lengths, 4 phase and position, 5 state, 6 time and step, 7 tolerances, 8 counters, 9 derivative, 10 candidate

unfoldable pub sized : ℕ → Bool
sized n = leb 1 n && leb n 512

unfoldable pub whole_area : ℕ → ℕ → List Float → Bool
whole_area f n area = eqb (length area) (vector_count (family_of f) * n)

unfoldable pub as_long : ℕ → List Float → Bool
as_long n v = eqb (length v) n

-- in every phase but these three an evaluation is pending
unfoldable pub pending : Phase → Bool
pending p = not ((same_phase p P.Empty || same_phase p P.Ready) || same_phase p P.Finished)

abbrev pub good_pass : ℕ → Bool
good_pass k = leb 1 k && leb k 12

abbrev pub permits : Setting → ℕ → Bool
permits m s = permitted (kind m) s

abbrev pub good_stage : Setting → ℕ → ℕ → Bool
good_stage m s j = permits m s && (leb 2 j && leb j s)

-- the reply in phase Candidate tells k and s, and so uses the pass and s
abbrev pub good_end : Setting → ℕ → ℕ → Bool
good_end m k s = good_pass k && permits m s

-- what a phase uses of the record is in range: the pass, s, the stage
unfoldable pub in_range : Phase → Record → Bool
in_range p r =
    cond (same_phase p P.Pass) (good_pass r.iteration.pass)
    (cond (same_phase p P.Stage) (good_stage (setting_of r) r.staging.stages r.staging.stage)
    (cond (same_phase p P.Candidate) (good_end (setting_of r) r.iteration.pass r.staging.stages) true))

unfoldable pub awaiting : Record → Bool
awaiting r = pending r.phase && in_range r.phase r

unfoldable pub may_attempt : Phase → Bool
may_attempt p = same_phase p P.Ready || same_phase p P.Finished

unfoldable pub may_accept : Phase → Bool
may_accept p = same_phase p P.Finished

unfoldable pub good_times : Arguments → Bool
good_times a = finite a.time && (finite a.step && not (eq a.step nought))

unfoldable pub good_tolerance : Float → Bool
good_tolerance x = finite x && lt nought x

unfoldable pub good_tolerances : Arguments → Bool
good_tolerances a = good_tolerance a.absolute_tolerance && good_tolerance a.relative_tolerance

-- room in a 64 bit counter
unfoldable pub room : ℕ → Bool
room count = ltb count (2 ^ 64 - 1)

-- a reply to the candidate's evaluation also needs room for a finished attempt
unfoldable pub finishes : Phase → Bool
finishes p = same_phase p P.Candidate

unfoldable pub has_room : Phase → Counters → Bool
has_room p c = room c.evaluations && (not (finishes p) || room c.finished_attempts)

-- ---- the tests of a call, in order

-- a test: the number of its cause, and whether it passes
pub record Test : Type 0 where
  pub cause : ℕ
  pub passes : Bool

infix 90 ◌∶◌
abbrev pub ◌∶◌ : ℕ → Bool → Test
cause ∶ passes = record { cause = cause; passes = passes }

pub data Verdict : Type 0 where
  admitted : Verdict
  refused_with : ℕ → Verdict

-- by the first test that fails
unfoldable pub first_failing : List Test → Verdict
first_failing [] = admitted
first_failing (t ∷ ts) = cond t.passes (first_failing ts) (refused_with t.cause)

-- the number of a verdict: 0 where no test fails
unfoldable pub cause_of : Verdict → ℕ
cause_of admitted = 0
cause_of (refused_with k) = k

-- a call that is turned away leaves everything as it was
unfoldable pub decide : Verdict → Held → Called → Called
decide admitted h go = go
decide (refused_with k) h go = record { answer = Refused k; held = h }

unfoldable pub guarded : Held → List Test → Called → Called
guarded h tests go = decide (first_failing tests) h go

-- These six lists are the table of "When a call is turned away", call by call. "Tests run in this order. Every call has 1 to 4 (start: on what it brings, and
-- no phase); start and accept with a callback 5 and time in 6; attempt 6 and 7, with or without `adaptive`; every reply 8 and 9; the reply that ends stage s
-- also 10." The `ending_numbers` are no tests here: a reply that comes to one is counted and ends its phase (`spoiled`, `by_need`, `ask_candidate`).
-- session/specs/Refusals spells that sentence by itself.

unfoldable pub start_tests : ℕ → ℕ → List Float → List Float → Float → List Test
start_tests f n area y t =
    1 ∶ known f
    ∷ 2 ∶ sized n
    ∷ 3 ∶ (whole_area f n area && as_long n y)
    ∷ 5 ∶ all_finite y
    ∷ 6 ∶ finite t
    ∷ []

unfoldable pub attempt_tests : Record → List Float → Arguments → List Test
attempt_tests r area a =
    1 ∶ known r.family
    ∷ 2 ∶ sized r.n
    ∷ 3 ∶ whole_area r.family r.n area
    ∷ 4 ∶ may_attempt r.phase
    ∷ 6 ∶ good_times a
    ∷ 7 ∶ good_tolerances a
    ∷ []

unfoldable pub reply_tests : Record → Counters → List Float → List Float → List Test
reply_tests r c area d =
    1 ∶ known r.family
    ∷ 2 ∶ sized r.n
    ∷ 3 ∶ (whole_area r.family r.n area && as_long r.n d)
    ∷ 4 ∶ awaiting r
    ∷ 8 ∶ has_room r.phase c
    ∷ []

unfoldable pub accept_tests : Record → List Float → List Test
accept_tests r area =
    1 ∶ known r.family
    ∷ 2 ∶ sized r.n
    ∷ 3 ∶ whole_area r.family r.n area
    ∷ 4 ∶ may_accept r.phase
    ∷ []

unfoldable pub callback_tests : Record → List Float → List Float → Float → List Test
callback_tests r area y t =
    1 ∶ known r.family
    ∷ 2 ∶ sized r.n
    ∷ 3 ∶ (whole_area r.family r.n area && as_long r.n y)
    ∷ 4 ∶ may_accept r.phase
    ∷ 5 ∶ all_finite y
    ∷ 6 ∶ finite t
    ∷ []

unfoldable pub abandon_tests : Record → List Float → List Test
abandon_tests r area =
    1 ∶ known r.family
    ∷ 2 ∶ sized r.n
    ∷ 3 ∶ whole_area r.family r.n area
    ∷ 4 ∶ awaiting r
    ∷ []

-- ---- the calls

-- the vectors that a start leaves
unfoldable pub start_vectors : ℕ → List Float → Vectors → Vectors
start_vectors n y v = v with state ≔ y with eigenvector ≔ replicate n nought

-- allowed in every phase; what it does not bring stands in the record too, but for the history
unfoldable pub start : Held → ℕ → ℕ → List Float → Float → Called
start h f n y t = guarded h (start_tests f n h.area y t) (record {
  answer = Evaluate t (number state);
  held = record {
    kept = first_at P.First f n t h.kept;
    counters = h.counters;
    area = pack (start_vectors n y (unpack n h.area));
  };
})

-- what follows, the counters being c
unfoldable pub going_on : Counters → Step → Called
going_on c x = record { answer = x.answer; held = record { kept = x.kept; counters = c; area = pack x.vectors } }

unfoldable pub attempted : Held → Arguments → Step
attempted h a = let r = h.kept in
    let v = unpack r.n h.area in
    ask_pass (at_pass a 1 (perturbation_of v) nought r) (with_direction r.n v)

unfoldable pub attempt : Held → Arguments → Called
attempt h a = guarded h (attempt_tests h.kept h.area a) (going_on h.counters (attempted h a))

abbrev pub one_more : Counters → Counters
one_more c = record { evaluations = c.evaluations + 1; finished_attempts = c.finished_attempts }

-- a reply counts as an evaluation, and the one that finishes an attempt as that too
unfoldable pub counted : Answer → Counters → Counters
counted (Evaluate t a) c = one_more c
counted (Finished figures) c = record { evaluations = c.evaluations + 1; finished_attempts = c.finished_attempts + 1 }
counted Ready c = one_more c
counted (Refused i) c = one_more c
counted Empty c = one_more c

-- the derivative is not finite: it is counted and not written
unfoldable pub spoiled : Held → Called
spoiled h = record { answer = Refused 9; held = record { kept = in_phase P.Empty h.kept; counters = counted (Refused 9) h.counters; area = h.area } }

unfoldable pub settled : Counters → Step → Called
settled c x = going_on (counted x.answer c) x

unfoldable pub reply : Held → List Float → Called
reply h d = let r = h.kept in
    guarded h (reply_tests r h.counters h.area d)
    (cond (all_finite d)
    (settled h.counters (replied r.phase r (unpack r.n h.area) d))
    (spoiled h))

-- the history that a family with an older state takes on: the kept state, before the candidate takes its place, and the step of the finished attempt
unfoldable pub with_older : Family → Vectors → Vectors
with_older f v = cond (keeps_older f) (v with older_state ≔ v state) v

unfoldable pub history_after : Record → History
history_after r = cond (keeps_older (family_of r.family)) (record { present = true; previous_accepted_step = r.arguments.step }) r.history

-- the last derivative becomes the first, the candidate the kept state; the record's time stands
unfoldable pub accepted : Record → Vectors → Step
accepted r v = let w = with_older (family_of r.family) v in
    step_to Ready (with_history (history_after r) (in_phase P.Ready r)) (w with first_derivative ≔ w last_derivative with state ≔ w candidate)

unfoldable pub accept : Held → Called
accept h = guarded h (accept_tests h.kept h.area) (going_on h.counters (accepted h.kept (unpack h.kept.n h.area)))

-- a new state is kept and evaluated, and there is no history
unfoldable pub called_back : Record → List Float → Float → Vectors → Step
called_back r y t v = step_to (Evaluate t (number state)) (first_at P.Callback r.family r.n t r) (v with state ≔ y)

unfoldable pub accept_with_callback : Held → List Float → Float → Called
accept_with_callback h y t = let r = h.kept in
    guarded h (callback_tests r h.area y t) (going_on h.counters (called_back r y t (unpack r.n h.area)))

-- the pending evaluation ends uncounted, and there is no history any more
unfoldable pub abandon : Held → Called
abandon h = let r = h.kept in
    guarded h (abandon_tests r h.area) (record {
      answer = Empty;
      held = record { kept = without_history (in_phase P.Empty r); counters = h.counters; area = h.area };
    })

-- ---- any of them

pub data Call : Type 0 where
  Start : ℕ → ℕ → List Float → Float → Call
  Attempt : Arguments → Call
  Reply : List Float → Call
  Accept : Call
  AcceptWithCallback : List Float → Float → Call
  Abandon : Call

unfoldable pub made : Held → Call → Called
made h (Start f n y t) = start h f n y t
made h (Attempt a) = attempt h a
made h (Reply d) = reply h d
made h Accept = accept h
made h (AcceptWithCallback y t) = accept_with_callback h y t
made h Abandon = abandon h

unfoldable pub is_start : Call → Bool
is_start (Start f n y t) = true
is_start (Attempt a) = false
is_start (Reply d) = false
is_start Accept = false
is_start (AcceptWithCallback y t) = false
is_start Abandon = false

unfoldable pub is_attempt : Call → Bool
is_attempt (Start f n y t) = false
is_attempt (Attempt a) = true
is_attempt (Reply d) = false
is_attempt Accept = false
is_attempt (AcceptWithCallback y t) = false
is_attempt Abandon = false

-- whether a call is taken: not turned away with a number on which everything stands. (A reply that is turned away with another is taken: it is counted, and
-- the phase is then empty.)
unfoldable pub taken : Answer → Bool
taken (Evaluate t b) = true
taken (Finished figures) = true
taken Ready = true
taken (Refused i) = not (one_of standing_numbers i)
taken Empty = true
