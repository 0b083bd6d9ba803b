-- The Rust's kernel from its `initialize` on, in direct style: `attempt_step` and `accept_step` one after the other, as the calls begin, feed and drop them.
-- What it shows is what the calls show. Document 01, "Demand 2's domain", and document 02, CR 6: `previous_accepted_step` and `previous_accepted_state`.
-- ⊘ is an operation on doubles: it rounds.
use Rattle.std.specs.Prelude.{ℕ, zero, suc, ◌+◌, ◌*◌, Bool, true, false, cond, not, ◌&&◌, ◌||◌, List, [], ◌∷◌, eqb, replicate, Float}
use Rattle.std.specs.Float.Ieee.Scale.{finite}
use Rattle.ieee.specs.Double.{◌⊘◌, nought}
use Rattle.family.specs.declared.Setting.{Setting}
use Rattle.family.specs.Family.{known, family_of, setting}
use Rattle.workspace.specs.declared.Arguments.{Arguments}
use Rattle.workspace.specs.Vectors.{Vectors, ◌with◌≔◌, named, vector_count, unpack, all_finite, first_derivative, last_derivative, eigenvector, state}
use Rattle.workspace.specs.Vectors.{candidate, older_state}
use Rattle.driver.specs.declared.Counters.{Counters}
use Rattle.driver.specs.declared.Answer.{Answer}
use Rattle.driver.specs.declared.Answer.TheVariants.{Evaluate, Finished, Ready, Refused, Empty}
use Rattle.driver.specs.Calls.{Held, Called, reply, Call, Start, Attempt, Reply, Accept, AcceptWithCallback, Abandon, made, taken, sized, as_long, good_times}
use Rattle.driver.specs.Calls.{good_tolerances, room}
use Rattle.session.specs.Attempt.{for_another, closes, Asking, done, stopped, ask, ◌>>=◌, evaluate, FinishedAttempt, Evaluated, fixed_at, attempt_step}

-- ---- the calls over a list of them

-- what can be seen of an answer: the time and point to evaluate; norm, s, k, r and candidate; state and derivative; the number, and what a stop with it fixes
-- of the vectors (`fixed_at`)
pub data Shown : Type 0 where
  evaluates : Float → List Float → Shown
  finished_with : Float → ℕ → ℕ → Float → List Float → Shown
  ready_at : List Float → List Float → Shown
  stops : ℕ → List (List Float) → Shown
  nothing : Shown

pub record Seen : Type 0 where
  pub shown : Shown
  pub counts : Counters

-- an evaluation and the finished end of the attempt in one piece, so seen
abbrev pub evaluation_shown : Evaluated → Shown
evaluation_shown x = evaluates x.time x.point

abbrev pub finished_shown : FinishedAttempt → Shown
finished_shown o = finished_with o.norm o.stages o.passes o.scaled_radius (o.vectors candidate)

unfoldable pub answer_shown : Answer → Held → Shown
answer_shown (Evaluate t b) h = evaluates t (unpack h.kept.n h.area (named b))
answer_shown (Finished told) h =
    finished_with told.norm told.stages told.passes told.scaled_radius (unpack h.kept.n h.area candidate)
answer_shown Ready h = ready_at (unpack h.kept.n h.area state) (unpack h.kept.n h.area first_derivative)
answer_shown (Refused i) h = stops i (fixed_at i (unpack h.kept.n h.area))
answer_shown Empty h = nothing

unfoldable pub call_seen : Called → Seen
call_seen x = record { shown = answer_shown x.answer x.held; counts = x.held.counters }

-- what is seen of those that are taken, that is, not turned away with a number on which everything stands
unfoldable pub seen_of : Held → List Call → List Seen
seen_of h [] = []
seen_of h (c ∷ cs) = let rest = seen_of (made h c).held cs in cond (taken (made h c).answer) (call_seen (made h c) ∷ rest) rest

-- those that are taken, each handed what the call before left; and what they leave
unfoldable pub taken_of : Held → List Call → List Call
taken_of h [] = []
taken_of h (c ∷ cs) = let rest = taken_of (made h c).held cs in cond (taken (made h c).answer) (c ∷ rest) rest

unfoldable pub held_after : Held → List Call → Held
held_after h [] = h
held_after h (c ∷ cs) = held_after (made h c).held cs

-- what is seen of an answer and of m replies after it, d i, d (i + 1), ..
unfoldable pub seen_along : ℕ → (ℕ → List Float) → ℕ → Called → List Seen
seen_along zero d i x = call_seen x ∷ []
seen_along (suc m) d i x = call_seen x ∷ seen_along m d (suc i) (reply x.held (d i))

-- ---- the Rust's functions

-- `previous_accepted_step`: none, or a step; where there is one, `previous_accepted_state` is the last of the vectors
pub data PreviousStep : Type 0 where
  no_step : PreviousStep
  some_step : Float → PreviousStep

unfoldable pub is_some : PreviousStep → Bool
is_some no_step = false
is_some (some_step previous) = true

-- `map_or(0.0, |previous| previous / step)`
unfoldable pub quotient : PreviousStep → Float → Float
quotient no_step step = nought
quotient (some_step previous) step = previous ⊘ step

abbrev pub kernel_setting : ℕ → PreviousStep → Float → Setting
kernel_setting f x step = setting f (is_some x) (quotient x step)

-- between two of them: ready, or an attempt of this step is finished
pub data Resting : Type 0 where
  ready_with : PreviousStep → Vectors → Resting
  tried : PreviousStep → Float → FinishedAttempt → Resting

unfoldable pub vectors_of : Resting → Vectors
vectors_of (ready_with x v) = v
vectors_of (tried x step o) = o.vectors

unfoldable pub previous_of : Resting → PreviousStep
previous_of (ready_with x v) = x
previous_of (tried x step o) = x

-- whether their older state is a history that an attempt may read
abbrev pub has_history : Resting → Bool
has_history ρ = is_some (previous_of ρ)

-- `initialize` of a new kernel, whose vectors are zeros
unfoldable pub initialize : ℕ → List Float → Float → Asking Resting
initialize n y t = do
  let v = (λ b. replicate n nought) with state ≔ y
  d ← evaluate for_another v t y
  done (ready_with no_step (v with first_derivative ≔ d))

unfoldable pub tries : ℕ → ℕ → Arguments → PreviousStep → Vectors → Asking Resting
tries f n a x v = do
  o ← attempt_step (kernel_setting f x a.step) n a v
  done (tried x a.step o)

-- `previous_accepted_step` and `previous_accepted_state` of an attempt of this step that is accepted, in the two-step family, TSRKC2
unfoldable pub step_after : ℕ → Float → PreviousStep → PreviousStep
step_after f step x = cond (eqb f 7) (some_step step) x

unfoldable pub state_after : ℕ → Vectors → Vectors
state_after f v = cond (eqb f 7) (v with older_state ≔ v state) v

-- `accept_step`, without a callback and with one
unfoldable pub accept_step : ℕ → PreviousStep → Float → Vectors → Asking Resting
accept_step f x step v = do
  let w = state_after f v
  done (ready_with (step_after f step x) (w with first_derivative ≔ w last_derivative with state ≔ w candidate))

unfoldable pub callback_step : ℕ → List Float → Float → Vectors → Asking Resting
callback_step n y t v = do
  let v = v with state ≔ y
  d ← evaluate for_another v t y
  done (ready_with no_step (v with first_derivative ≔ d with eigenvector ≔ replicate n nought))

-- ---- a session

-- none begun, or abandoned; or within one of them, or at rest after it
pub data Doing : Type 0 where
  none : Doing
  within : Asking Resting → Doing

pub record Session : Type 0 where
  pub family : ℕ
  pub n : ℕ
  pub doing : Doing
  pub counts : Counters

-- where it is at rest, at rest after an attempt, or waiting for a derivative; else it stays
unfoldable pub at_rest : (Resting → Doing) → Doing → Doing
at_rest go none = none
at_rest go (within (done r)) = go r
at_rest go (within (stopped i v)) = within (stopped i v)
at_rest go (within (ask why t p k)) = within (ask why t p k)

unfoldable pub after_attempt : (PreviousStep → Float → Vectors → Doing) → Resting → Doing
after_attempt go (ready_with x v) = within (done (ready_with x v))
after_attempt go (tried x step o) = go x step o.vectors

unfoldable pub waiting : ((List Float → Asking Resting) → Doing) → Doing → Doing
waiting go none = none
waiting go (within (done r)) = within (done r)
waiting go (within (stopped i v)) = within (stopped i v)
waiting go (within (ask why t p k)) = go k

-- a reply is an evaluation; it finishes an attempt where the function is then done with one
unfoldable pub finished_by : Doing → ℕ
finished_by none = 0
finished_by (within (done (ready_with x v))) = 0
finished_by (within (done (tried x step o))) = 1
finished_by (within (stopped i v)) = 0
finished_by (within (ask why t p k)) = 0

unfoldable pub counts_on : Doing → Counters → Counters
counts_on δ c = record { evaluations = c.evaluations + 1; finished_attempts = c.finished_attempts + finished_by δ }

unfoldable pub doing_now : Session → Doing → Session
doing_now σ δ = record { family = σ.family; n = σ.n; doing = δ; counts = σ.counts }

unfoldable pub replied_with : List Float → Doing → Doing
replied_with d δ = waiting (λ k. within (k d)) δ

unfoldable pub session_after : Session → Call → Session
session_after σ (Start f n y t) = record { family = f; n = n; doing = within (initialize n y t); counts = σ.counts }
session_after σ (Attempt a) = doing_now σ (at_rest (λ r. within (tries σ.family σ.n a (previous_of r) (vectors_of r))) σ.doing)
session_after σ (Reply d) = let δ = replied_with d σ.doing in
    record { family = σ.family; n = σ.n; doing = δ; counts = counts_on δ σ.counts }
session_after σ Accept = doing_now σ (at_rest (after_attempt (λ x step v. within (accept_step σ.family x step v))) σ.doing)
session_after σ (AcceptWithCallback y t) = doing_now σ (at_rest (after_attempt (λ x step v. within (callback_step σ.n y t v))) σ.doing)
session_after σ Abandon = doing_now σ (waiting (λ k. none) σ.doing)

unfoldable pub doing_shown : Doing → Shown
doing_shown none = nothing
doing_shown (within (done (ready_with x v))) = ready_at (v state) (v first_derivative)
doing_shown (within (done (tried x step o))) = finished_shown o
doing_shown (within (stopped i v)) = stops i (fixed_at i v)
doing_shown (within (ask why t p k)) = evaluates t p

unfoldable pub session_seen : Session → Seen
session_seen σ = record { shown = doing_shown σ.doing; counts = σ.counts }

-- ---- which calls it takes

unfoldable pub rests : Doing → Bool
rests none = false
rests (within (done r)) = true
rests (within (stopped i v)) = false
rests (within (ask why t p k)) = false

unfoldable pub has_tried : Doing → Bool
has_tried none = false
has_tried (within (done (ready_with x v))) = false
has_tried (within (done (tried x step o))) = true
has_tried (within (stopped i v)) = false
has_tried (within (ask why t p k)) = false

unfoldable pub waits : Doing → Bool
waits none = false
waits (within (done r)) = false
waits (within (stopped i v)) = false
waits (within (ask why t p k)) = true

-- Waits for a derivative, and has room to count it; at the candidate's evaluation also room for a finished attempt. (It is that of the phase Candidate:
-- `Shows` in proofs/Shows.antt.)
unfoldable pub waits_with_room : Doing → Counters → Bool
waits_with_room none c = false
waits_with_room (within (done r)) c = false
waits_with_room (within (stopped i v)) c = false
waits_with_room (within (ask why t p k)) c = room c.evaluations && (not (closes why) || room c.finished_attempts)

-- with an area of so many doubles
unfoldable pub takes : ℕ → Session → Call → Bool
takes size σ (Start f n y t) = known f && (sized n && (eqb size (vector_count (family_of f) * n) && as_long n y && (all_finite y && finite t)))
takes size σ (Attempt a) = rests σ.doing && (good_times a && good_tolerances a)
takes size σ (Reply d) = as_long σ.n d && waits_with_room σ.doing σ.counts
takes size σ Accept = has_tried σ.doing
takes size σ (AcceptWithCallback y t) = as_long σ.n y && (has_tried σ.doing && (all_finite y && finite t))
takes size σ Abandon = waits σ.doing

-- what is seen of a session; a call that it does not take is skipped
unfoldable pub session : ℕ → Session → List Call → List Seen
session size σ [] = []
session size σ (c ∷ cs) = cond (takes size σ c) (session_seen (session_after σ c) ∷ session size (session_after σ c) cs) (session size σ cs)

-- nothing begun yet
unfoldable pub fresh : Counters → Session
fresh c = record { family = 0; n = 0; doing = none; counts = c }
