-- An attempt in one piece, as the Rust has it: `attempt_step`, `spectral_radius`, `run_orthogonal_polynomial`, `run_rkc`, `run_rkmc2` and `run_tsrkc2`, with
-- `?` where the Rust has `?`. Document 01, "driver.rs: the calls", and document 02, CR 1 and CR 6. Where the port differs, as docs/DIFFERENCES.md lists, so
-- does this: `evaluate`, `close`, every norm (document 02, CR 4), and what `stage_need` (RKC's 200 where the Rust's count overflows, RKG's counts by document
-- 02, CR 5, RKMC2's thresholds, 11 where TSRKC2 would need more than 1000 stages) and `recurrence` (the tables of RKC, RKMC2 and TSRKC2) take from the layers
-- below.
-- The right-hand side is whoever answers `ask`. The vectors, which the Rust changes in place, go from line to line. ⊕ ⊗ are operations on doubles: they round.
use Rattle.std.specs.Prelude.{ℕ, zero, suc, ◌+◌, ◌-◌, Bool, true, false, cond, ◌||◌, List, [], ◌∷◌, eqb, Float}
use Rattle.ieee.specs.Double.{◌⊕◌, ◌⊗◌, nought}
use Rattle.family.specs.declared.Setting.{Setting}
use Rattle.coefficients.specs.declared.Recurrence.{Recurrence}
use Rattle.coefficients.specs.Rows.{recurrence, coefficients, next}
use Rattle.workspace.specs.declared.Arguments.{Arguments}
use Rattle.workspace.specs.Vectors.{Vectors, all_finite, first_derivative, derivative, previous_two, previous_one, next_stage, eigenvector, perturbed_state}
use Rattle.workspace.specs.Vectors.{perturbed_derivative, state, candidate}
use Rattle.workspace.specs.Kernel.{with_direction, perturbation_of, perturbed, turned, radius_of, ended, scaled, first_stage, with_row, exchanged}
use Rattle.workspace.specs.Kernel.{with_candidate, with_last, error_norm}
use Rattle.driver.specs.declared.Need.{Need}
use Rattle.driver.specs.declared.Need.TheVariants.{Met, Unmet}
use Rattle.driver.specs.Calls.{stage_need}

-- ---- a computation that asks for derivatives

-- What an evaluation is for: the candidate's, whose finite reply finishes the attempt (`close` alone asks for it), or another.
pub data Purpose : Type 0 where
  for_candidate : Purpose
  for_another : Purpose

unfoldable pub closes : Purpose → Bool
closes for_candidate = true
closes for_another = false

-- It is done, or stopped by a refusal with the vectors as they are then, or asks for the derivative at a time and a point, saying what for, and goes on
-- with the reply.
pub data Asking (A : Type 0) : Type 0 where
  done : A → Asking A
  stopped : ℕ → Vectors → Asking A
  ask : Purpose → Float → List Float → (List Float → Asking A) → Asking A

infixl 20 ◌>>=◌
unfoldable pub ◌>>=◌ : {A B : Type 0} → Asking A → (A → Asking B) → Asking B
done a >>= f = f a
stopped i v >>= f = stopped i v
ask why t p k >>= f = ask why t p (λ d. k d >>= f)

-- `evaluate`: a derivative that is not finite stops the attempt before it is written. The Rust writes it and then stops: a listed difference
-- (document 01, number 9).
unfoldable pub evaluate : Purpose → Vectors → Float → List Float → Asking (List Float)
evaluate why v t p = ask why t p (λ d. cond (all_finite d) (done d) (stopped 9 v))

-- a need that is refused stops it too (document 02, CR 6)
unfoldable pub stages_for : Need → Vectors → Asking ℕ
stages_for (Met s) v = done s
stages_for (Unmet i) v = stopped i v

-- ---- the Rust's functions

pub record Radius : Type 0 where
  pub radius : Float
  pub passes : ℕ
  pub vectors : Vectors

-- a finished attempt: its error norm, s, k, r, and the vectors, the candidate among them
pub record FinishedAttempt : Type 0 where
  pub norm : Float
  pub stages : ℕ
  pub passes : ℕ
  pub scaled_radius : Float
  pub vectors : Vectors

-- what the attempt runs under, the length of its vectors, and its arguments
module _ (under : Setting) (n : ℕ) (a : Arguments) where
  -- the loop of `spectral_radius`: passes still allowed, passes made, the radius before
  unfoldable pub iterate : Float → ℕ → ℕ → Float → Vectors → Asking Radius
  iterate perturbation zero k radius v = done (record { radius = radius; passes = k; vectors = v })
  iterate perturbation (suc m) k previous v = do
    let v = perturbed n perturbation v
    d ← evaluate for_another v a.time (v perturbed_state)
    let v = turned n v d
    let radius = radius_of perturbation v
    cond (ended (k + 1) previous radius)
        (done (record { radius = radius; passes = k + 1; vectors = v }))
        (iterate perturbation m (k + 1) radius v)

  unfoldable pub spectral_radius : Vectors → Asking Radius
  spectral_radius v = iterate (perturbation_of v) 12 0 nought (with_direction n v)

  -- a stage's derivative, and the vectors after its row
  unfoldable pub stage_row : ℕ → ℕ → Recurrence → Vectors → Asking Vectors
  stage_row s j c v = do
    d ← evaluate for_another v (a.time ⊕ a.step ⊗ c.theta_previous) (v previous_one)
    done (with_row under n a.step (coefficients under s j c) v d)

  -- the loop over the stages, m of them after stage j; after stage s, which is the last, the candidate
  unfoldable pub stage_loop : ℕ → ℕ → ℕ → Recurrence → Vectors → Asking Vectors
  stage_loop s zero j c v = do
    v ← stage_row s j c v
    done (with_candidate under n a.step s c (coefficients under s j c) v)
  stage_loop s (suc m) j c v = do
    v ← stage_row s j c v
    stage_loop s m (j + 1) (next under c (coefficients under s j c)) (exchanged v)

  unfoldable pub run_recurrence : ℕ → Vectors → Asking Vectors
  run_recurrence s v = let c = recurrence under s in
      stage_loop s (s - 2) 2 c (first_stage n a.step c.theta_previous v)

  unfoldable pub finished_attempt : ℕ → ℕ → Float → Vectors → FinishedAttempt
  finished_attempt s k r v = record { norm = error_norm under n s a v; stages = s; passes = k; scaled_radius = r; vectors = v }

  -- `finite(candidate)?`, then the evaluation at the candidate and the error. (The Rust reports a candidate that is not finite as a derivative; here it has
  -- a number of its own: a listed difference.)
  unfoldable pub close : ℕ → ℕ → Float → Vectors → Asking FinishedAttempt
  close s k r v =
      cond (all_finite (v candidate))
      (do
        d ← evaluate for_candidate v (a.time ⊕ a.step) (v candidate)
        done (finished_attempt s k r (with_last under n a v d)))
      (stopped 10 v)

  unfoldable pub attempt_step : Vectors → Asking FinishedAttempt
  attempt_step v = do
    found ← spectral_radius v
    let r = scaled a.step found.radius
    s ← stages_for (stage_need under r) found.vectors
    v ← run_recurrence s found.vectors
    close s found.passes r v

-- ---- the same against a stream of replies, of which the first is d i

pub record Evaluated : Type 0 where
  pub time : Float
  pub point : List Float

unfoldable pub evaluated : {A : Type 0} → Asking A → (ℕ → List Float) → ℕ → List Evaluated
evaluated (done x) d i = []
evaluated (stopped j v) d i = []
evaluated (ask why t p k) d i = record { time = t; point = p } ∷ evaluated (k (d i)) d (suc i)

pub data End (A : Type 0) : Type 0 where
  reached : A → End A
  refused : ℕ → Vectors → End A

unfoldable pub end : {A : Type 0} → Asking A → (ℕ → List Float) → ℕ → End A
end (done x) d i = reached x
end (stopped j v) d i = refused j v
end (ask why t p k) d i = end (k (d i)) d (suc i)

-- whether the candidate's evaluation is asked for
unfoldable pub reaches_candidate : {A : Type 0} → Asking A → (ℕ → List Float) → ℕ → Bool
reaches_candidate (done x) d i = false
reaches_candidate (stopped j v) d i = false
reaches_candidate (ask why t p k) d i = closes why || reaches_candidate (k (d i)) d (suc i)

-- ---- what a stop fixes of the vectors, by its number

-- all but the last derivative and the older state, in the area's order
abbrev pub all_but_last : Vectors → List (List Float)
all_but_last v =
    v first_derivative ∷ v derivative ∷ v previous_two ∷ v previous_one ∷ v next_stage
    ∷ v eigenvector ∷ v perturbed_state ∷ v perturbed_derivative ∷ v state ∷ v candidate ∷ []

-- what the power iteration reads and writes
abbrev pub iteration_work : Vectors → List (List Float)
iteration_work v = v first_derivative ∷ v eigenvector ∷ v perturbed_state ∷ v perturbed_derivative ∷ v state ∷ []

-- With 10 "area as the Rust's vectors are when its test of the candidate fails, but the last derivative stands" (document 01's table): these ten; that the
-- last derivative stands, and the older state, is `leaves` (proofs/Leaves.antt). With 11 "the iteration's work kept" (document 02, CR 6): these five; the
-- others stand, by `leaves` too. With 9 nothing: the area stands, whatever it held.
unfoldable pub fixed_at : ℕ → Vectors → List (List Float)
fixed_at i v = cond (eqb i 10) (all_but_last v) (cond (eqb i 11) (iteration_work v) [])
