-- What the kernel does to its vectors between two evaluations: the loops over the entries in workspace.rs, orthogonal.rs, chebyshev.rs and driver.rs.
-- Document 01, "workspace.rs: norms and the power iteration" and "driver.rs: the calls", and document 02, CR 1 and CR 6; every norm is one of norm/specs/Norm
-- (CR 4).
-- ⊕ ⊖ ⊗ ⊘ are operations on doubles: they round.
use Rattle.std.specs.Prelude.{ℕ, Bool, cond, ◌&&◌, ◌||◌, List, ltb, replicate, Float}
use Rattle.std.specs.Float.Ieee.{le, eq}
use Rattle.ieee.specs.Double.{◌⊕◌, ◌⊖◌, ◌⊗◌, ◌⊘◌, double, nearest, min_positive, root_epsilon, nought, one, two, four, five}
use Rattle.ieee.specs.Whole.{abs, max}
use Rattle.family.specs.declared.Setting.{Setting}
use Rattle.family.specs.declared.RowForm.{RowForm}
use Rattle.family.specs.declared.RowForm.TheVariants.{ChebyshevRow, OrthogonalRow, InitialFirstRow, PlainRow}
use Rattle.family.specs.declared.ErrorForm.{ErrorForm}
use Rattle.family.specs.declared.ErrorForm.TheVariants.{FirstDerivative, BothDerivatives, LastDerivative}
use Rattle.family.specs.declared.CandidateForm.{CandidateForm}
use Rattle.family.specs.declared.CandidateForm.TheVariants.{LastStage, Combined, WithOlder}
use Rattle.family.specs.Family.{facts_of, kind}
use Rattle.coefficients.specs.declared.Coefficients.{Coefficients}
use Rattle.coefficients.specs.declared.Recurrence.{Recurrence}
use Rattle.coefficients.specs.declared.Weights.{Weights}
use Rattle.coefficients.specs.Rows.{candidate_weights}
use Rattle.workspace.specs.declared.Arguments.{Arguments}
use Rattle.workspace.specs.declared.Vector.{Vector}
use Rattle.workspace.specs.Vectors.{Vectors, ◌with◌≔◌, each, root_of_squares, vector_norm, first_derivative, last_derivative, derivative}
use Rattle.workspace.specs.Vectors.{previous_two, previous_one, next_stage, eigenvector, perturbed_state, perturbed_derivative, state, candidate}
use Rattle.workspace.specs.Vectors.{older_state}

-- ---- the power iteration: `spectral_radius`

-- the kept eigenvector, else the first derivative, else all ones
unfoldable pub with_direction : ℕ → Vectors → Vectors
with_direction n v =
    cond (le (vector_norm (v eigenvector)) min_positive)
    (cond (le (vector_norm (v first_derivative)) min_positive) (v with eigenvector ≔ replicate n one) (v with eigenvector ≔ v first_derivative))
    v

unfoldable pub perturbation_of : Vectors → Float
perturbation_of v = root_epsilon ⊗ max (vector_norm (v state)) one

-- the point of a pass, along a direction of this norm
unfoldable pub perturbed_by : ℕ → Float → Float → Vectors → Vectors
perturbed_by n perturbation norm v = let scale = perturbation ⊘ max norm min_positive in
    v with perturbed_state ≔ each n v (λ x. x state ⊕ scale ⊗ x eigenvector)

unfoldable pub perturbed : ℕ → Float → Vectors → Vectors
perturbed n perturbation v = perturbed_by n perturbation (vector_norm (v eigenvector)) v

-- its derivative d taken: the next direction
unfoldable pub turned : ℕ → Vectors → List Float → Vectors
turned n v d = let w = v with perturbed_derivative ≔ d in
    w with eigenvector ≔ each n w (λ x. x perturbed_derivative ⊖ x first_derivative)

unfoldable pub radius_of : Float → Vectors → Float
radius_of perturbation v = vector_norm (v eigenvector) ⊘ perturbation

-- ends at radius 0, and after the second or a later pass on a small change
unfoldable pub ended : ℕ → Float → Float → Bool
ended pass previous radius =
    eq radius nought || (ltb 1 pass && le (abs (radius ⊖ previous)) (nearest 1 100 ⊗ max radius one))

-- |step| × 1.2 × radius
unfoldable pub scaled : Float → Float → Float
scaled step radius = abs step ⊗ (nearest 12 10 ⊗ radius)

-- ---- the stages: `run_orthogonal_polynomial`, `run_rkc`, `run_rkmc2` and `run_tsrkc2`

-- stages 0 and 1
unfoldable pub first_stage : ℕ → Float → Float → Vectors → Vectors
first_stage n step mu~ v = v
    with previous_two ≔ v state
    with previous_one ≔ each n v (λ x. x state ⊕ step ⊗ mu~ ⊗ x first_derivative)

unfoldable pub orthogonal_entry : Float → Coefficients → (Vector → Float) → Float
orthogonal_entry h c x =
    c.mu ⊗ x previous_one ⊕ c.nu ⊗ x previous_two ⊕ (one ⊖ c.mu ⊖ c.nu) ⊗ x state
    ⊕ h ⊗ c.mu_tilde ⊗ x derivative ⊕ h ⊗ c.gamma_tilde ⊗ x first_derivative

unfoldable pub chebyshev_entry : Float → Coefficients → (Vector → Float) → Float
chebyshev_entry h c x =
    c.mu ⊗ x previous_one ⊕ c.nu ⊗ x previous_two ⊕ (one ⊖ c.mu ⊖ c.nu) ⊗ x state
    ⊕ h ⊗ c.mu_tilde ⊗ (x derivative ⊖ c.gamma_tilde ⊗ x first_derivative)

-- the state's term comes first
unfoldable pub initial_first_entry : Float → Coefficients → (Vector → Float) → Float
initial_first_entry h c x =
    (one ⊖ c.mu ⊖ c.nu) ⊗ x state ⊕ c.mu ⊗ x previous_one ⊕ c.nu ⊗ x previous_two
    ⊕ h ⊗ c.mu_tilde ⊗ (x derivative ⊖ c.gamma_tilde ⊗ x first_derivative)

-- neither the state nor the first derivative
unfoldable pub plain_entry : Float → Coefficients → (Vector → Float) → Float
plain_entry h c x = c.mu ⊗ x previous_one ⊕ c.nu ⊗ x previous_two ⊕ h ⊗ c.mu_tilde ⊗ x derivative

unfoldable pub entry_in : RowForm → Float → Coefficients → (Vector → Float) → Float
entry_in ChebyshevRow = chebyshev_entry
entry_in OrthogonalRow = orthogonal_entry
entry_in InitialFirstRow = initial_first_entry
entry_in PlainRow = plain_entry

-- a stage's derivative d taken: the row
unfoldable pub with_row_in : RowForm → ℕ → Float → Coefficients → Vectors → List Float → Vectors
with_row_in form n step c v d = let w = v with derivative ≔ d in
    w with next_stage ≔ each n w (entry_in form step c)

abbrev pub with_row : Setting → ℕ → Float → Coefficients → Vectors → List Float → Vectors
with_row m n step c v d = with_row_in (facts_of (kind m)).row n step c v d

-- the two swaps: a three-cycle
unfoldable pub exchanged : Vectors → Vectors
exchanged v = v
    with previous_two ≔ v previous_one
    with previous_one ≔ v next_stage
    with next_stage ≔ v previous_two

unfoldable pub combined_entry : Float → Weights → (Vector → Float) → Float
combined_entry h w x = w.initial ⊗ x state ⊕ w.last ⊗ x next_stage ⊕ w.older ⊗ x previous_two ⊕ h ⊗ w.slope ⊗ x first_derivative

-- TSRKC2's: the last stage and the older state, which without a history is the state itself
abbrev pub older_of : Setting → Vector
older_of m = cond m.history older_state state

unfoldable pub mixed_entry : Vector → Float → (Vector → Float) → Float
mixed_entry older gain x = (one ⊖ gain) ⊗ x older ⊕ gain ⊗ x next_stage

-- the candidate after stage s, into which c was carried: the last stage itself, RKMC2's combination, or TSRKC2's (none reads the row of stage s)
unfoldable pub candidate_in : CandidateForm → Setting → ℕ → Float → ℕ → Recurrence → Coefficients → Vectors → List Float
candidate_in LastStage m n step s c row v = v next_stage
candidate_in Combined m n step s c row v = each n v (combined_entry step (candidate_weights s c))
candidate_in WithOlder m n step s c row v = each n v (mixed_entry (older_of m) c.polynomials.gain)

unfoldable pub with_candidate : Setting → ℕ → Float → ℕ → Recurrence → Coefficients → Vectors → Vectors
with_candidate m n step s c row v = v with candidate ≔ candidate_in (facts_of (kind m)).candidate m n step s c row v

-- ---- the error: the end of `attempt_step`

unfoldable pub error_in : ErrorForm → Float → (Vector → Float) → Float
error_in BothDerivatives h x =
    (four ⊗ (x state ⊖ x candidate) ⊕ two ⊗ h ⊗ (x first_derivative ⊕ x last_derivative)) ⊘ five
error_in FirstDerivative h x = x candidate ⊖ (x state ⊕ h ⊗ x first_derivative)
error_in (LastDerivative over) h x = (x state ⊖ x candidate ⊕ h ⊗ x last_derivative) ⊘ over

abbrev pub error : Setting → Float → (Vector → Float) → Float
error m h x = error_in (facts_of (kind m)).error h x

-- the last derivative d taken; with `adaptive` the error goes where the derivative stood
unfoldable pub with_last : Setting → ℕ → Arguments → Vectors → List Float → Vectors
with_last m n a v d = let w = v with last_derivative ≔ d in
    cond a.adaptive (w with derivative ≔ each n w (error m a.step)) w

unfoldable pub divisor_in : ErrorForm → ℕ → Float
divisor_in BothDerivatives s = one
divisor_in FirstDerivative s = double s
divisor_in (LastDerivative over) s = one

abbrev pub divisor : Setting → ℕ → Float
divisor m s = divisor_in (facts_of (kind m)).error s

-- an error's entry over its tolerance
unfoldable pub scaled_error : Arguments → (Vector → Float) → Float
scaled_error a x = x derivative ⊘ (a.absolute_tolerance ⊕ a.relative_tolerance ⊗ max (abs (x state)) (abs (x candidate)))

unfoldable pub scaled_error_norm : ℕ → Arguments → Vectors → Float
scaled_error_norm n a v = root_of_squares (double n) (each n v (scaled_error a))

-- without `adaptive` the norm is 0
unfoldable pub error_norm : Setting → ℕ → ℕ → Arguments → Vectors → Float
error_norm m n s a v = cond a.adaptive (scaled_error_norm n a v ⊘ divisor m s) nought
