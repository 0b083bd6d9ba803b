-- The candidate of every family but RKMC2 and TSRKC2 is the last stage, as `run_rkc` and `run_orthogonal_polynomial` copy it (`candidate_last`); RKMC2's and
-- TSRKC2's is the combination of the vectors as they stand after it (`candidate_combined`, `candidate_mixed`). From the definition of `with_candidate` alone.
-- And RKMC2's is the same where four vectors are (`combined_same`), TSRKC2's where two are (`mixed_same`).
use mathlib.Core.Path.{◌≡◌, refl, ap, ◌∙◌}
use mathlib.Core.Bool.{Bool, true, false, cond}
use Prim.Native.Nat.{ℕ}
use lib.Ieee.{Float}
use Rattle.family.specs.declared.Setting.{Setting}
use Rattle.family.specs.declared.Family.{Family}
use Rattle.family.specs.declared.Family.TheVariants.{RKC, RKL1, RKL2, RKG1, RKG2, RKMC2, TSRKC2}
use Rattle.family.specs.Family.{facts_of, kind}
use Rattle.coefficients.specs.declared.Recurrence.{Recurrence}
use Rattle.coefficients.specs.declared.Coefficients.{Coefficients}
use Rattle.coefficients.specs.declared.Weights.{Weights}
use Rattle.coefficients.specs.Rows.{candidate_weights}
use Rattle.workspace.specs.declared.Vector.{Vector}
use Rattle.workspace.specs.Vectors.{Vectors, each, first_derivative, previous_two, next_stage, state, candidate, older_state}
use Rattle.workspace.specs.Kernel.{candidate_in, combined_entry, older_of, mixed_entry, with_candidate}

module _ (m : Setting) (n : ℕ) (step : Float) (s : ℕ) (c : Recurrence) (row : Coefficients) (v : Vectors) where
  pub candidate_last : (kind m ≡ RKMC2 → ⊥) → (kind m ≡ TSRKC2 → ⊥)
      → with_candidate m n step s c row v candidate ≡ with_candidate m n step s c row v next_stage
  unfolding with_candidate candidate_in facts_of
  candidate_last other another = go (kind m) other another
    where
      go : (f : Family) → (f ≡ RKMC2 → ⊥) → (f ≡ TSRKC2 → ⊥) → candidate_in (facts_of f).candidate m n step s c row v ≡ v next_stage
      go RKC h k = refl
      go RKL1 h k = refl
      go RKL2 h k = refl
      go RKG1 h k = refl
      go RKG2 h k = refl
      go RKMC2 h k = absurd (h refl)
      go TSRKC2 h k = absurd (k refl)

  pub candidate_combined : kind m ≡ RKMC2
      → with_candidate m n step s c row v candidate ≡ each n (with_candidate m n step s c row v) (combined_entry step (candidate_weights s c))
  unfolding with_candidate candidate_in facts_of each combined_entry
  candidate_combined e = ap (λ (f : Family). candidate_in (facts_of f).candidate m n step s c row v) e

  pub candidate_mixed : kind m ≡ TSRKC2
      → with_candidate m n step s c row v candidate ≡ each n (with_candidate m n step s c row v) (mixed_entry (older_of m) c.polynomials.gain)
  unfolding with_candidate candidate_in facts_of each mixed_entry
  candidate_mixed e = ap (λ (f : Family). candidate_in (facts_of f).candidate m n step s c row v) e ∙ go m.history
    where
      go : (t : Bool) → each n v (mixed_entry (cond t older_state state) c.polynomials.gain)
          ≡ each n (with_candidate m n step s c row v) (mixed_entry (cond t older_state state) c.polynomials.gain)
      go true = refl
      go false = refl

pub combined_same : (n : ℕ) (step : Float) (weights : Weights) (v w : Vectors) → v state ≡ w state → v next_stage ≡ w next_stage
    → v previous_two ≡ w previous_two → v first_derivative ≡ w first_derivative
    → each n v (combined_entry step weights) ≡ each n w (combined_entry step weights)
unfolding each combined_entry
combined_same n step weights v w a b c d = rw (a, b, c, d)

pub mixed_same : (n : ℕ) (b : Vector) (gain : Float) (v w : Vectors) → v b ≡ w b → v next_stage ≡ w next_stage
    → each n v (mixed_entry b gain) ≡ each n w (mixed_entry b gain)
unfolding each mixed_entry
mixed_same n b gain v w p q = rw (p, q)
