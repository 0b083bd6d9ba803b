-- The attempt with fractions on y' = c·y, and its multiplier. Document 01, "Demand 3's attempt with fractions".
-- ⊖ ⊗ are operations on fractions: they are exact.
use Rattle.std.specs.Prelude.{List, [], ◌∷◌, ℕ, zero, suc, pos}
use Rattle.fractions.specs.Frac.{Frac, ◌⊗◌, ◌⊖◌, int}
use Rattle.fractions.specs.Lists.{◌⊞◌, ◌·◌}
use Rattle.fractions.specs.Polynomial.{times_variable}
use Rattle.family.specs.Family.{Orthogonal}
use Rattle.coefficients.specs.Paper.{mu, nu, mu_tilde, gamma_tilde, first_mu_tilde}

-- what is multiplied by z: a list of numbers where z is a number, a polynomial where z is the variable
module _ (times_z : List Frac → List Frac) (f : Orthogonal) (s : ℕ) (y : List Frac) where
  unfoldable pub row : ℕ → List Frac → List Frac → List Frac
  row j previous previous_two =
      mu f j · previous ⊞ nu f j · previous_two ⊞ (int (pos 1) ⊖ mu f j ⊖ nu f j) · y
      ⊞ times_z (mu_tilde f s j · previous ⊞ gamma_tilde f s j · y)

  unfoldable pub stage : ℕ → List Frac
  stage zero = y
  stage (suc zero) = y ⊞ first_mu_tilde f s · times_z y
  stage (suc (suc i)) = row (suc (suc i)) (stage (suc i)) (stage i)

-- z is step × c
unfoldable pub attempt : Orthogonal → ℕ → Frac → Frac → List Frac → List Frac
attempt f s c step y = stage (λ p. (step ⊗ c) · p) f s y s

-- the same stages with z the variable, from the constant 1: the polynomial in z that multiplies y
unfoldable pub multiplier : Orthogonal → ℕ → List Frac
multiplier f s = stage times_variable f s (int (pos 1) ∷ []) s
