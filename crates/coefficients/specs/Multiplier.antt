-- What is claimed of the multiplier. Document 01, "Demand 3's attempt with fractions", demand 3, and document 02, CR 5: the reach is 2/ω1.
-- ⊗ ⊘ are operations on fractions: they are exact.
use Rattle.std.specs.Prelude.{List, [], ◌∷◌, ℕ, pos}
use Rattle.fractions.specs.Frac.{Frac, ◌⊗◌, opp, int, frac, ◌⊘◌, ◌≈◌, Between}
use Rattle.fractions.specs.Lists.{nth, ◌·◌, ◌≋◌}
use Rattle.fractions.specs.Polynomial.{eval}
use Rattle.family.specs.Family.{Orthogonal, Legendre1, Legendre2, Gegenbauer1, Gegenbauer2}
use Rattle.family.specs.Reach.{reach}
use Rattle.coefficients.specs.Paper.{omega_one, mu, nu, mu_tilde, gamma_tilde}
use Rattle.coefficients.specs.Exact.{attempt, multiplier}

-- the polynomial begins 1 + z
pub record FirstOrder (p : List Frac) : Type 0 where
  pub constant : nth p 0 ≈ int (pos 1)
  pub linear : nth p 1 ≈ int (pos 1)

-- the polynomial begins 1 + z + z²/2
pub record SecondOrder (p : List Frac) : Type 0 where
  pub first_order : FirstOrder p
  pub quadratic : nth p 2 ≈ frac 1 2

unfoldable pub Begins : Orthogonal → List Frac → Type 0
Begins Legendre1 p = FirstOrder p
Begins Legendre2 p = SecondOrder p
Begins Gegenbauer1 p = FirstOrder p
Begins Gegenbauer2 p = SecondOrder p

-- between −1 and 1 for every fraction z from −far to 0
unfoldable pub Bounded : List Frac → Frac → Type 0
Bounded p far = (z : Frac) → Between (opp far) z (int (pos 0)) → Between (opp (int (pos 1))) (eval p z) (int (pos 1))

-- What is proved for every permitted s. The multiplier is given by family and s alone: c, step and y come after it.
pub record Stable (f : Orthogonal) (s : ℕ) : Type 0 where
  pub multiplies : (c step : Frac) (y : List Frac) → attempt f s c step y ≋ eval (multiplier f s) (step ⊗ c) · y
  pub begins : Begins f (multiplier f s)
  pub bounded : Bounded (multiplier f s) (int (pos 2) ⊘ omega_one f s)
  pub reach_is : reach f s ≈ int (pos 2) ⊘ omega_one f s
  pub bounded_on_reach : Bounded (multiplier f s) (reach f s)

-- Document 01's example: RKL2 with s = 3. A row is mu, nu, mu_tilde, gamma_tilde.
unfoldable pub example_row : ℕ → List Frac
example_row j = mu Legendre2 j ∷ nu Legendre2 j ∷ mu_tilde Legendre2 3 j ∷ gamma_tilde Legendre2 3 j ∷ []

pub record Example : Type 0 where
  pub omega_one_is : omega_one Legendre2 3 ≈ frac 2 5
  pub stage_two : example_row 2 ≋ frac 3 2 ∷ opp (frac 1 2) ∷ frac 3 5 ∷ opp (frac 2 5) ∷ []
  pub stage_three : example_row 3 ≋ frac 25 12 ∷ opp (frac 5 6) ∷ frac 5 6 ∷ opp (frac 5 9) ∷ []
  pub multiplier_is : multiplier Legendre2 3 ≋ int (pos 1) ∷ int (pos 1) ∷ frac 1 2 ∷ frac 1 15 ∷ []
