-- Document 01's example, by computation. ⊕ ⊗ ⊘ are operations on fractions: they are exact.
use mathlib.Core.Path.{refl}
use Rattle.fractions.specs.Frac.{◌⊕◌, ◌⊗◌, opp, int, ◌over◌, frac, ◌⊘◌, inverse_of}
use Rattle.fractions.specs.Lists.{◌⊞◌, ◌·◌}
use Rattle.fractions.specs.Polynomial.{times_variable}
use Rattle.fractions.proofs.ListLaws.{≋-nil, ◌≋∷◌}
use Rattle.coefficients.specs.Paper.{omega_one, b, b_later, b_zero, b_one, value_at_one, a, mu_factor, nu_factor, mu, nu, mu_tilde, gamma_tilde}
use Rattle.coefficients.specs.Paper.{first_mu_tilde}
use Rattle.coefficients.specs.Exact.{row, stage, multiplier}
use Rattle.coefficients.specs.Multiplier.{Example, example_row}

pub example : Example
unfolding example_row omega_one b b_later b_zero b_one value_at_one a mu_factor nu_factor mu nu mu_tilde gamma_tilde first_mu_tilde row stage multiplier
    times_variable ◌⊞◌ ◌·◌ ◌⊕◌ ◌⊗◌ opp int ◌over◌ frac ◌⊘◌ inverse_of
example = record {
  omega_one_is = record { cross = refl };
  stage_two = record { cross = refl } ≋∷ record { cross = refl } ≋∷ record { cross = refl } ≋∷ record { cross = refl } ≋∷ ≋-nil;
  stage_three = record { cross = refl } ≋∷ record { cross = refl } ≋∷ record { cross = refl } ≋∷ record { cross = refl } ≋∷ ≋-nil;
  multiplier_is = record { cross = refl } ≋∷ record { cross = refl } ≋∷ record { cross = refl } ≋∷ record { cross = refl } ≋∷ ≋-nil;
}
