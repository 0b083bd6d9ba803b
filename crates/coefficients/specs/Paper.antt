-- The coefficients of the papers of Meyer, Balsara and Aslam (RKL) and of Skaras and others (RKG), as exact fractions. Document 01, "orthogonal.rs: RKL and RKG
-- rows". s is the number of stages, j the stage, from 2 to s. ⊖ ⊗ ⊘ are operations on fractions: they are exact.
use Rattle.std.specs.Prelude.{ℕ, zero, suc, ◌+◌, ◌*◌, ◌-◌, pos}
use Rattle.fractions.specs.Frac.{Frac, ◌⊗◌, ◌⊖◌, opp, int, frac, ◌⊘◌}
use Rattle.family.specs.Family.{Orthogonal, Legendre1, Legendre2, Gegenbauer1, Gegenbauer2}

-- ω1
unfoldable pub omega_one : Orthogonal → ℕ → Frac
omega_one Legendre1 s = frac 2 (s * (s + 1))
omega_one Legendre2 s = frac 4 ((s - 1) * (s + 2))
omega_one Gegenbauer1 s = frac 4 (s * (s + 3))
omega_one Gegenbauer2 s = frac 6 ((s - 1) * (s + 4))

-- ---- b

unfoldable pub b_zero : Orthogonal → Frac
b_zero Legendre1 = int (pos 1)
b_zero Legendre2 = frac 1 3
b_zero Gegenbauer1 = int (pos 1)
b_zero Gegenbauer2 = int (pos 1)

unfoldable pub b_one : Orthogonal → Frac
b_one Legendre1 = int (pos 1)
b_one Legendre2 = frac 1 3
b_one Gegenbauer1 = frac 1 3
b_one Gegenbauer2 = frac 1 3

-- from stage 2 on
unfoldable pub b_later : Orthogonal → ℕ → Frac
b_later Legendre1 j = int (pos 1)
b_later Legendre2 j = frac ((j - 1) * (j + 2)) (2 * j * (j + 1))
b_later Gegenbauer1 j = frac 2 ((j + 1) * (j + 2))
b_later Gegenbauer2 j = frac (4 * (j - 1) * (j + 4)) (3 * j * (j + 1) * (j + 2) * (j + 3))

unfoldable pub b : Orthogonal → ℕ → Frac
b f zero = b_zero f
b f (suc zero) = b_one f
b f (suc (suc i)) = b_later f (suc (suc i))

-- ---- a is 1 − b times the value at 1 of the polynomial of degree j: Legendre's, or Gegenbauer's of index 3/2

unfoldable pub value_at_one : Orthogonal → ℕ → Frac
value_at_one Legendre1 j = int (pos 1)
value_at_one Legendre2 j = int (pos 1)
value_at_one Gegenbauer1 j = frac ((j + 1) * (j + 2)) 2
value_at_one Gegenbauer2 j = frac ((j + 1) * (j + 2)) 2

unfoldable pub a : Orthogonal → ℕ → Frac
a f j = int (pos 1) ⊖ b f j ⊗ value_at_one f j

-- ---- mu and nu

unfoldable pub mu_factor : Orthogonal → ℕ → Frac
mu_factor Legendre1 j = frac (2 * j - 1) j
mu_factor Legendre2 j = frac (2 * j - 1) j
mu_factor Gegenbauer1 j = frac (2 * j + 1) j
mu_factor Gegenbauer2 j = frac (2 * j + 1) j

unfoldable pub mu : Orthogonal → ℕ → Frac
mu f j = mu_factor f j ⊗ (b f j ⊘ b f (j - 1))

unfoldable pub nu_factor : Orthogonal → ℕ → Frac
nu_factor Legendre1 j = frac (j - 1) j
nu_factor Legendre2 j = frac (j - 1) j
nu_factor Gegenbauer1 j = frac (j + 1) j
nu_factor Gegenbauer2 j = frac (j + 1) j

unfoldable pub nu : Orthogonal → ℕ → Frac
nu f j = opp (nu_factor f j ⊗ (b f j ⊘ b f (j - 2)))

-- ---- those of the derivatives

unfoldable pub mu_tilde : Orthogonal → ℕ → ℕ → Frac
mu_tilde f s j = omega_one f s ⊗ mu f j

unfoldable pub gamma_tilde : Orthogonal → ℕ → ℕ → Frac
gamma_tilde f s j = opp (a f (j - 1)) ⊗ mu_tilde f s j

-- stage 1
unfoldable pub first_mu_tilde : Orthogonal → ℕ → Frac
first_mu_tilde Legendre1 s = omega_one Legendre1 s
first_mu_tilde Legendre2 s = omega_one Legendre2 s ⊗ frac 1 3
first_mu_tilde Gegenbauer1 s = omega_one Gegenbauer1 s
first_mu_tilde Gegenbauer2 s = omega_one Gegenbauer2 s
