-- The coefficients of a row that depend on j alone, as `coefficients` has them: by b of the stage, z, of the stage before, y, and of the one before that, x.
-- ⊕ ⊖ ⊗ ⊘ are operations on doubles: they round.
use Prim.Native.Nat.{ℕ, ◌+◌, ◌-◌, ◌*◌, ◌/◌}
use lib.Ieee.{Float, neg}
use Rattle.family.specs.Family.{Orthogonal, Legendre1, Legendre2, Gegenbauer1, Gegenbauer2}
use Rattle.ieee.specs.Double.{◌⊕◌, ◌⊖◌, ◌⊗◌, ◌⊘◌, double, nought, one, two}
use Rattle.coefficients.specs.Rows.{legendre_two_b, gegenbauer_one_b, gegenbauer_two_b}

unfoldable pub b_of : Orthogonal → ℕ → Float
b_of Legendre1 j = one
b_of Legendre2 j = legendre_two_b j
b_of Gegenbauer1 j = gegenbauer_one_b j
b_of Gegenbauer2 j = gegenbauer_two_b j

unfoldable pub mu_with : Orthogonal → ℕ → Float → Float → Float
mu_with Legendre1 j z y = let t = double j in (two ⊗ t ⊖ one) ⊘ t
mu_with Legendre2 j z y = let t = double j in (two ⊗ t ⊖ one) ⊘ t ⊗ z ⊘ y
mu_with Gegenbauer1 j z y = let t = double j in (two ⊗ t ⊕ one) ⊘ t ⊗ z ⊘ y
mu_with Gegenbauer2 j z y = let t = double j in (two ⊗ t ⊕ one) ⊘ t ⊗ z ⊘ y

unfoldable pub nu_with : Orthogonal → ℕ → Float → Float → Float
nu_with Legendre1 j z x = let t = double j in neg (t ⊖ one) ⊘ t
nu_with Legendre2 j z x = let t = double j in neg (t ⊖ one) ⊘ t ⊗ z ⊘ x
nu_with Gegenbauer1 j z x = let t = double j in neg (t ⊕ one) ⊘ t ⊗ z ⊘ x
nu_with Gegenbauer2 j z x = let t = double j in neg (t ⊕ one) ⊘ t ⊗ z ⊘ x

-- a of the stage before. In Legendre1 and Gegenbauer1 the Rust has no such double
unfoldable pub a_with : Orthogonal → ℕ → Float → Float
a_with Legendre1 j y = nought
a_with Legendre2 j y = one ⊖ y
a_with Gegenbauer1 j y = nought
a_with Gegenbauer2 j y = one ⊖ double (j * (j + 1) / 2) ⊗ y

unfoldable pub mu_of : Orthogonal → ℕ → Float
mu_of f j = mu_with f j (b_of f j) (b_of f (j - 1))

unfoldable pub nu_of : Orthogonal → ℕ → Float
nu_of f j = nu_with f j (b_of f j) (b_of f (j - 2))

unfoldable pub a_of : Orthogonal → ℕ → Float
a_of f j = a_with f j (b_of f (j - 1))
