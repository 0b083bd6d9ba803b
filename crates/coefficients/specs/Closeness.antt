-- A row of doubles beside the papers' fractions: each coefficient within 2 ^ -48, relatively, and which are 0. Document 01, "RKL and RKG rows", and demand 3.
use Rattle.std.specs.Prelude.{◌≡◌, ℕ, Bool, true, false, T, eqb, pos, Float}
use Rattle.std.specs.Float.Ieee.Positive.{num}
use Rattle.std.specs.Float.Ieee.Scale.{finite}
use Rattle.fractions.specs.Frac.{Frac}
use Rattle.ieee.specs.Close.{Close}
use Rattle.family.specs.Family.{Orthogonal, Legendre1, Legendre2, Gegenbauer1, Gegenbauer2}
use Rattle.coefficients.specs.Paper.{mu, nu, mu_tilde, gamma_tilde}
use Rattle.coefficients.specs.declared.Coefficients.{Coefficients}

-- the row of stage j in an attempt of s stages; a coefficient is a zero where its fraction is 0
pub record CloseRow (f : Orthogonal) (s j : ℕ) (row : Coefficients) : Type 0 where
  pub close_mu : Close 48 row.mu (mu f j)
  pub close_nu : Close 48 row.nu (nu f j)
  pub close_mu_tilde : Close 48 row.mu_tilde (mu_tilde f s j)
  pub close_gamma_tilde : Close 48 row.gamma_tilde (gamma_tilde f s j)

-- where `gamma_tilde` is 0: in RKL1, RKG1, and RKG2 at stage 2
unfoldable pub gamma_zero : Orthogonal → ℕ → Bool
gamma_zero Legendre1 j = true
gamma_zero Legendre2 j = false
gamma_zero Gegenbauer1 j = true
gamma_zero Gegenbauer2 j = eqb j 2

-- a fraction and its double are both 0 (`num` is 0 of a NaN and an infinity too)
pub record BothZero (x : Float) (q : Frac) : Type 0 where
  pub fraction : q.num ≡ pos 0
  pub number : T (finite x)
  pub double_so : num x ≡ 0

-- both are 0, or neither is
unfoldable pub ZeroAs : Bool → Float → Frac → Type 0
ZeroAs true x q = BothZero x q
ZeroAs false x q = (q.num ≡ pos 0 → ⊥) × (num x ≡ 0 → ⊥)

-- the row of stage j in an attempt of s stages: no coefficient is 0 but those listed
pub record ZeroRow (f : Orthogonal) (s j : ℕ) (row : Coefficients) : Type 0 where
  pub zero_mu : ZeroAs false row.mu (mu f j)
  pub zero_nu : ZeroAs false row.nu (nu f j)
  pub zero_mu_tilde : ZeroAs false row.mu_tilde (mu_tilde f s j)
  pub zero_gamma_tilde : ZeroAs (gamma_zero f j) row.gamma_tilde (gamma_tilde f s j)

-- two rows that agree but for theta
pub record SameRow (row other : Coefficients) : Type 0 where
  pub same_mu : row.mu ≡ other.mu
  pub same_nu : row.nu ≡ other.nu
  pub same_mu_tilde : row.mu_tilde ≡ other.mu_tilde
  pub same_gamma_tilde : row.gamma_tilde ≡ other.gamma_tilde
