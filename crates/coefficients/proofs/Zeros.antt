-- Which coefficients of RKL1, RKL2, RKG1 and RKG2 are 0, for every permitted s and stage 2 to s: `gamma_tilde` where `gamma_zero` says so, and no other,
-- as fractions and as doubles: `zeros`, `first_zero`. From what fits (CloseRows): a double that fits is not 0, and close to its fraction it would be, were that
-- 0.
use mathlib.Core.Path.{◌≡◌, subst}
use Prim.Native.Nat.{ℕ, ◌≤◌, ◌<◌}
use native.Mathlib.Nat.{lt_irrefl}
use mathlib.Core.Bool.{Bool, true, false}
use lib.Dec.{T, lit≤}
use lib.Ieee.{Float}
use lib.Ieee.Positive.{num}
use Rattle.fractions.specs.Frac.{Frac}
use Rattle.family.specs.Family.{Orthogonal, made_of, permitted}
use Rattle.family.proofs.Range.{orthogonal_range}
use Rattle.ieee.proofs.Fit.{Fit, fit_close, num_pos}
use Rattle.coefficients.specs.Paper as Paper
use Rattle.coefficients.specs.Paper.{mu, nu, mu_tilde, gamma_tilde}
use Rattle.coefficients.specs.declared.Recurrence.{Recurrence}
use Rattle.coefficients.specs.Rows.{coefficients_of, recurrence_of}
use Rattle.coefficients.specs.Closeness.{gamma_zero, ZeroAs, ZeroRow}
use Rattle.coefficients.proofs.RowTable.{ZeroOrFit, stage_one_of, first_fit}
use Rattle.coefficients.proofs.CloseRows.{fit_row, zero_where}

not_zero : (k n : ℕ) (s : Bool) (x : Float) (q : Frac) → Fit k n s x q → num x ≡ 0 → ⊥
not_zero k n s x q h e = lt_irrefl 0 (subst (λ (m : ℕ). 0 < m) e (num_pos k x h.within))

zero_as : (z : Bool) (k n : ℕ) (s : Bool) (x : Float) (q : Frac) → n ≤ 26 → ZeroOrFit z k n s x q → ZeroAs z x q
unfolding ZeroOrFit ZeroAs
zero_as true k n s x q l h = h
zero_as false k n s x q l h = (λ e. not_zero k n s x q h (zero_where 48 x q (fit_close k n s x q l h) e), not_zero k n s x q h)

pub zeros : (f : Orthogonal) (s j : ℕ) → T (permitted (made_of f) s) → 2 ≤ j → j ≤ s
    → (c : Recurrence) → ZeroRow f s j (coefficients_of (made_of f) s j c)
unfolding ZeroOrFit
zeros f s j t l g c =
    let r = fit_row f s j t l g c in
    let row = coefficients_of (made_of f) s j c in
    record {
      zero_mu = zero_as false 100 8 false row.mu (mu f j) (lit≤ tt) r.fit_mu;
      zero_nu = zero_as false 100 8 true row.nu (nu f j) (lit≤ tt) r.fit_nu;
      zero_mu_tilde = zero_as false 201 17 false row.mu_tilde (mu_tilde f s j) (lit≤ tt) r.fit_mu_tilde;
      zero_gamma_tilde = zero_as (gamma_zero f j) 302 26 true row.gamma_tilde (gamma_tilde f s j) (lit≤ tt) r.fit_gamma_tilde;
    }

-- stage 1
pub first_zero : (f : Orthogonal) (q : Float) (s : ℕ) → T (permitted (made_of f) s)
    → ZeroAs false (recurrence_of (made_of f) q s).theta_previous (Paper.first_mu_tilde f s)
unfolding ZeroOrFit
first_zero f q s t = let r = orthogonal_range f s t in
    zero_as false 100 8 false (stage_one_of f q s) (Paper.first_mu_tilde f s) (lit≤ tt) (first_fit f q s r.0 r.1)
