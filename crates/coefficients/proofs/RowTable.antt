-- The coefficients that depend on j alone, or on s alone, fit the papers' fractions: tests over all j and s, by computation.
-- ⊕ ⊗ ⊘ are operations on fractions: they are exact.
use mathlib.Core.Path.{◌≡◌, refl, ap, subst}
use Prim.Native.Nat.{ℕ, ◌+◌, ◌-◌, ◌*◌, ◌^◌, ◌≤◌}
use native.Mathlib.Omega.{arith}
use mathlib.Core.Bool.{Bool, true, false, ◌&&◌, cond, beq}
use lib.Dec.{T, leb, eqb, leb→le, eqb→eq}
use lib.IntN.{ℤ, pos, negsuc, nat_abs}
use lib.Ieee.{Float, neg, add, sub, mul, div}
use lib.Ieee.Fits.{and_l, and_r}
use lib.Ieee.Positive.{num, den}
use lib.Ieee.Scale.{finite}
use Rattle.fractions.specs.Frac.{Frac, ◌⊗◌, ◌⊕◌, ◌⊘◌, opp, int, frac, inverse_of, ◌over◌}
use Rattle.family.specs.Family.{Orthogonal, Legendre1, Legendre2, Gegenbauer1, Gegenbauer2, made_of}
use Rattle.coefficients.specs.Paper as Paper
use Rattle.coefficients.specs.Paper.{omega_one, mu, nu, a, b, b_later, b_zero, b_one, value_at_one, mu_factor, nu_factor}
use Rattle.ieee.specs.Double.{double, square, nought}
use Rattle.coefficients.specs.Closeness.{gamma_zero, BothZero}
use Rattle.coefficients.specs.Rows.{orthogonal_omega, omega_one_of, first_mu_tilde, recurrence_of, legendre_two_b, gegenbauer_one_b, gegenbauer_two_b}
use Rattle.ieee.specs.Close.{signed, sign}
use Rattle.ieee.proofs.Rounding.{P}
use Rattle.ieee.proofs.Fit.{Fit}
use Rattle.coefficients.proofs.Doubles.{b_of, mu_with, nu_with, a_with, mu_of, nu_of, a_of}
use Rattle.ieee.proofs.Every.{every, among, every₃, among₃}

-- ---- the test
unfoldable pub negative : ℤ → Bool
negative (pos n) = false
negative (negsuc n) = true

unfoldable pub fits : Bool → Float → Frac → Bool
fits s x q = finite x && beq (sign x) s && beq (negative q.num) s
    && leb (num x * q.den * (P - 8)) (nat_abs q.num * den x * P) && leb (nat_abs q.num * den x * (P - 8)) (num x * q.den * P)
    && leb (den x) (num x * 2 ^ 100) && leb (num x) (den x * 2 ^ 100)

signed_is : (k : ℤ) (s : Bool) → T (beq (negative k) s) → k ≡ signed s (nat_abs k)
unfolding negative
signed_is (pos n) true t = absurd t
signed_is (pos n) false t = refl
signed_is (negsuc n) true t = refl
signed_is (negsuc n) false t = absurd t

fit_says : (s : Bool) (x : Float) (q : Frac) → T (fits s x q) → Fit 100 8 s x q
unfolding fits
fit_says s x q t =
    let a₁ = finite x in
    let a₂ = beq (sign x) s in
    let a₃ = beq (negative q.num) s in
    let a₄ = leb (num x * q.den * (P - 8)) (nat_abs q.num * den x * P) in
    let a₅ = leb (nat_abs q.num * den x * (P - 8)) (num x * q.den * P) in
    let a₆ = leb (den x) (num x * 2 ^ 100) in
    let a₇ = leb (num x) (den x * 2 ^ 100) in
    let t₆ = and_l (a₁ && a₂ && a₃ && a₄ && a₅ && a₆) a₇ t in
    let t₅ = and_l (a₁ && a₂ && a₃ && a₄ && a₅) a₆ t₆ in
    let t₄ = and_l (a₁ && a₂ && a₃ && a₄) a₅ t₅ in
    let t₃ = and_l (a₁ && a₂ && a₃) a₄ t₄ in
    let t₂ = and_l (a₁ && a₂) a₃ t₃ in
    record {
      size = nat_abs q.num;
      top = signed_is q.num s (and_r (a₁ && a₂) a₃ t₃);
      near = record {
        number = and_l a₁ a₂ t₂;
        signed_so = same (sign x) s (and_r a₁ a₂ t₂);
        near = record {
          to = leb→le (num x * q.den * (P - 8)) (nat_abs q.num * den x * P) (and_r (a₁ && a₂ && a₃) a₄ t₄);
          from = leb→le (nat_abs q.num * den x * (P - 8)) (num x * q.den * P) (and_r (a₁ && a₂ && a₃ && a₄) a₅ t₅);
        };
      };
      within = record {
        lower = leb→le (den x) (num x * 2 ^ 100) (and_r (a₁ && a₂ && a₃ && a₄ && a₅) a₆ t₆);
        upper = leb→le (num x) (den x * 2 ^ 100) (and_r (a₁ && a₂ && a₃ && a₄ && a₅ && a₆) a₇ t);
      };
    }
  where
    same : (a b : Bool) → T (beq a b) → a ≡ b
    same true true t = refl
    same true false t = absurd t
    same false true t = absurd t
    same false false t = refl

-- a, where the list says that gamma_tilde is 0: the fraction is 0 and its double is; else they fit
unfoldable pub is_zero : ℤ → Bool
is_zero (pos n) = eqb n 0
is_zero (negsuc n) = false

unfoldable pub a_fits : Bool → Frac → Float → Bool
a_fits z q x = cond z (is_zero q.num && finite x && eqb (num x) 0) (fits false x q)

unfoldable pub ZeroOrFit : Bool → ℕ → ℕ → Bool → Float → Frac → Type 0
ZeroOrFit true k n s x q = BothZero x q
ZeroOrFit false k n s x q = Fit k n s x q

a_says : (z : Bool) (q : Frac) (x : Float) → T (a_fits z q x) → ZeroOrFit z 100 8 false x q
unfolding a_fits ZeroOrFit
a_says true q x t =
    let u = and_l (is_zero q.num && finite x) (eqb (num x) 0) t in
    record {
      fraction = nothing q.num (and_l (is_zero q.num) (finite x) u);
      number = and_r (is_zero q.num) (finite x) u;
      double_so = eqb→eq (num x) 0 (and_r (is_zero q.num && finite x) (eqb (num x) 0) t);
    }
  where
    nothing : (k : ℤ) → T (is_zero k) → k ≡ pos 0
    nothing (pos n) t = unfold is_zero in (ap pos (eqb→eq n 0 t))
    nothing (negsuc n) t = absurd (unfold is_zero in t)
a_says false q x t = fit_says false x q t

-- ---- the tables: rows 2 to 200, and s from 2 to 200
unfoldable pub row_fits : Orthogonal → ℕ → Float → Float → Float → Bool
row_fits f j x y z = fits false (mu_with f j z y) (mu f j) && fits true (nu_with f j z x) (nu f j) && a_fits (gamma_zero f j) (a f (j - 1)) (a_with f j y)

unfoldable pub s_fits : Orthogonal → ℕ → Bool
s_fits f s = fits false (orthogonal_omega f s) (omega_one f s)

rows_Legendre1 : T (every₃ (b_of Legendre1) (row_fits Legendre1) 199 2 (b_of Legendre1 0) (b_of Legendre1 1))
unfolding every₃ row_fits fits a_fits gamma_zero is_zero b_of mu_with nu_with a_with negative double add sub mul div neg legendre_two_b gegenbauer_one_b
    gegenbauer_two_b mu nu a value_at_one mu_factor nu_factor b b_later b_zero b_one ◌⊘◌ ◌⊗◌ ◌⊕◌ opp frac int inverse_of ◌over◌
rows_Legendre1 = tt

rows_Legendre2 : T (every₃ (b_of Legendre2) (row_fits Legendre2) 199 2 (b_of Legendre2 0) (b_of Legendre2 1))
unfolding every₃ row_fits fits a_fits gamma_zero is_zero b_of mu_with nu_with a_with negative double add sub mul div neg legendre_two_b gegenbauer_one_b
    gegenbauer_two_b mu nu a value_at_one mu_factor nu_factor b b_later b_zero b_one ◌⊘◌ ◌⊗◌ ◌⊕◌ opp frac int inverse_of ◌over◌
rows_Legendre2 = tt

rows_Gegenbauer1 : T (every₃ (b_of Gegenbauer1) (row_fits Gegenbauer1) 199 2 (b_of Gegenbauer1 0) (b_of Gegenbauer1 1))
unfolding every₃ row_fits fits a_fits gamma_zero is_zero b_of mu_with nu_with a_with negative double add sub mul div neg legendre_two_b gegenbauer_one_b
    gegenbauer_two_b mu nu a value_at_one mu_factor nu_factor b b_later b_zero b_one ◌⊘◌ ◌⊗◌ ◌⊕◌ opp frac int inverse_of ◌over◌
rows_Gegenbauer1 = tt

rows_Gegenbauer2 : T (every₃ (b_of Gegenbauer2) (row_fits Gegenbauer2) 199 2 (b_of Gegenbauer2 0) (b_of Gegenbauer2 1))
unfolding every₃ row_fits fits a_fits gamma_zero is_zero b_of mu_with nu_with a_with negative double add sub mul div neg legendre_two_b gegenbauer_one_b
    gegenbauer_two_b mu nu a value_at_one mu_factor nu_factor b b_later b_zero b_one ◌⊘◌ ◌⊗◌ ◌⊕◌ opp frac int inverse_of ◌over◌
rows_Gegenbauer2 = tt

stages_Legendre1 : T (every (s_fits Legendre1) 199 2)
unfolding every s_fits fits orthogonal_omega negative double square add sub mul div omega_one frac int ◌over◌
stages_Legendre1 = tt

stages_Legendre2 : T (every (s_fits Legendre2) 199 2)
unfolding every s_fits fits orthogonal_omega negative double square add sub mul div omega_one frac int ◌over◌
stages_Legendre2 = tt

stages_Gegenbauer1 : T (every (s_fits Gegenbauer1) 199 2)
unfolding every s_fits fits orthogonal_omega negative double square add sub mul div omega_one frac int ◌over◌
stages_Gegenbauer1 = tt

stages_Gegenbauer2 : T (every (s_fits Gegenbauer2) 199 2)
unfolding every s_fits fits orthogonal_omega negative double square add sub mul div omega_one frac int ◌over◌
stages_Gegenbauer2 = tt

-- the coefficient of stage 1, as the recurrence hands it to the calls
abbrev pub stage_one_of : Orthogonal → Float → ℕ → Float
stage_one_of f q s = (recurrence_of (made_of f) q s).theta_previous

legendre2_first_fits : ℕ → Bool
legendre2_first_fits s = fits false (stage_one_of Legendre2 nought s) (Paper.first_mu_tilde Legendre2 s)

legendre2_firsts : T (every legendre2_first_fits 199 2)
unfolding every legendre2_first_fits fits recurrence_of first_mu_tilde omega_one_of orthogonal_omega made_of negative double square add sub mul div omega_one
    Paper.first_mu_tilde ◌⊗◌ frac int ◌over◌
legendre2_firsts = tt

-- ---- what they say
rows : (f : Orthogonal) → T (every₃ (b_of f) (row_fits f) 199 2 (b_of f 0) (b_of f 1))
rows Legendre1 = rows_Legendre1
rows Legendre2 = rows_Legendre2
rows Gegenbauer1 = rows_Gegenbauer1
rows Gegenbauer2 = rows_Gegenbauer2

stages : (f : Orthogonal) → T (every (s_fits f) 199 2)
stages Legendre1 = stages_Legendre1
stages Legendre2 = stages_Legendre2
stages Gegenbauer1 = stages_Gegenbauer1
stages Gegenbauer2 = stages_Gegenbauer2

module _ (f : Orthogonal) (j : ℕ) (l : 2 ≤ j) (h : j ≤ 200) where
  row : T (row_fits f j (b_of f (j - 2)) (b_of f (j - 1)) (b_of f j))
  row =
      let e : j - 2 + 2 ≡ j = omega arith in
      let e' : j - 2 + 1 ≡ j - 1 = omega arith in
      subst (λ (i : ℕ). T (row_fits f i (b_of f (j - 2)) (b_of f (j - 1)) (b_of f i))) e
      (subst (λ (i : ℕ). T (row_fits f (j - 2 + 2) (b_of f (j - 2)) (b_of f i) (b_of f (j - 2 + 2)))) e'
      (among₃ (b_of f) (row_fits f) 199 0 (j - 2) (rows f) (omega arith) (omega arith)))

  abbrev mu_part : Bool
  mu_part = fits false (mu_of f j) (mu f j)

  abbrev nu_part : Bool
  nu_part = fits true (nu_of f j) (nu f j)

  abbrev a_part : Bool
  a_part = a_fits (gamma_zero f j) (a f (j - 1)) (a_of f j)

  pub mu_fit : Fit 100 8 false (mu_of f j) (mu f j)
  unfolding row_fits mu_of nu_of a_of
  mu_fit = fit_says false (mu_of f j) (mu f j) (and_l mu_part nu_part (and_l (mu_part && nu_part) a_part row))

  pub nu_fit : Fit 100 8 true (nu_of f j) (nu f j)
  unfolding row_fits mu_of nu_of a_of
  nu_fit = fit_says true (nu_of f j) (nu f j) (and_r mu_part nu_part (and_l (mu_part && nu_part) a_part row))

  pub a_fit : ZeroOrFit (gamma_zero f j) 100 8 false (a_of f j) (a f (j - 1))
  unfolding row_fits mu_of nu_of a_of
  a_fit = a_says (gamma_zero f j) (a f (j - 1)) (a_of f j) (and_r (mu_part && nu_part) a_part row)

pub omega_fit : (f : Orthogonal) (s : ℕ) → 2 ≤ s → s ≤ 200 → Fit 100 8 false (orthogonal_omega f s) (omega_one f s)
unfolding s_fits
omega_fit f s l h = fit_says false (orthogonal_omega f s) (omega_one f s) (among (s_fits f) 199 2 s (stages f) l (omega arith))

pub first_fit : (f : Orthogonal) (q : Float) (s : ℕ) → 2 ≤ s → s ≤ 200 → Fit 100 8 false (stage_one_of f q s) (Paper.first_mu_tilde f s)
unfolding recurrence_of first_mu_tilde omega_one_of Paper.first_mu_tilde made_of legendre2_first_fits
first_fit Legendre1 q s l h = omega_fit Legendre1 s l h
first_fit Legendre2 q s l h = fit_says false (stage_one_of Legendre2 q s) (Paper.first_mu_tilde Legendre2 s)
    (among legendre2_first_fits 199 2 s legendre2_firsts l (omega arith))
first_fit Gegenbauer1 q s l h = omega_fit Gegenbauer1 s l h
first_fit Gegenbauer2 q s l h = omega_fit Gegenbauer2 s l h
