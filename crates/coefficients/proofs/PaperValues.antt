-- What the papers' fractions come to, multiplied out: mu, nu, gamma_tilde and first_mu_tilde by ω1 and b̂, which is b times the polynomial's value at 1; and ω1
-- and b̂ in whole numbers. From specs/Paper alone. ⊕ ⊖ ⊗ ⊘ are operations on fractions: they are exact.
use mathlib.Core.Path.{◌≡◌, refl, ap, ap₂, subst}
use mathlib.Core.List.{[], ◌∷◌}
use Prim.Native.Nat.{ℕ, zero, suc, ◌+◌, ◌*◌, ◌-◌}
use native.Mathlib.Nat.{one-le-mul}
use native.Mathlib.Omega.{arith}
use Rattle.fractions.proofs.Ring.{var, ◌:+◌, ◌:*◌, neg}
use Rattle.fractions.specs.Frac.{Frac, ◌⊕◌, ◌⊗◌, ◌⊖◌, opp, ◌≈◌, frac, ◌⊘◌}
use Rattle.fractions.proofs.FracLaws.{ring, ≈-refl}
use Rattle.fractions.proofs.Combine.{1#, 1ₑ, given, combine}
use Rattle.fractions.proofs.Order.{Above, above_nat}
use Rattle.fractions.proofs.Values.{nat, nat_+, Is, is_nat, is_frac, is_nat≡, is_quotient, is_*, is_same, Fits, fits, above_frac, divided}
use Rattle.coefficients.proofs.Normalized.{α, β}
use Rattle.family.specs.Family.{Orthogonal, Legendre1, Legendre2, Gegenbauer1, Gegenbauer2}
use Rattle.coefficients.specs.Paper.{omega_one, b, b_later, b_zero, b_one, value_at_one, a, mu_factor, nu_factor, mu, nu, mu_tilde, gamma_tilde}
use Rattle.coefficients.specs.Paper.{first_mu_tilde}

-- the e of Normalized
abbrev pub extra : Orthogonal → ℕ
extra Legendre1 = 0
extra Legendre2 = 0
extra Gegenbauer1 = 2
extra Gegenbauer2 = 2

-- b̂, from 0 to 1: b times the polynomial's value at 1
abbrev pub b_hat : Orthogonal → ℕ → Frac
b_hat f j = b f j ⊗ value_at_one f j

b_above : (f : Orthogonal) (j : ℕ) → Above (b f j)
unfolding b b_later b_zero b_one
b_above Legendre1 zero = above_nat 0
b_above Legendre1 (suc zero) = above_nat 0
b_above Legendre1 (suc (suc i)) = above_nat 0
b_above Legendre2 zero = above_frac 1 3 (omega arith) (omega arith)
b_above Legendre2 (suc zero) = above_frac 1 3 (omega arith) (omega arith)
b_above Legendre2 (suc (suc i)) = above_frac _ _ (omega arith) (omega arith)
b_above Gegenbauer1 zero = above_nat 0
b_above Gegenbauer1 (suc zero) = above_frac 1 3 (omega arith) (omega arith)
b_above Gegenbauer1 (suc (suc i)) = above_frac _ _ (omega arith) (omega arith)
b_above Gegenbauer2 zero = above_nat 0
b_above Gegenbauer2 (suc zero) = above_frac 1 3 (omega arith) (omega arith)
b_above Gegenbauer2 (suc (suc i)) = above_frac _ _ (omega arith) (one-le-mul (omega arith) (omega arith))

value_at_one_G : (j : ℕ) {m n : ℕ} → j + 1 ≡ m → j + 2 ≡ n → Is (frac ((j + 1) * (j + 2)) 2) (m * n) 2
value_at_one_G j p q = is_quotient _ _ (ap₂ ◌*◌ p q) refl (omega arith)

mu_L : (i : ℕ) → nat (suc (suc (i + 0))) ⊗ (frac (2 * suc (suc i) - 1) (suc (suc i)) ⊗ nat 1) ≈ nat (suc (suc (i + 0)) + suc i) ⊗ nat 1
mu_L i = is_same (is_* (is_nat _) (is_* (is_quotient _ _ {m' = 2 * i + 3} (omega arith) refl (omega arith)) (is_nat 1)))
    (is_* (is_nat _) (is_nat 1)) (omega arith)

mu_G : (i : ℕ) → nat (suc (suc (i + 2))) ⊗ (frac (2 * suc (suc i) + 1) (suc (suc i)) ⊗ frac ((suc i + 1) * (suc i + 2)) 2) ≈ nat (suc (suc (i + 2)) + suc i)
    ⊗ frac ((suc (suc i) + 1) * (suc (suc i) + 2)) 2
mu_G i = is_same
    (is_* (is_nat≡ _ {m' = i + 4} (omega arith)) (is_* (is_quotient _ _ {m' = 2 * i + 5} {n' = i + 2} (omega arith) (omega arith) (omega arith))
    (value_at_one_G _ {m = i + 2} {n = i + 3} (omega arith) (omega arith))))
    (is_* (is_nat≡ _ {m' = 2 * i + 5} (omega arith)) (value_at_one_G _ {m = i + 3} {n = i + 4} (omega arith) (omega arith))) (omega arith)

mu_value_at_one : (f : Orthogonal) (i : ℕ) → nat (suc (suc (i + extra f))) ⊗ (mu_factor f (suc (suc i)) ⊗ value_at_one f (suc i))
    ≈ nat (suc (suc (i + extra f)) + suc i) ⊗ value_at_one f (suc (suc i))
unfolding mu_factor value_at_one
mu_value_at_one Legendre1 i = mu_L i
mu_value_at_one Legendre2 i = mu_L i
mu_value_at_one Gegenbauer1 i = mu_G i
mu_value_at_one Gegenbauer2 i = mu_G i

nu_L : (i : ℕ) → nat (suc (suc (i + 0))) ⊗ (frac (suc (suc i) - 1) (suc (suc i)) ⊗ nat 1) ≈ nat (suc i) ⊗ nat 1
nu_L i = is_same (is_* (is_nat _) (is_* (is_quotient _ _ {m' = i + 1} (omega arith) refl (omega arith)) (is_nat 1))) (is_* (is_nat _) (is_nat 1)) (omega arith)

nu_G : (i : ℕ) → nat (suc (suc (i + 2))) ⊗ (frac (suc (suc i) + 1) (suc (suc i)) ⊗ frac ((i + 1) * (i + 2)) 2) ≈ nat (suc i)
    ⊗ frac ((suc (suc i) + 1) * (suc (suc i) + 2)) 2
nu_G i = is_same
    (is_* (is_nat≡ _ {m' = i + 4} (omega arith)) (is_* (is_quotient _ _ {m' = i + 3} {n' = i + 2} (omega arith) (omega arith) (omega arith))
    (value_at_one_G _ {m = i + 1} {n = i + 2} refl refl)))
    (is_* (is_nat≡ _ {m' = i + 1} (omega arith)) (value_at_one_G _ {m = i + 3} {n = i + 4} (omega arith) (omega arith))) (omega arith)

nu_value_at_one : (f : Orthogonal) (i : ℕ) → nat (suc (suc (i + extra f))) ⊗ (nu_factor f (suc (suc i)) ⊗ value_at_one f i) ≈ nat (suc i)
    ⊗ value_at_one f (suc (suc i))
unfolding nu_factor value_at_one
nu_value_at_one Legendre1 i = nu_L i
nu_value_at_one Legendre2 i = nu_L i
nu_value_at_one Gegenbauer1 i = nu_G i
nu_value_at_one Gegenbauer2 i = nu_G i

-- mu and nu, multiplied out
pub mu_is : (f : Orthogonal) (i : ℕ) → α (extra f) i ⊗ (mu f (suc (suc i)) ⊗ b_hat f (suc i)) ≈ (α (extra f) i ⊕ β (extra f) i) ⊗ b_hat f (suc (suc i))
unfolding mu
mu_is f i = subst (λ (k : ℕ). A ⊗ (F ⊗ (b2 ⊘ b f k) ⊗ (b1 ⊗ t1)) ≈ (A ⊕ B) ⊗ (b2 ⊗ t2)) (let p : suc i ≡ suc (suc i) - 1 = omega arith in p)
    (combine (A ∷ B ∷ F ∷ t1 ∷ t2 ∷ b1 ∷ b2 ∷ (b2 ⊘ b1) ∷ nat (suc (suc (i + extra f)) + suc i) ∷ [])
    (var 0 :* (var 2 :* var 7 :* (var 5 :* var 3))) ((var 0 :+ var 1) :* (var 6 :* var 4))
    (given (var 2 :* var 3 :* var 0) (var 7 :* var 5) (var 6) (divided b2 b1 (b_above f (suc i)))
    ∷ given (var 6) (var 0 :* (var 2 :* var 3)) (var 8 :* var 4) (mu_value_at_one f i)
    ∷ given (var 6 :* var 4) (var 8) (var 0 :+ var 1) (nat_+ (suc (suc (i + extra f))) (suc i))
    ∷ []) tt)
  where
    A : Frac
    A = α (extra f) i

    B : Frac
    B = β (extra f) i

    F : Frac
    F = mu_factor f (suc (suc i))

    t1 : Frac
    t1 = value_at_one f (suc i)

    t2 : Frac
    t2 = value_at_one f (suc (suc i))

    b1 : Frac
    b1 = b f (suc i)

    b2 : Frac
    b2 = b f (suc (suc i))

pub nu_is : (f : Orthogonal) (i : ℕ) → α (extra f) i ⊗ (nu f (suc (suc i)) ⊗ b_hat f i) ≈ opp (β (extra f) i ⊗ b_hat f (suc (suc i)))
unfolding nu
nu_is f i = subst (λ (k : ℕ). A ⊗ (opp (F ⊗ (b2 ⊘ b f k)) ⊗ (b0 ⊗ t0)) ≈ opp (B ⊗ (b2 ⊗ t2))) (let p : i ≡ suc (suc i) - 2 = omega arith in p)
    (combine (A ∷ B ∷ F ∷ t0 ∷ t2 ∷ b0 ∷ b2 ∷ (b2 ⊘ b0) ∷ [])
    (var 0 :* (neg (var 2 :* var 7) :* (var 5 :* var 3))) (neg (var 1 :* (var 6 :* var 4)))
    (given (neg (var 2 :* var 3 :* var 0)) (var 7 :* var 5) (var 6) (divided b2 b0 (b_above f i))
    ∷ given (neg (var 6)) (var 0 :* (var 2 :* var 3)) (var 1 :* var 4) (nu_value_at_one f i)
    ∷ []) tt)
  where
    A : Frac
    A = α (extra f) i

    B : Frac
    B = β (extra f) i

    F : Frac
    F = nu_factor f (suc (suc i))

    t0 : Frac
    t0 = value_at_one f i

    t2 : Frac
    t2 = value_at_one f (suc (suc i))

    b0 : Frac
    b0 = b f i

    b2 : Frac
    b2 = b f (suc (suc i))

-- b̂ from stage 2 on
pub b_hat_L1 : (i : ℕ) → Is (b_hat Legendre1 (suc (suc i))) (1 * 1) (1 * 1)
unfolding b b_later value_at_one
b_hat_L1 i = is_* (is_nat 1) (is_nat 1)

pub b_hat_L2 : (i : ℕ) → Is (b_hat Legendre2 (suc (suc i))) ((i + 1) * (i + 4) * 1) (2 * (i + 2) * (i + 3) * 1)
unfolding b b_later value_at_one
b_hat_L2 i = is_* (is_quotient _ _ (ap₂ ◌*◌ (omega arith) (omega arith)) (omega arith) (omega arith)) (is_nat 1)

pub b_hat_G1 : (i : ℕ) → Is (b_hat Gegenbauer1 (suc (suc i))) (2 * ((i + 3) * (i + 4))) ((i + 3) * (i + 4) * 2)
unfolding b b_later value_at_one
b_hat_G1 i = is_* (is_quotient _ _ refl (omega arith) (omega arith)) (value_at_one_G (suc (suc i)) (omega arith) (omega arith))

pub b_hat_G2 : (i : ℕ) → Is (b_hat Gegenbauer2 (suc (suc i))) (4 * (i + 1) * (i + 6) * ((i + 3) * (i + 4))) (3 * (i + 2) * (i + 3) * (i + 4) * (i + 5) * 2)
unfolding b b_later value_at_one
b_hat_G2 i =
    is_* (is_quotient _ _ (ap₂ ◌*◌ (ap (λ n. 4 * n) (omega arith)) (omega arith)) (ap₂ ◌*◌ (ap₂ ◌*◌ (ap₂ ◌*◌ (omega arith) (omega arith)) (omega arith))
    (omega arith)) (one-le-mul (omega arith) (omega arith)))
    (value_at_one_G (suc (suc i)) (omega arith) (omega arith))

pub b_hat_fits : (f : Orthogonal) (i : ℕ) → Fits (b_hat f (suc (suc i)))
b_hat_fits Legendre1 i = fits (b_hat_L1 i) (omega arith)
b_hat_fits Legendre2 i = fits (b_hat_L2 i) (omega arith)
b_hat_fits Gegenbauer1 i = fits (b_hat_G1 i) (omega arith)
b_hat_fits Gegenbauer2 i = fits (b_hat_G2 i) (omega arith)

third : frac 1 3 ⊗ frac ((1 + 1) * (1 + 2)) 2 ≈ 1#
third = is_same (is_* (is_frac 1 3 (omega arith)) (value_at_one_G 1 {m = 2} {n = 3} refl refl)) (is_nat 1) refl

first_G : (w : Frac) → w ≈ frac 1 3 ⊗ frac ((1 + 1) * (1 + 2)) 2 ⊗ w
first_G w = combine (w ∷ frac 1 3 ∷ frac ((1 + 1) * (1 + 2)) 2 ∷ []) (var 0) (var 1 :* var 2 :* var 0) (given (neg (var 0)) (var 1 :* var 2) (1ₑ) third ∷ []) tt

pub first_is : (f : Orthogonal) (s : ℕ) → first_mu_tilde f s ≈ b_hat f 1 ⊗ omega_one f s
unfolding first_mu_tilde b b_one value_at_one
first_is Legendre1 s = ring (omega_one Legendre1 s ∷ []) (var 0) (1ₑ :* 1ₑ :* var 0) tt
first_is Legendre2 s = ring (omega_one Legendre2 s ∷ frac 1 3 ∷ []) (var 0 :* var 1) (var 1 :* 1ₑ :* var 0) tt
first_is Gegenbauer1 s = first_G (omega_one Gegenbauer1 s)
first_is Gegenbauer2 s = first_G (omega_one Gegenbauer2 s)

-- ω1 at i + 2 stages
pub ω_L1 : (i : ℕ) → Is (omega_one Legendre1 (suc (suc i))) 2 ((i + 2) * (i + 3))
unfolding omega_one
ω_L1 i = is_quotient _ _ refl (ap₂ ◌*◌ (omega arith) (omega arith)) (omega arith)

pub ω_L2 : (i : ℕ) → Is (omega_one Legendre2 (suc (suc i))) 4 ((i + 1) * (i + 4))
unfolding omega_one
ω_L2 i = is_quotient _ _ refl (ap₂ ◌*◌ (omega arith) (omega arith)) (one-le-mul (omega arith) (omega arith))

pub ω_G1 : (i : ℕ) → Is (omega_one Gegenbauer1 (suc (suc i))) 4 ((i + 2) * (i + 5))
unfolding omega_one
ω_G1 i = is_quotient _ _ refl (ap₂ ◌*◌ (omega arith) (omega arith)) (omega arith)

pub ω_G2 : (i : ℕ) → Is (omega_one Gegenbauer2 (suc (suc i))) 6 ((i + 1) * (i + 6))
unfolding omega_one
ω_G2 i = is_quotient _ _ refl (ap₂ ◌*◌ (omega arith) (omega arith)) (one-le-mul (omega arith) (omega arith))

-- and above 0
pub ω_above : (f : Orthogonal) (i : ℕ) → Above (omega_one f (suc (suc i)))
unfolding omega_one
ω_above Legendre1 i = above_frac 2 _ (omega arith) (omega arith)
ω_above Legendre2 i = above_frac 4 _ (omega arith) (one-le-mul (omega arith) (omega arith))
ω_above Gegenbauer1 i = above_frac 4 _ (omega arith) (omega arith)
ω_above Gegenbauer2 i = above_frac 6 _ (omega arith) (one-le-mul (omega arith) (omega arith))

pub gamma_is : (f : Orthogonal) (s i : ℕ) → gamma_tilde f s (suc (suc i)) ≈ opp (1# ⊖ b_hat f (suc i)) ⊗ (omega_one f s ⊗ mu f (suc (suc i)))
unfolding gamma_tilde mu_tilde a
gamma_is f s i = subst (λ (k : ℕ). opp (1# ⊖ b_hat f k) ⊗ (omega_one f s ⊗ mu f (suc (suc i))) ≈ opp (1# ⊖ b_hat f (suc i))
    ⊗ (omega_one f s ⊗ mu f (suc (suc i)))) (let p : suc i ≡ suc (suc i) - 1 = omega arith in p) (≈-refl _)
