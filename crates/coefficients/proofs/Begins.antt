-- How the multiplier begins: 1 + z, and in the second-order families 1 + z + z²/2. By the recurrence of one coefficient from stage to stage: with e of
-- Normalized, the first is b̂ ω1 n1/(2 + e) and the second b̂ ω1² n2/(2 (4 + e) (2 + e)). ⊕ ⊖ ⊗ are operations on fractions: they are exact.
use mathlib.Core.Path.{◌≡◌, ap₂}
use mathlib.Core.List.{List, [], ◌∷◌}
use Prim.Native.Nat.{ℕ, zero, suc, ◌+◌, ◌*◌}
use native.Mathlib.Omega.{arith}
use Rattle.fractions.specs.Frac.{Frac, ◌⊕◌, ◌⊗◌, ◌⊖◌, ◌≈◌, frac}
use Rattle.fractions.specs.Lists.{nth, ◌⊞◌, ◌·◌}
use Rattle.fractions.specs.Polynomial.{times_variable}
use Rattle.fractions.proofs.Ring.{var, ◌:+◌, ◌:*◌, ◌:-◌, neg}
use Rattle.fractions.proofs.FracLaws.{ring, ≈-refl, ≈-sym, ⊕-cong, ⊗-cong}
use Rattle.fractions.proofs.Combine.{◌▹◌, 0#, 1#, 0ₑ, 1ₑ, given, combine}
use Rattle.fractions.proofs.Values.{nat, nat_+, nat_*, nat_is, cancel_nat, Is, is_nat, is_nat≡, is_frac, is_*, is_same}
use Rattle.fractions.proofs.NatRing.{Nat, vₙ, cₙ, sₙ, ◌+ₙ◌, ◌*ₙ◌, ℕ-ring}
use Rattle.fractions.proofs.ListLaws.{nth_⊞, nth_·}
use Rattle.family.specs.Family.{Orthogonal, Legendre1, Legendre2, Gegenbauer1, Gegenbauer2}
use Rattle.coefficients.specs.Paper.{omega_one, mu, nu, mu_tilde, gamma_tilde, first_mu_tilde}
use Rattle.coefficients.specs.Exact.{row, stage, multiplier}
use Rattle.coefficients.proofs.Normalized.{α, β}
use Rattle.coefficients.proofs.PaperValues.{extra, b_hat, mu_is, nu_is, first_is, gamma_is, b_hat_L1, b_hat_L2, b_hat_G1, b_hat_G2, ω_L1, ω_L2, ω_G1}
use Rattle.coefficients.proofs.PaperValues.{ω_G2}

module _ (f : Orthogonal) (t : ℕ) where
  abbrev poly : ℕ → List Frac
  poly j = stage times_variable f t (1# ∷ []) j

  abbrev at : ℕ → ℕ → Frac
  at j k = nth (poly j) k

  -- what z multiplies in the row of stage i + 2
  tail : ℕ → List Frac
  tail i = mu_tilde f t (suc (suc i)) · poly (suc i) ⊞ gamma_tilde f t (suc (suc i)) · (1# ∷ [])

  row_at : (i k : ℕ) → let j = suc (suc i) in at j k ≈ mu f j ⊗ at (suc i) k ⊕ nu f j ⊗ at i k ⊕ (1# ⊖ mu f j ⊖ nu f j) ⊗ nth (1# ∷ []) k ⊕ nth (0# ∷ tail i) k
  unfolding stage row tail times_variable
  row_at i k = nth_⊞ (A ⊞ B ⊞ C) (0# ∷ tail i) k ▹ ⊕-cong (nth_⊞ (A ⊞ B) C k
      ▹ ⊕-cong (nth_⊞ A B k ▹ ⊕-cong (nth_· (mu f j) (poly (suc i)) k) (nth_· (nu f j) (poly i) k)) (nth_· _ (1# ∷ []) k)) (≈-refl _)
    where
      j : ℕ
      j = suc (suc i)

      A : List Frac
      A = mu f j · poly (suc i)

      B : List Frac
      B = nu f j · poly i

      C : List Frac
      C = (1# ⊖ mu f j ⊖ nu f j) · (1# ∷ [])

  tail_at : (i k : ℕ) → let j = suc (suc i) in nth (tail i) k ≈ omega_one f t ⊗ mu f j ⊗ at (suc i) k ⊕ gamma_tilde f t j ⊗ nth (1# ∷ []) k
  unfolding tail mu_tilde
  tail_at i k = nth_⊞ (mu_tilde f t (suc (suc i)) · poly (suc i)) (gamma_tilde f t (suc (suc i)) · (1# ∷ [])) k
      ▹ ⊕-cong (nth_· _ (poly (suc i)) k) (nth_· _ (1# ∷ []) k)

  zeroth_step : (i : ℕ) → at (suc i) 0 ≈ 1# → at i 0 ≈ 1# → at (suc (suc i)) 0 ≈ 1#
  unfolding nth
  zeroth_step i h k = combine (mu f (suc (suc i)) ∷ nu f (suc (suc i)) ∷ at (suc i) 0 ∷ at i 0 ∷ at (suc (suc i)) 0 ∷ [])
      (var 4) 1ₑ
      (given 1ₑ (var 4) (var 0 :* var 2 :+ var 1 :* var 3 :+ (1ₑ :- var 0 :- var 1) :* 1ₑ :+ 0ₑ) (row_at i 0)
      ∷ given (var 0) (var 2) 1ₑ h
      ∷ given (var 1) (var 3) 1ₑ k
      ∷ []) tt

  zeroth : (j : ℕ) → at j 0 ≈ 1#
  unfolding stage nth times_variable ◌⊞◌ ◌·◌
  zeroth zero = ≈-refl 1#
  zeroth (suc zero) = ring (first_mu_tilde f t ∷ []) (1ₑ :+ var 0 :* 0ₑ) 1ₑ tt
  zeroth (suc (suc i)) = zeroth_step i (zeroth (suc i)) (zeroth i)

-- the first and second coefficient of D(1 + t), up to a factor
abbrev n1 : ℕ → ℕ → ℕ
n1 e zero = 0
n1 e (suc k) = suc k * (k + 2 + e)

abbrev n2 : ℕ → ℕ → ℕ
n2 e zero = 0
n2 e (suc k) = k * suc k * ((k + 2 + e) * (k + 3 + e))

abbrev n1ₑ : Nat → Nat
n1ₑ k = sₙ k *ₙ (k +ₙ cₙ 2 +ₙ vₙ 1)

abbrev n2ₑ : Nat → Nat
n2ₑ k = k *ₙ sₙ k *ₙ ((k +ₙ cₙ 2 +ₙ vₙ 1) *ₙ (k +ₙ cₙ 3 +ₙ vₙ 1))

n1_rec : (e i : ℕ) → (suc (suc (i + e)) + suc i) * (n1 e (suc i) + (2 + e)) ≡ suc (suc (i + e)) * n1 e (suc (suc i)) + suc i * n1 e i
n1_rec e zero = omega arith
n1_rec e (suc k) = ℕ-ring (k ∷ e ∷ []) ((sₙ (sₙ (sₙ (vₙ 0) +ₙ vₙ 1)) +ₙ sₙ (sₙ (vₙ 0))) *ₙ (n1ₑ (sₙ (vₙ 0)) +ₙ (cₙ 2 +ₙ vₙ 1)))
    (sₙ (sₙ (sₙ (vₙ 0) +ₙ vₙ 1)) *ₙ n1ₑ (sₙ (sₙ (vₙ 0))) +ₙ sₙ (sₙ (vₙ 0)) *ₙ n1ₑ (vₙ 0)) tt

n2_rec : (e i : ℕ) → (suc (suc (i + e)) + suc i) * (n2 e (suc i) + 2 * (4 + e) * n1 e (suc i)) ≡ suc (suc (i + e)) * n2 e (suc (suc i)) + suc i * n2 e i
n2_rec e zero = ℕ-ring (0 ∷ e ∷ []) ((sₙ (sₙ (cₙ 0 +ₙ vₙ 1)) +ₙ sₙ (cₙ 0)) *ₙ (n2ₑ (cₙ 0) +ₙ cₙ 2 *ₙ (cₙ 4 +ₙ vₙ 1) *ₙ n1ₑ (cₙ 0)))
    (sₙ (sₙ (cₙ 0 +ₙ vₙ 1)) *ₙ n2ₑ (sₙ (cₙ 0)) +ₙ sₙ (cₙ 0) *ₙ cₙ 0) tt
n2_rec e (suc k) = ℕ-ring (k ∷ e ∷ []) ((sₙ (sₙ (sₙ (vₙ 0) +ₙ vₙ 1)) +ₙ sₙ (sₙ (vₙ 0))) *ₙ (n2ₑ (sₙ (vₙ 0)) +ₙ cₙ 2 *ₙ (cₙ 4 +ₙ vₙ 1) *ₙ n1ₑ (sₙ (vₙ 0))))
    (sₙ (sₙ (sₙ (vₙ 0) +ₙ vₙ 1)) *ₙ n2ₑ (sₙ (sₙ (vₙ 0))) +ₙ sₙ (sₙ (vₙ 0)) *ₙ n2ₑ (vₙ 0)) tt

-- p is a multiple of the recursion's right side
nat_rec : (m n p q r : ℕ) → (m + n) * p ≡ m * q + n * r → (nat m ⊕ nat n) ⊗ nat p ≈ nat m ⊗ nat q ⊕ nat n ⊗ nat r
nat_rec m n p q r h = ⊗-cong (≈-sym (nat_+ m n)) (≈-refl (nat p)) ▹ ≈-sym (nat_* (m + n) p) ▹ nat_is _ _ h ▹ nat_+ (m * q) (n * r)
    ▹ ⊕-cong (nat_* m q) (nat_* n r)

module _ (f : Orthogonal) (t : ℕ) where
  abbrev e : ℕ
  e = extra f

  abbrev K1 : ℕ
  K1 = 2 + e

  abbrev L : ℕ
  L = 2 * (4 + e)

  abbrev First : ℕ → Type 0
  First j = nat K1 ⊗ at f t j 1 ≈ b_hat f j ⊗ (omega_one f t ⊗ nat (n1 e j))

  abbrev Second : ℕ → Type 0
  Second j = nat (L * K1) ⊗ at f t j 2 ≈ b_hat f j ⊗ (omega_one f t ⊗ omega_one f t ⊗ nat (n2 e j))

  first_step : (i : ℕ) → First (suc i) → First i → α e i ⊗ (nat K1 ⊗ at f t (suc (suc i)) 1) ≈ α e i
      ⊗ (b_hat f (suc (suc i)) ⊗ (omega_one f t ⊗ nat (n1 e (suc (suc i)))))
  unfolding nth
  first_step i h k =
      let A = var 0 in let B = var 1 in let K = var 2 in let m = var 3 in let n = var 4 in let B0 = var 5 in let B1 = var 6 in let B2 = var 7 in
      let w = var 8 in let c1 = var 9 in let c0 = var 10 in let c2 = var 11 in let z1 = var 12 in let g = var 13 in let N0 = var 14 in let N1 = var 15 in
      let N2 = var 16 in let NK = var 17 in let T = var 18 in
      combine (α e i ∷ β e i ∷ nat K1 ∷ mu f j ∷ nu f j ∷ b_hat f i ∷ b_hat f (suc i) ∷ b_hat f j ∷ ω ∷ at f t (suc i) 1 ∷ at f t i 1 ∷ at f t j 1
      ∷ at f t (suc i) 0 ∷ gamma_tilde f t j ∷ nat (n1 e i) ∷ nat (n1 e (suc i)) ∷ nat (n1 e j) ∷ nat (n1 e (suc i) + K1) ∷ nth (tail f t i) 0 ∷ [])
      (A :* (K :* c2)) (A :* (B2 :* (w :* N2)))
      (given (A :* K) c2 (m :* c1 :+ n :* c0 :+ (1ₑ :- m :- n) :* 0ₑ :+ T) (row_at f t i 1)
      ∷ given (A :* K) T (w :* m :* z1 :+ g :* 1ₑ) (tail_at f t i 0)
      ∷ given (A :* K) g (neg (1ₑ :- B1) :* (w :* m)) (gamma_is f t i)
      ∷ given (A :* K :* w :* m) z1 1ₑ (zeroth f t (suc i))
      ∷ given (A :* m) (K :* c1) (B1 :* (w :* N1)) h
      ∷ given (A :* n) (K :* c0) (B0 :* (w :* N0)) k
      ∷ given (w :* NK) (A :* (m :* B1)) ((A :+ B) :* B2) (mu_is f i)
      ∷ given (w :* N0) (A :* (n :* B0)) (neg (B :* B2)) (nu_is f i)
      ∷ given (B2 :* w) ((A :+ B) :* NK) (A :* N2 :+ B :* N0) (nat_rec _ _ (n1 e (suc i) + K1) (n1 e j) (n1 e i) (n1_rec e i))
      ∷ given (neg (A :* m :* B1 :* w)) NK (N1 :+ K) (nat_+ (n1 e (suc i)) K1)
      ∷ []) tt
    where
      j : ℕ
      j = suc (suc i)

      ω : Frac
      ω = omega_one f t

  pub first : (j : ℕ) → First j
  unfolding stage nth times_variable ◌⊞◌ ◌·◌
  first zero = ring (nat K1 ∷ b_hat f 0 ∷ omega_one f t ∷ []) (var 0 :* 0ₑ) (var 1 :* (var 2 :* 0ₑ)) tt
  first (suc zero) = combine (nat K1 ∷ b_hat f 1 ∷ omega_one f t ∷ first_mu_tilde f t ∷ nat (n1 e 1) ∷ [])
      (var 0 :* (var 3 :* 1ₑ)) (var 1 :* (var 2 :* var 4))
      (given (var 0) (var 3) (var 1 :* var 2) (first_is f t)
      ∷ given (var 1 :* var 2) (var 0) (var 4) (nat_is K1 (n1 e 1) (omega arith))
      ∷ []) tt
  first (suc (suc i)) = cancel_nat (suc (suc (i + e))) (omega arith) (first_step i (first (suc i)) (first i))

  second_step : (i : ℕ) → Second (suc i) → Second i → α e i ⊗ (nat (L * K1) ⊗ at f t (suc (suc i)) 2) ≈ α e i
      ⊗ (b_hat f (suc (suc i)) ⊗ (omega_one f t ⊗ omega_one f t ⊗ nat (n2 e (suc (suc i)))))
  unfolding nth
  second_step i h k =
      let A = var 0 in let B = var 1 in let K = var 2 in let m = var 3 in let n = var 4 in let B0 = var 5 in let B1 = var 6 in let B2 = var 7 in
      let w = var 8 in let c1 = var 9 in let c0 = var 10 in let c2 = var 11 in let N0 = var 12 in let N1 = var 13 in let N2 = var 14 in let NK = var 15 in
      let T = var 16 in let d1 = var 17 in let l = var 18 in let k1 = var 19 in let M1 = var 20 in let LM = var 21 in let g = var 22 in
      combine (α e i ∷ β e i ∷ nat (L * K1) ∷ mu f j ∷ nu f j ∷ b_hat f i ∷ b_hat f (suc i) ∷ b_hat f j ∷ ω ∷ at f t (suc i) 2 ∷ at f t i 2 ∷ at f t j 2
      ∷ nat (n2 e i) ∷ nat (n2 e (suc i)) ∷ nat (n2 e j) ∷ nat (n2 e (suc i) + L * n1 e (suc i)) ∷ nth (tail f t i) 1 ∷ at f t (suc i) 1 ∷ nat L ∷ nat K1
      ∷ nat (n1 e (suc i)) ∷ nat (L * n1 e (suc i)) ∷ gamma_tilde f t j ∷ [])
      (A :* (K :* c2)) (A :* (B2 :* (w :* w :* N2)))
      (given (A :* K) c2 (m :* c1 :+ n :* c0 :+ (1ₑ :- m :- n) :* 0ₑ :+ T) (row_at f t i 2)
      ∷ given (A :* K) T (w :* m :* d1 :+ g :* 0ₑ) (tail_at f t i 1)
      ∷ given (A :* w :* m :* d1) K (l :* k1) (nat_* L K1)
      ∷ given (A :* w :* m :* l) (k1 :* d1) (B1 :* (w :* M1)) (first (suc i))
      ∷ given (A :* m) (K :* c1) (B1 :* (w :* w :* N1)) h
      ∷ given (A :* n) (K :* c0) (B0 :* (w :* w :* N0)) k
      ∷ given (w :* w :* NK) (A :* (m :* B1)) ((A :+ B) :* B2) (mu_is f i)
      ∷ given (w :* w :* N0) (A :* (n :* B0)) (neg (B :* B2)) (nu_is f i)
      ∷ given (B2 :* w :* w) ((A :+ B) :* NK) (A :* N2 :+ B :* N0) (nat_rec _ _ (n2 e (suc i) + L * n1 e (suc i)) (n2 e j) (n2 e i) (n2_rec e i))
      ∷ given (neg (A :* m :* B1 :* w :* w)) NK (N1 :+ LM) (nat_+ (n2 e (suc i)) (L * n1 e (suc i)))
      ∷ given (neg (A :* m :* B1 :* w :* w)) LM (l :* M1) (nat_* L (n1 e (suc i)))
      ∷ []) tt
    where
      j : ℕ
      j = suc (suc i)

      ω : Frac
      ω = omega_one f t

  pub second : (j : ℕ) → Second j
  unfolding stage nth times_variable ◌⊞◌ ◌·◌
  second zero = ring (nat (L * K1) ∷ b_hat f 0 ∷ omega_one f t ∷ []) (var 0 :* 0ₑ) (var 1 :* (var 2 :* var 2 :* 0ₑ)) tt
  second (suc zero) = combine (nat (L * K1) ∷ b_hat f 1 ∷ omega_one f t ∷ nat (n2 e 1) ∷ [])
      (var 0 :* 0ₑ) (var 1 :* (var 2 :* var 2 :* var 3))
      (given (neg (var 1 :* (var 2 :* var 2))) (var 3) 0ₑ (nat_is (n2 e 1) 0 (omega arith))
      ∷ []) tt
  second (suc (suc i)) = cancel_nat (suc (suc (i + e))) (omega arith) (second_step i (second (suc i)) (second i))

n1_is : (e i k : ℕ) → i + 1 + 2 + e ≡ k → Is (nat (n1 e (suc (suc i)))) ((i + 2) * k) 1
n1_is e i k h = is_nat≡ _ (ap₂ ◌*◌ (omega arith) (omega arith))

n2_is : (e i k l : ℕ) → i + 1 + 2 + e ≡ k → i + 1 + 3 + e ≡ l → Is (nat (n2 e (suc (suc i)))) ((i + 1) * (i + 2) * (k * l)) 1
n2_is e i k l h g = is_nat≡ _ (ap₂ ◌*◌ (ap₂ ◌*◌ (omega arith) (omega arith)) (ap₂ ◌*◌ (omega arith) (omega arith)))

abbrev I : ℕ → Nat
I k = vₙ 0 +ₙ cₙ k

first_end : (f : Orthogonal) (i : ℕ) → b_hat f (suc (suc i)) ⊗ (omega_one f (suc (suc i)) ⊗ nat (n1 (extra f) (suc (suc i)))) ≈ nat (2 + extra f)
first_end Legendre1 i = is_same (is_* (b_hat_L1 i) (is_* (ω_L1 i) (n1_is 0 i (i + 3) (omega arith)))) (is_nat _) (omega arith)
first_end Legendre2 i = is_same (is_* (b_hat_L2 i) (is_* (ω_L2 i) (n1_is 0 i (i + 3) (omega arith)))) (is_nat _) (omega arith)
first_end Gegenbauer1 i = is_same (is_* (b_hat_G1 i) (is_* (ω_G1 i) (n1_is 2 i (i + 5) (omega arith)))) (is_nat _) (omega arith)
first_end Gegenbauer2 i = is_same (is_* (b_hat_G2 i) (is_* (ω_G2 i) (n1_is 2 i (i + 5) (omega arith)))) (is_nat _)
    (ℕ-ring (i ∷ []) (cₙ 4 *ₙ I 1 *ₙ I 6 *ₙ (I 3 *ₙ I 4) *ₙ (cₙ 6 *ₙ (I 2 *ₙ I 5)) *ₙ cₙ 1)
    (cₙ 4 *ₙ (cₙ 3 *ₙ I 2 *ₙ I 3 *ₙ I 4 *ₙ I 5 *ₙ cₙ 2 *ₙ (I 1 *ₙ I 6 *ₙ cₙ 1))) tt)

second_L2 : (i : ℕ) → b_hat Legendre2 (suc (suc i)) ⊗ (omega_one Legendre2 (suc (suc i)) ⊗ omega_one Legendre2 (suc (suc i)) ⊗ nat (n2 0 (suc (suc i))))
    ≈ nat (2 * (4 + 0) * (2 + 0)) ⊗ frac 1 2
second_L2 i = is_same (is_* (b_hat_L2 i) (is_* (is_* (ω_L2 i) (ω_L2 i)) (n2_is 0 i (i + 3) (i + 4) (omega arith) (omega arith))))
    (is_* (is_nat _) (is_frac 1 2 (omega arith)))
    (ℕ-ring (i ∷ []) (I 1 *ₙ I 4 *ₙ cₙ 1 *ₙ (cₙ 4 *ₙ cₙ 4 *ₙ (I 1 *ₙ I 2 *ₙ (I 3 *ₙ I 4))) *ₙ (cₙ 1 *ₙ cₙ 2))
    (cₙ 16 *ₙ cₙ 1 *ₙ (cₙ 2 *ₙ I 2 *ₙ I 3 *ₙ cₙ 1 *ₙ (I 1 *ₙ I 4 *ₙ (I 1 *ₙ I 4) *ₙ cₙ 1))) tt)

second_G2 : (i : ℕ) → b_hat Gegenbauer2 (suc (suc i)) ⊗ (omega_one Gegenbauer2 (suc (suc i)) ⊗ omega_one Gegenbauer2 (suc (suc i)) ⊗ nat (n2 2 (suc (suc i))))
    ≈ nat (2 * (4 + 2) * (2 + 2)) ⊗ frac 1 2
second_G2 i = is_same (is_* (b_hat_G2 i) (is_* (is_* (ω_G2 i) (ω_G2 i)) (n2_is 2 i (i + 5) (i + 6) (omega arith) (omega arith))))
    (is_* (is_nat _) (is_frac 1 2 (omega arith)))
    (ℕ-ring (i ∷ []) (cₙ 4 *ₙ I 1 *ₙ I 6 *ₙ (I 3 *ₙ I 4) *ₙ (cₙ 6 *ₙ cₙ 6 *ₙ (I 1 *ₙ I 2 *ₙ (I 5 *ₙ I 6))) *ₙ (cₙ 1 *ₙ cₙ 2))
    (cₙ 48 *ₙ cₙ 1 *ₙ (cₙ 3 *ₙ I 2 *ₙ I 3 *ₙ I 4 *ₙ I 5 *ₙ cₙ 2 *ₙ (I 1 *ₙ I 6 *ₙ (I 1 *ₙ I 6) *ₙ cₙ 1))) tt)

pub begins_0 : (f : Orthogonal) (s : ℕ) → nth (multiplier f s) 0 ≈ 1#
unfolding multiplier
begins_0 f s = zeroth f s s

pub begins_1 : (f : Orthogonal) (i : ℕ) → nth (multiplier f (suc (suc i))) 1 ≈ 1#
unfolding multiplier
begins_1 f i = cancel_nat (2 + extra f) (omega arith) (first f (suc (suc i)) (suc (suc i)) ▹ first_end f i
    ▹ ring (nat (2 + extra f) ∷ []) (var 0) (var 0 :* 1ₑ) tt)

pub begins_2_L : (i : ℕ) → nth (multiplier Legendre2 (suc (suc i))) 2 ≈ frac 1 2
unfolding multiplier
begins_2_L i = cancel_nat 16 (omega arith) (second Legendre2 (suc (suc i)) (suc (suc i)) ▹ second_L2 i)

pub begins_2_G : (i : ℕ) → nth (multiplier Gegenbauer2 (suc (suc i))) 2 ≈ frac 1 2
unfolding multiplier
begins_2_G i = cancel_nat 48 (omega arith) (second Gegenbauer2 (suc (suc i)) (suc (suc i)) ▹ second_G2 i)
