-- Each stage is y times 1 − b̂ + b̂ D(1 + ω1 z), with D the polynomial of Normalized: by entries in the attempt, by values in the multiplier. So the attempt is
-- y times the multiplier, and the multiplier is between −1 and 1 for z from −2/ω1 to 0. ⊕ ⊖ ⊗ ⊘ are operations on fractions: they are exact.
use mathlib.Core.Path.{refl, sym, ◌∙◌}
use mathlib.Core.List.{List, [], ◌∷◌}
use Prim.Native.Nat.{ℕ, zero, suc, ◌+◌}
use native.Mathlib.Omega.{arith}
use lib.ListN.{length}
use Rattle.fractions.specs.Frac.{Frac, ◌⊕◌, ◌⊗◌, ◌⊖◌, opp, ◌≈◌, ◌⊘◌, Between}
use Rattle.fractions.specs.Lists.{nth, ◌⊞◌, ◌·◌, ◌≋◌}
use Rattle.fractions.specs.Polynomial.{eval, times_variable}
use Rattle.fractions.proofs.Ring.{var, ◌:+◌, ◌:*◌, ◌:-◌, neg}
use Rattle.fractions.proofs.FracLaws.{ring, ≈-sym, ⊗-cong, ≈-refl}
use Rattle.fractions.proofs.Combine.{◌▹◌, 0#, 1#, 0ₑ, 1ₑ, 2ₑ, given, combine}
use Rattle.fractions.proofs.Order.{Nonneg, nonneg_≈, nonneg_+, nonneg_*, nonneg_nat, nonneg_above, ≼-of, of_≼, at_most_one, at_least_minus_one}
use Rattle.fractions.proofs.Values.{nat, cancel_nat, divided}
use Rattle.fractions.proofs.ListLaws.{nth_⊞, nth_·, length_·, Long, long_⊞, long_·, eval_⊞, eval_·, eval_times}
use Rattle.family.specs.Family.{Orthogonal}
use Rattle.coefficients.specs.Paper.{omega_one, mu, nu, mu_tilde, gamma_tilde, first_mu_tilde}
use Rattle.coefficients.specs.Exact.{row, stage, attempt, multiplier}
use Rattle.coefficients.proofs.Normalized.{α, β, D, D-rec, D-square}
use Rattle.coefficients.proofs.PaperValues.{extra, b_hat, mu_is, nu_is, b_hat_fits, first_is, ω_above, gamma_is}

-- the number at which D is taken
abbrev x : Orthogonal → ℕ → Frac → Frac
x f s z = 1# ⊕ omega_one f s ⊗ z

-- what multiplies y in stage j: 1 − b̂ + b̂ D(x)
abbrev factor : Orthogonal → ℕ → Frac → ℕ → Frac
factor f s z j = 1# ⊕ b_hat f j ⊗ (D (extra f) (x f s z) j ⊖ 1#)

-- a number read off a list, where times_z multiplies it by z
record Linear (read : List Frac → Frac) (times_z : List Frac → List Frac) (z : Frac) : Type 0 where
  of_sum : (p q : List Frac) → read (p ⊞ q) ≈ read p ⊕ read q
  of_multiple : (k : Frac) (p : List Frac) → read (k · p) ≈ k ⊗ read p
  of_times_z : (p : List Frac) → read (times_z p) ≈ z ⊗ read p

module _ (read : List Frac → Frac) (times_z : List Frac → List Frac) (z : Frac) (l : Linear read times_z z) (f : Orthogonal) (s : ℕ) (y : List Frac) where
  abbrev at : ℕ → Frac
  at j = read (stage times_z f s y j)

  abbrev e : ℕ
  e = extra f

  row_is : (i : ℕ) → let j = suc (suc i) in at j ≈ mu f j ⊗ at (suc i) ⊕ nu f j ⊗ at i ⊕ (1# ⊖ mu f j ⊖ nu f j) ⊗ read y ⊕ z
      ⊗ (mu_tilde f s j ⊗ at (suc i) ⊕ gamma_tilde f s j ⊗ read y)
  unfolding stage row
  row_is i = combine (at j ∷ read ABC ∷ read AB ∷ read A ∷ read B ∷ read C ∷ read (times_z W) ∷ read W ∷ read M ∷ read G ∷ z ∷ mu f j ∷ nu f j ∷ mu_tilde f s j
      ∷ gamma_tilde f s j ∷ read p ∷ read q ∷ read y ∷ [])
      (var 0) (var 11 :* var 15 :+ var 12 :* var 16 :+ (1ₑ :- var 11 :- var 12) :* var 17 :+ var 10 :* (var 13 :* var 15 :+ var 14 :* var 17))
      (given 1ₑ (var 0) (var 1 :+ var 6) (l.of_sum ABC (times_z W))
      ∷ given 1ₑ (var 1) (var 2 :+ var 5) (l.of_sum AB C)
      ∷ given 1ₑ (var 2) (var 3 :+ var 4) (l.of_sum A B)
      ∷ given 1ₑ (var 3) (var 11 :* var 15) (l.of_multiple _ p)
      ∷ given 1ₑ (var 4) (var 12 :* var 16) (l.of_multiple _ q)
      ∷ given 1ₑ (var 5) ((1ₑ :- var 11 :- var 12) :* var 17) (l.of_multiple _ y)
      ∷ given 1ₑ (var 6) (var 10 :* var 7) (l.of_times_z W)
      ∷ given (var 10) (var 7) (var 8 :+ var 9) (l.of_sum M G)
      ∷ given (var 10) (var 8) (var 13 :* var 15) (l.of_multiple _ p)
      ∷ given (var 10) (var 9) (var 14 :* var 17) (l.of_multiple _ y)
      ∷ []) tt
    where
      j : ℕ
      j = suc (suc i)

      p : List Frac
      p = stage times_z f s y (suc i)

      q : List Frac
      q = stage times_z f s y i

      A : List Frac
      A = mu f j · p

      B : List Frac
      B = nu f j · q

      C : List Frac
      C = (1# ⊖ mu f j ⊖ nu f j) · y

      AB : List Frac
      AB = A ⊞ B

      ABC : List Frac
      ABC = AB ⊞ C

      M : List Frac
      M = mu_tilde f s j · p

      G : List Frac
      G = gamma_tilde f s j · y

      W : List Frac
      W = M ⊞ G

  next : (i : ℕ) → at (suc i) ≈ read y ⊗ factor f s z (suc i) → at i ≈ read y ⊗ factor f s z i → at (suc (suc i)) ≈ read y ⊗ factor f s z (suc (suc i))
  unfolding mu_tilde
  next i h k = cancel_nat (suc (suc (i + e))) (omega arith) (
      let A = var 0 in let B = var 1 in let m = var 2 in let n = var 3 in let B0 = var 4 in let B1 = var 5 in let B2 = var 6 in let D0 = var 7 in
      let D1 = var 8 in let D2 = var 9 in let z' = var 10 in let w = var 11 in let P = var 12 in let Q = var 13 in let E = var 14 in let g = var 15 in
      let Y = var 16 in let X = 1ₑ :+ w :* z' in
      combine (α e i ∷ β e i ∷ mu f j ∷ nu f j ∷ b_hat f i ∷ b_hat f (suc i) ∷ b_hat f j ∷ D e x' i ∷ D e x' (suc i) ∷ D e x' j ∷ z ∷ omega_one f s ∷ at (suc i)
      ∷ at i ∷ at j ∷ gamma_tilde f s j ∷ read y ∷ [])
      (A :* E) (A :* (Y :* (1ₑ :+ B2 :* (D2 :- 1ₑ))))
      (given A E (m :* P :+ n :* Q :+ (1ₑ :- m :- n) :* Y :+ z' :* (w :* m :* P :+ g :* Y)) (row_is i)
      ∷ given (A :* z' :* Y) g (neg (1ₑ :- B1) :* (w :* m)) (gamma_is f s i)
      ∷ given (A :* (m :+ z' :* w :* m)) P (Y :* (1ₑ :+ B1 :* (D1 :- 1ₑ))) h
      ∷ given (A :* n) Q (Y :* (1ₑ :+ B0 :* (D0 :- 1ₑ))) k
      ∷ given ((X :* D1 :- 1ₑ) :* Y) (A :* (m :* B1)) ((A :+ B) :* B2) (mu_is f i)
      ∷ given ((D0 :- 1ₑ) :* Y) (A :* (n :* B0)) (neg (B :* B2)) (nu_is f i)
      ∷ given (neg (B2 :* Y)) (A :* D2) ((A :+ B) :* X :* D1 :- B :* D0) (D-rec e x' i)
      ∷ []) tt)
    where
      j : ℕ
      j = suc (suc i)

      x' : Frac
      x' = x f s z

  stage_is : (j : ℕ) → at j ≈ read y ⊗ factor f s z j
  unfolding stage D
  stage_is zero = ring (read y ∷ b_hat f 0 ∷ []) (var 0) (var 0 :* (1ₑ :+ var 1 :* (1ₑ :- 1ₑ))) tt
  stage_is (suc zero) = combine (z ∷ b_hat f 1 ∷ omega_one f s ∷ first_mu_tilde f s ∷ read y ∷ read (times_z y)
      ∷ read (first_mu_tilde f s · times_z y) ∷ at 1 ∷ [])
      (var 7) (var 4 :* (1ₑ :+ var 1 :* (1ₑ :+ var 2 :* var 0 :- 1ₑ)))
      (given 1ₑ (var 7) (var 4 :+ var 6) (l.of_sum y (first_mu_tilde f s · times_z y))
      ∷ given 1ₑ (var 6) (var 3 :* var 5) (l.of_multiple _ (times_z y))
      ∷ given (var 3) (var 5) (var 0 :* var 4) (l.of_times_z y)
      ∷ given (var 0 :* var 4) (var 3) (var 1 :* var 2) (first_is f s)
      ∷ []) tt
  stage_is (suc (suc i)) = next i (stage_is (suc i)) (stage_is i)

-- the multiplier's value
pub multiplier_is : (f : Orthogonal) (s : ℕ) (z : Frac) → eval (multiplier f s) z ≈ factor f s z s
unfolding multiplier eval
multiplier_is f s z = combine (eval (multiplier f s) z ∷ z ∷ factor f s z s ∷ [])
    (var 0) (var 2)
    (given 1ₑ (var 0) ((1ₑ :+ var 1 :* 0ₑ) :* var 2)
    (stage_is (λ p. eval p z) times_variable z (record { of_sum = λ p q. eval_⊞ p q z; of_multiple = λ k p. eval_· k p z; of_times_z = λ p. eval_times p z }) f
    s (1# ∷ []) s)
    ∷ []) tt

-- ---- the attempt

stage_long : (k : Frac) (f : Orthogonal) (s : ℕ) (y : List Frac) (j : ℕ) → Long (length y) (stage (λ p. k · p) f s y j)
unfolding stage row
stage_long k f s y zero = record { is = refl }
stage_long k f s y (suc zero) = long_⊞ (record { is = refl }) (long_· _ (long_· _ (record { is = refl })))
stage_long k f s y (suc (suc i)) = let y-long : Long (length y) y = record { is = refl } in
    let previous = stage_long k f s y (suc i) in
    long_⊞ (long_⊞ (long_⊞ (long_· _ previous) (long_· _ (stage_long k f s y i))) (long_· _ y-long)) (long_· _ (long_⊞ (long_· _ previous) (long_· _ y-long)))

pub attempt_is : (f : Orthogonal) (s : ℕ) (c step : Frac) (y : List Frac) → attempt f s c step y ≋ eval (multiplier f s) (step ⊗ c) · y
unfolding attempt
attempt_is f s c step y = record {
  lengths = (stage_long z f s y s).is ∙ sym (length_· (eval (multiplier f s) z) y);
  entries = λ k. stage_is (λ p. nth p k) (λ p. z · p) z (record {
    of_sum = λ p q. nth_⊞ p q k;
    of_multiple = λ a p. nth_· a p k;
    of_times_z = λ p. nth_· z p k;
  }) f s y s
      ▹ ring (nth y k ∷ factor f s z s ∷ []) (var 0 :* var 1) (var 1 :* var 0) tt
      ▹ ⊗-cong (≈-sym (multiplier_is f s z)) (≈-refl (nth y k)) ▹ ≈-sym (nth_· (eval (multiplier f s) z) y k);
}
  where
    z : Frac
    z = step ⊗ c

-- ---- between −1 and 1

module _ (f : Orthogonal) (i : ℕ) (z : Frac) (range : Between (opp (nat 2 ⊘ omega_one f (suc (suc i)))) z 0#) where
  abbrev ω : Frac
  ω = omega_one f (suc (suc i))

  abbrev x' : Frac
  x' = x f (suc (suc i)) z

  x_low : Nonneg (1# ⊕ x')
  x_low = nonneg_≈ (combine (z ∷ ω ∷ (nat 2 ⊘ ω) ∷ [])
      (var 1 :* (var 0 :- neg (var 2))) (1ₑ :+ (1ₑ :+ var 1 :* var 0))
      (given (1ₑ) (var 2 :* var 1) (2ₑ) (divided (nat 2) ω (ω_above f i))
      ∷ []) tt)
      (nonneg_* (nonneg_above (ω_above f i)) (of_≼ range.from))

  x_high : Nonneg (1# ⊖ x')
  x_high = nonneg_≈ (ring (z ∷ ω ∷ []) (var 1 :* (0ₑ :- var 0)) (1ₑ :- (1ₑ :+ var 1 :* var 0)) tt)
      (nonneg_* (nonneg_above (ω_above f i)) (of_≼ range.to))

  square : (j : ℕ) → Nonneg (1# ⊖ D (extra f) x' j ⊗ D (extra f) x' j)
  square = D-square (extra f) x' (nonneg_≈ (ring (x' ∷ []) ((1ₑ :- var 0) :* (1ₑ :+ var 0)) (1ₑ :- var 0 :* var 0) tt) (nonneg_* x_high x_low))

  pub multiplier_bounded : Between (opp 1#) (eval (multiplier f (suc (suc i))) z) 1#
  multiplier_bounded = record {
    from = ≼-of (nonneg_≈ (combine (p ∷ B ∷ d ∷ [])
        (2ₑ :* (1ₑ :- var 1) :+ var 1 :* (1ₑ :+ var 2)) (var 0 :- neg 1ₑ)
        (given (neg 1ₑ) (var 0) (1ₑ :+ var 1 :* (var 2 :- 1ₑ)) (multiplier_is f s z)
        ∷ []) tt)
        (nonneg_+ (nonneg_* (nonneg_nat 2) (b_hat_fits f i).high) (nonneg_* (b_hat_fits f i).low (at_least_minus_one d (square s)))));
    to =
        ≼-of (nonneg_≈ (combine (p ∷ B ∷ d ∷ []) (var 1 :* (1ₑ :- var 2)) (1ₑ :- var 0)
        (given 1ₑ (var 0) (1ₑ :+ var 1 :* (var 2 :- 1ₑ)) (multiplier_is f s z) ∷ []) tt)
        (nonneg_* (b_hat_fits f i).low (at_most_one d (square s))));
  }
    where
      s : ℕ
      s = suc (suc i)

      p : Frac
      p = eval (multiplier f s) z

      B : Frac
      B = b_hat f s

      d : Frac
      d = D (extra f) x' s
