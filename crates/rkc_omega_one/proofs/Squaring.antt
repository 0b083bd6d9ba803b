-- T_s, T'_s and T''_s at w = a / M by the power (a + √c) ^ s = x + y √c in whole numbers, c = a² − M², found by squaring along the binary digits of
-- s: M ^ s T_s = x, M ^ s T'_s = s M y and c M ^ s T''_s = s M² (s x − a y). For every s and every such point, from Derivatives. Assumes nothing.
-- ⊖ ⊗ are operations on fractions: they are exact.
use mathlib.Core.Path.{◌≡◌, subst}
use mathlib.Core.List.{[], ◌∷◌}
use Prim.Native.Nat.{ℕ, zero, suc, ◌+◌, ◌*◌, ◌/◌, ◌%◌, ◌^◌, ◌<◌}
use native.Mathlib.Nat.{pow-zero, pow-suc, two-pow-succ}
use native.Mathlib.Omega.{arith}
use lib.Pow.{pow-add}
use Rattle.fractions.specs.Frac.{Frac, ◌⊗◌, ◌⊖◌, ◌≈◌}
use Rattle.fractions.proofs.FracLaws.{ring}
use Rattle.fractions.proofs.Ring.{var, ◌:+◌, ◌:*◌, ◌:-◌, neg}
use Rattle.fractions.proofs.Combine.{given, combine, 1#, 0ₑ, 1ₑ, 2ₑ}
use Rattle.fractions.proofs.Values.{nat, nat_+, nat_*, nat_is}
use Rattle.rkc_omega_one.specs.Chebyshev.{chebyshev, first, second}
use Rattle.rkc_omega_one.proofs.Derivatives.{other, next, sum, first_is, second_is, gapₑ, minus_oneₑ}

-- x + y √c
pub data Pair : Type 0 where
  pair : ℕ → ℕ → Pair

-- times a + √c, o times: o is 0 or 1
unfoldable pub times : ℕ → ℕ → ℕ → ℕ → ℕ → Pair
times zero a c x y = pair x y
times (suc o) a c x y = pair (a * x + c * y) (x + a * y)

unfoldable pub twice : ℕ → ℕ → ℕ → Pair → Pair
twice o a c (pair x y) = times o a c (x * x + c * (y * y)) (2 * (x * y))

-- (a + √c) ^ n, for an n below 2 ^ k
unfoldable pub power : ℕ → ℕ → ℕ → ℕ → Pair
power zero a c n = pair 1 0
power (suc k) a c n = twice (n % 2) a c (power k a c (n / 2))

-- degree s at w, times M ^ s
pub record Scaled (w : Frac) (M s x y : ℕ) : Type 0 where
  pub scaled_value : nat (M ^ s) ⊗ chebyshev w s ≈ nat x
  pub scaled_other : nat (M ^ s) ⊗ other w s ≈ nat M ⊗ nat y

abbrev pub Scales : (w : Frac) (M s : ℕ) → Pair → Type 0
Scales w M s (pair x y) = Scaled w M s x y

halves : (n : ℕ) → n / 2 + n / 2 + n % 2 ≡ n
halves n = omega arith

below : (k n : ℕ) → n < 2 ^ suc k → n / 2 < 2 ^ k
below k n h = let e = two-pow-succ k in omega arith

module _ (w : Frac) (a M c : ℕ) (here : nat M ⊗ w ≈ nat a) (squares : a * a ≡ M * M + c) where
  -- M² (w² − 1) = c
  gap : nat M ⊗ nat M ⊗ (w ⊗ w ⊖ 1#) ≈ nat c
  gap = combine (w ∷ nat M ∷ nat a ∷ nat c ∷ nat (a * a) ∷ nat (M * M + c) ∷ nat (M * M) ∷ [])
      (var 1 :* var 1 :* gapₑ) (var 3)
      (given (var 1 :* var 0 :+ var 2) (var 1 :* var 0) (var 2) here
      ∷ given minus_oneₑ (var 4) (var 2 :* var 2) (nat_* a a)
      ∷ given 1ₑ (var 4) (var 5) (nat_is (a * a) (M * M + c) squares)
      ∷ given 1ₑ (var 5) (var 6 :+ var 3) (nat_+ (M * M) c)
      ∷ given 1ₑ (var 6) (var 1 :* var 1) (nat_* M M)
      ∷ []) tt

  squared_value : (s x y : ℕ) → Scaled w M s x y → nat (M ^ (s + s)) ⊗ chebyshev w (s + s) ≈ nat (x * x + c * (y * y))
  squared_value s x y h =
      let p = M ^ s in
      combine (w ∷ nat M ∷ nat c ∷ nat x ∷ nat y ∷ nat p ∷ nat (M ^ (s + s)) ∷ nat (p * p) ∷ chebyshev w s ∷ other w s ∷ chebyshev w (s + s)
      ∷ nat (x * x + c * (y * y)) ∷ nat (x * x) ∷ nat (c * (y * y)) ∷ nat (y * y) ∷ [])
      (var 6 :* var 10) (var 11)
      (given (var 10) (var 6) (var 7) (nat_is (M ^ (s + s)) (p * p) (pow-add M s s))
      ∷ given (var 10) (var 7) (var 5 :* var 5) (nat_* p p)
      ∷ given (var 5 :* var 5) (var 10) (var 8 :* var 8 :+ gapₑ :* (var 9 :* var 9)) (sum w s s).sum_value
      ∷ given (var 5 :* var 8 :+ var 3) (var 5 :* var 8) (var 3) h.scaled_value
      ∷ given (gapₑ :* (var 5 :* var 9 :+ var 1 :* var 4)) (var 5 :* var 9) (var 1 :* var 4) h.scaled_other
      ∷ given (var 4 :* var 4) (var 1 :* var 1 :* gapₑ) (var 2) gap
      ∷ given minus_oneₑ (var 11) (var 12 :+ var 13) (nat_+ (x * x) (c * (y * y)))
      ∷ given minus_oneₑ (var 12) (var 3 :* var 3) (nat_* x x)
      ∷ given minus_oneₑ (var 13) (var 2 :* var 14) (nat_* c (y * y))
      ∷ given (neg (var 2)) (var 14) (var 4 :* var 4) (nat_* y y)
      ∷ []) tt

  squared_other : (s x y : ℕ) → Scaled w M s x y → nat (M ^ (s + s)) ⊗ other w (s + s) ≈ nat M ⊗ nat (2 * (x * y))
  squared_other s x y h =
      let p = M ^ s in
      combine (w ∷ nat M ∷ nat x ∷ nat y ∷ nat p ∷ nat (M ^ (s + s)) ∷ nat (p * p) ∷ chebyshev w s ∷ other w s ∷ other w (s + s) ∷ nat (2 * (x * y))
      ∷ nat (x * y) ∷ [])
      (var 5 :* var 9) (var 1 :* var 10)
      (given (var 9) (var 5) (var 6) (nat_is (M ^ (s + s)) (p * p) (pow-add M s s))
      ∷ given (var 9) (var 6) (var 4 :* var 4) (nat_* p p)
      ∷ given (var 4 :* var 4) (var 9) (var 7 :* var 8 :+ var 8 :* var 7) (sum w s s).sum_other
      ∷ given (2ₑ :* var 4 :* var 8) (var 4 :* var 7) (var 2) h.scaled_value
      ∷ given (2ₑ :* var 2) (var 4 :* var 8) (var 1 :* var 3) h.scaled_other
      ∷ given (neg (var 1)) (var 10) (2ₑ :* var 11) (nat_* 2 (x * y))
      ∷ given (neg (2ₑ :* var 1)) (var 11) (var 2 :* var 3) (nat_* x y)
      ∷ []) tt

  moved_value : (s x y : ℕ) → Scaled w M s x y → nat (M ^ suc s) ⊗ chebyshev w (suc s) ≈ nat (a * x + c * y)
  moved_value s x y h =
      let p = M ^ s in
      combine (w ∷ nat M ∷ nat a ∷ nat c ∷ nat x ∷ nat y ∷ nat p ∷ nat (M ^ suc s) ∷ nat (p * M) ∷ chebyshev w s ∷ other w s ∷ chebyshev w (suc s)
      ∷ nat (a * x + c * y) ∷ nat (a * x) ∷ nat (c * y) ∷ [])
      (var 7 :* var 11) (var 12)
      (given (var 11) (var 7) (var 8) (nat_is (M ^ suc s) (p * M) (pow-suc M s))
      ∷ given (var 11) (var 8) (var 6 :* var 1) (nat_* p M)
      ∷ given (var 6 :* var 1) (var 11) (var 0 :* var 9 :+ gapₑ :* var 10) (next w s).next_value
      ∷ given (var 6 :* var 9) (var 1 :* var 0) (var 2) here
      ∷ given (var 2) (var 6 :* var 9) (var 4) h.scaled_value
      ∷ given (var 1 :* gapₑ) (var 6 :* var 10) (var 1 :* var 5) h.scaled_other
      ∷ given (var 5) (var 1 :* var 1 :* gapₑ) (var 3) gap
      ∷ given minus_oneₑ (var 12) (var 13 :+ var 14) (nat_+ (a * x) (c * y))
      ∷ given minus_oneₑ (var 13) (var 2 :* var 4) (nat_* a x)
      ∷ given minus_oneₑ (var 14) (var 3 :* var 5) (nat_* c y)
      ∷ []) tt

  moved_other : (s x y : ℕ) → Scaled w M s x y → nat (M ^ suc s) ⊗ other w (suc s) ≈ nat M ⊗ nat (x + a * y)
  moved_other s x y h =
      let p = M ^ s in
      combine (w ∷ nat M ∷ nat a ∷ nat x ∷ nat y ∷ nat p ∷ nat (M ^ suc s) ∷ nat (p * M) ∷ chebyshev w s ∷ other w s ∷ other w (suc s)
      ∷ nat (x + a * y) ∷ nat (a * y) ∷ [])
      (var 6 :* var 10) (var 1 :* var 11)
      (given (var 10) (var 6) (var 7) (nat_is (M ^ suc s) (p * M) (pow-suc M s))
      ∷ given (var 10) (var 7) (var 5 :* var 1) (nat_* p M)
      ∷ given (var 5 :* var 1) (var 10) (var 0 :* var 9 :+ var 8) (next w s).next_other
      ∷ given (var 5 :* var 9) (var 1 :* var 0) (var 2) here
      ∷ given (var 2) (var 5 :* var 9) (var 1 :* var 4) h.scaled_other
      ∷ given (var 1) (var 5 :* var 8) (var 3) h.scaled_value
      ∷ given (neg (var 1)) (var 11) (var 3 :+ var 12) (nat_+ x (a * y))
      ∷ given (neg (var 1)) (var 12) (var 2 :* var 4) (nat_* a y)
      ∷ []) tt

  begins : Scaled w M 0 1 0
  unfolding chebyshev other
  begins = record {
    scaled_value = combine (nat (M ^ 0) ∷ []) (var 0 :* 1ₑ) 1ₑ (given 1ₑ (var 0) 1ₑ (nat_is (M ^ 0) 1 (pow-zero M)) ∷ []) tt;
    scaled_other = ring (nat (M ^ 0) ∷ nat M ∷ []) (var 0 :* 0ₑ) (var 1 :* 0ₑ) tt;
  }

  turned : (o s x y : ℕ) → o < 2 → Scaled w M s x y → Scales w M (s + o) (times o a c x y)
  unfolding times
  turned zero s x y l h = subst (λ (i : ℕ). Scaled w M i x y) (omega arith) h
  turned (suc zero) s x y l h = subst (λ (i : ℕ). Scaled w M i (a * x + c * y) (x + a * y)) (omega arith)
      (record { scaled_value = moved_value s x y h; scaled_other = moved_other s x y h })
  turned (suc (suc o)) s x y l h = absurd (omega arith)

  doubled : (o s : ℕ) (q : Pair) → o < 2 → Scales w M s q → Scales w M (s + s + o) (twice o a c q)
  unfolding twice
  doubled o s (pair x y) l h = turned o (s + s) (x * x + c * (y * y)) (2 * (x * y)) l
      (record { scaled_value = squared_value s x y h; scaled_other = squared_other s x y h })

  pub powers : (k s : ℕ) → s < 2 ^ k → Scales w M s (power k a c s)
  unfolding power
  powers zero s h = subst (λ (i : ℕ). Scaled w M i 1 0) (none (subst (λ (z : ℕ). s < z) (pow-zero 2) h)) begins
    where
      none : s < 1 → 0 ≡ s
      none h = omega arith
  powers (suc k) s h = subst (λ (i : ℕ). Scales w M i (twice (s % 2) a c (power k a c (s / 2)))) (halves s)
      (doubled (s % 2) (s / 2) (power k a c (s / 2)) (omega arith) (powers k (s / 2) (below k s h)))

  -- ---- the derivatives
  module _ (s x y : ℕ) (h : Scaled w M s x y) where
    pub scaled_first : nat (M ^ s) ⊗ first w s ≈ nat s ⊗ nat M ⊗ nat y
    scaled_first = combine (nat (M ^ s) ∷ nat s ∷ nat M ∷ nat y ∷ first w s ∷ other w s ∷ [])
        (var 0 :* var 4) (var 1 :* var 2 :* var 3)
        (given (var 0) (var 4) (var 1 :* var 5) (first_is w s)
        ∷ given (var 1) (var 0 :* var 5) (var 2 :* var 3) h.scaled_other
        ∷ []) tt

    pub scaled_second : nat c ⊗ nat (M ^ s) ⊗ second w s ≈ nat s ⊗ nat M ⊗ nat M ⊗ (nat s ⊗ nat x ⊖ nat a ⊗ nat y)
    scaled_second = combine (w ∷ nat M ∷ nat a ∷ nat c ∷ nat s ∷ nat x ∷ nat y ∷ nat (M ^ s) ∷ chebyshev w s ∷ other w s ∷ second w s ∷ [])
        (var 3 :* var 7 :* var 10) (var 4 :* var 1 :* var 1 :* (var 4 :* var 5 :- var 2 :* var 6))
        (given (neg (var 7 :* var 10)) (var 1 :* var 1 :* gapₑ) (var 3) gap
        ∷ given (var 7 :* var 1 :* var 1) (gapₑ :* var 10) (var 4 :* (var 4 :* var 8 :- var 0 :* var 9)) (second_is w s)
        ∷ given (var 1 :* var 1 :* var 4 :* var 4) (var 7 :* var 8) (var 5) h.scaled_value
        ∷ given (neg (var 1 :* var 1 :* var 4 :* var 0)) (var 7 :* var 9) (var 1 :* var 6) h.scaled_other
        ∷ given (neg (var 1 :* var 1 :* var 4 :* var 6)) (var 1 :* var 0) (var 2) here
        ∷ []) tt
