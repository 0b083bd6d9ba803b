-- Every entry of RKC's table is near T' / T'': within 2 ^ -36, relatively, up to s = 200, and within 2 ^ -34 from there to 1000. One test, computed
-- in whole numbers by squaring, for both. From Squaring and Near. Assumes nothing. ⊕ ⊗ ⊘ are operations on fractions: they are exact.
use mathlib.Core.Path.{◌≡◌, refl, subst}
use mathlib.Core.List.{[], ◌∷◌}
use Prim.Native.Nat.{ℕ, zero, suc, ◌+◌, ◌-◌, ◌*◌, ◌^◌, ◌≤◌, ◌<◌}
use native.Mathlib.Nat.{mul-pos, one-le-pow}
use native.Mathlib.Decide.{dec_le}
use native.Mathlib.Omega.{arith}
use mathlib.Core.Bool.{Bool}
use lib.Dec.{T, lit<}
use lib.Ieee.{Float, of_bits}
use Rattle.fractions.specs.Frac.{Frac, ◌⊕◌, ◌⊗◌, frac, ◌⊘◌, ◌≈◌}
use Rattle.fractions.proofs.Ring.{var, ◌:+◌, ◌:*◌, ◌:-◌, neg}
use Rattle.fractions.proofs.Combine.{given, combine, 1#, 1ₑ, 2ₑ}
use Rattle.fractions.proofs.Values.{nat, nat_+, nat_*, nat_is, is_frac}
use Rattle.ieee.specs.Close.{Close}
use Rattle.ieee.proofs.Every.{every, among}
use Rattle.rkc_omega_one.specs.Chebyshev.{first, second, omega_zero, omega_one}
use Rattle.rkc_omega_one.specs.Beyond.{omega_one_beyond}
use Rattle.rkc_omega_one.specs.Table as Table
use Rattle.rkc_omega_one.proofs.Derivatives.{minus_oneₑ}
use Rattle.rkc_omega_one.proofs.Squaring.{Pair, pair, times, twice, power, Scaled, Scales, powers, scaled_first, scaled_second}
use Rattle.rkc_omega_one.proofs.Near.{near, quotient, near_close}
use Rattle.rkc_omega_one.proofs.Ranges.{extended_same}

-- ---- the test
-- v is within 2 ^ -n of T' / T'', which is c y / (M (s x − a y)) by Squaring
unfoldable pub compared : (n s M a c : ℕ) → Float → Pair → Bool
compared n s M a c v (pair x y) = near n v (c * y) (M * (s * x - a * y))

-- ω0 = 1 + 2 / M is (M + 2) / M, and (M + 2)² − M² = 4 (M + 1); s is below 2 ^ 10
unfoldable pub entry : ℕ → ℕ → Bool
entry n s =
    let M = 13 * s * s in
    let a = M + 2 in
    let c = 4 * (M + 1) in
    compared n s M a c (Table.extended s) (power 10 a c s)

to_200 : T (every (entry 36) 199 2)
unfolding every entry compared near power twice times Table.extended Table.omega Table.omega_bits omega_one_beyond of_bits
to_200 = tt

-- (in two parts: a declaration has a limit of steps)
to_700 : T (every (entry 34) 500 201)
unfolding every entry compared near power twice times Table.extended Table.omega Table.omega_bits omega_one_beyond of_bits
to_700 = tt

to_1000 : T (every (entry 34) 300 701)
unfolding every entry compared near power twice times Table.extended Table.omega Table.omega_bits omega_one_beyond of_bits
to_1000 = tt

-- ---- what it says
-- at w = a / M
module _ (w : Frac) (a M c : ℕ) (here : nat M ⊗ w ≈ nat a) (squares : a * a ≡ M * M + c) (some_M : 0 < M) (some_c : 0 < c) where
  module _ (s x y : ℕ) (h : Scaled w M s x y) where
    top : nat (c * M ^ s) ⊗ first w s ≈ nat (s * M) ⊗ nat (c * y)
    top = combine (nat (c * M ^ s) ∷ nat c ∷ nat (M ^ s) ∷ first w s ∷ nat (s * M) ∷ nat s ∷ nat M ∷ nat (c * y) ∷ nat y ∷ [])
        (var 0 :* var 3) (var 4 :* var 7)
        (given (var 3) (var 0) (var 1 :* var 2) (nat_* c (M ^ s))
        ∷ given (var 1) (var 2 :* var 3) (var 5 :* var 6 :* var 8) (scaled_first w a M c here squares s x y h)
        ∷ given (neg (var 7)) (var 4) (var 5 :* var 6) (nat_* s M)
        ∷ given (neg (var 5 :* var 6)) (var 7) (var 1 :* var 8) (nat_* c y)
        ∷ []) tt

    -- (z is s x − a y)
    bottom : (z : ℕ) → a * y + z ≡ s * x → nat (c * M ^ s) ⊗ second w s ≈ nat (s * M) ⊗ nat (M * z)
    bottom z over = combine (nat (c * M ^ s) ∷ nat c ∷ nat (M ^ s) ∷ second w s ∷ nat (s * M) ∷ nat s ∷ nat M ∷ nat (M * z) ∷ nat z ∷ nat a ∷ nat x ∷ nat y
        ∷ nat (a * y) ∷ nat (s * x) ∷ nat (a * y + z) ∷ [])
        (var 0 :* var 3) (var 4 :* var 7)
        (given (var 3) (var 0) (var 1 :* var 2) (nat_* c (M ^ s))
        ∷ given 1ₑ (var 1 :* var 2 :* var 3) (var 5 :* var 6 :* var 6 :* (var 5 :* var 10 :- var 9 :* var 11)) (scaled_second w a M c here squares s x y h)
        ∷ given (neg (var 7)) (var 4) (var 5 :* var 6) (nat_* s M)
        ∷ given (neg (var 5 :* var 6)) (var 7) (var 6 :* var 8) (nat_* M z)
        ∷ given (neg (var 5 :* var 6 :* var 6)) (var 13) (var 5 :* var 10) (nat_* s x)
        ∷ given (var 5 :* var 6 :* var 6) (var 12) (var 9 :* var 11) (nat_* a y)
        ∷ given (neg (var 5 :* var 6 :* var 6)) (var 14) (var 13) (nat_is (a * y + z) (s * x) over)
        ∷ given (var 5 :* var 6 :* var 6) (var 14) (var 12 :+ var 8) (nat_+ (a * y) z)
        ∷ []) tt

  compared_close : (n s : ℕ) (v : Float) (q : Pair) → 0 < s → Scales w M s q → T (compared n s M a c v q) → Close n v (first w s ⊘ second w s)
  unfolding compared near
  compared_close n s v (pair x y) S h t = go (s * x - a * y) refl (M * (s * x - a * y)) refl t
    where
      go : (z : ℕ) → s * x - a * y ≡ z → (e : ℕ) → M * z ≡ e → T (near n v (c * y) e) → Close n v (first w s ⊘ second w s)
      go z f zero g t = absurd t
      go zero f (suc e) g t = absurd (none g)
        where
          none : M * 0 ≡ suc e → ⊥
          none g = omega arith
      go (suc z) f (suc e) g t = near_close n v (first w s ⊘ second w s) (c * y) e
          (quotient (first w s) (second w s) (c * y) e (c * M ^ s) (s * M) (mul-pos some_c (one-le-pow s M some_M)) (mul-pos S some_M)
          (top s x y h) (subst (λ (i : ℕ). nat (c * M ^ s) ⊗ second w s ≈ nat (s * M) ⊗ nat i) g (bottom s x y h (suc z) over))) t
        where
          over : a * y + suc z ≡ s * x
          over = omega arith

-- ---- the table
weight : (s : ℕ) → 0 < s → 0 < 13 * s * s
weight s some = mul-pos (mul-pos (lit< tt) some) some

start : (M : ℕ) → 0 < M → nat M ⊗ (1# ⊕ frac 2 M) ≈ nat (M + 2)
start M some_M = combine (nat M ∷ frac 2 M ∷ nat (M + 2) ∷ []) (var 0 :* (1ₑ :+ var 1)) (var 2)
    (given 1ₑ (var 0 :* var 1) 2ₑ (is_frac 2 M some_M).value ∷ given minus_oneₑ (var 2) (var 0 :+ 2ₑ) (nat_+ M 2) ∷ []) tt

square : (M : ℕ) → (M + 2) * (M + 2) ≡ M * M + 4 * (M + 1)
square M = omega arith

entry_close : (n s : ℕ) → 0 < s → s ≤ 1000 → T (entry n s) → Close n (Table.extended s) (omega_one s)
unfolding entry omega_one omega_zero
entry_close n s l h t =
    let M = 13 * s * s in
    let w = 1# ⊕ frac 2 M in
    let a = M + 2 in
    let c = 4 * (M + 1) in
    let here = start M (weight s l) in
    compared_close w a M c here (square M) (weight s l) (some M) n s (Table.extended s) (power 10 a c s) l
    (powers w a M c here (square M) 10 s (omega arith)) t
  where
    some : (M : ℕ) → 0 < 4 * (M + 1)
    some M = omega arith

pub close_omega : (s : ℕ) → 2 ≤ s → s ≤ 200 → Close 36 (Table.omega s) (omega_one s)
close_omega s l h = subst (λ (v : Float). Close 36 v (omega_one s)) (extended_same s h)
    (entry_close 36 s (omega arith) (omega arith) (among (entry 36) 199 2 s to_200 l (omega arith)))

pub close_extended : (s : ℕ) → 200 < s → s ≤ 1000 → Close 34 (Table.extended s) (omega_one s)
close_extended s l h = entry_close 34 s (omega arith) h (elim (dec_le s 700) [
  | yes m ↦ among (entry 34) 500 201 s to_700 l (omega arith)
  | no m ↦ among (entry 34) 300 701 s to_1000 (omega arith) (omega arith)
])
