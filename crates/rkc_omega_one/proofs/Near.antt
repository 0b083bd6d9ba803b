-- A test in whole numbers of a double against a quotient of two: what passes `near` is within 2 ^ -n of it, relatively. Assumes nothing.
-- ⊗ ⊘ are operations on fractions: they are exact.
use mathlib.Core.Path.{◌≡◌, refl, sym, ap, ap₂, ◌∙◌}
use mathlib.Core.Logic.{inl, inr}
use mathlib.Core.List.{[], ◌∷◌}
use Prim.Native.Nat.{ℕ, zero, suc, ◌+◌, ◌*◌, ◌^◌, ◌≤◌, ◌<◌}
use native.Mathlib.Nat.{le_trans, le_of_eq, mul_assoc, mul_comm, mul_left_comm, mul_right_comm, mul-one, add-mul, zero-lt-suc}
use native.Mathlib.Nat.{mul-le-mul_right, le_of_mul-le-mul_right}
use native.Mathlib.Omega.{arith}
use mathlib.Core.Bool.{Bool, false, not, ◌&&◌}
use lib.Dec.{T, leb, leb→le}
use lib.IntN.{ℤ, pos, negsuc, neg_ℤ, nat_abs, ◌*ℤ◌, pos-ne-negsuc}
use lib.Ieee.{Float}
use lib.Ieee.Fits.{and_l, and_r}
use lib.Ieee.Bits.{is_false}
use lib.Ieee.Positive.{num, den}
use lib.Ieee.Scale.{finite}
use Rattle.fractions.specs.Frac.{Frac, ◌⊗◌, int, ◌⊘◌, ◌≈◌}
use Rattle.fractions.proofs.Ring.{var, con, ◌:*◌, neg}
use Rattle.fractions.proofs.Combine.{given, combine, 0#, 0ₑ, 1ₑ}
use Rattle.fractions.proofs.Order.{Above, above_or_zero}
use Rattle.fractions.proofs.Values.{nat, nat_*, nat_is, Is, is_nonneg, divided, cancel_nat}
use Rattle.ieee.specs.Close.{sign, Close}
use Rattle.ieee.proofs.Fit.{close_of}

-- y is within 2 ^ -n of d / e, which is above 0
unfoldable pub near : ℕ → Float → ℕ → ℕ → Bool
near n y d zero = false
near n y d (suc e) = finite y && not (sign y) && leb (num y * suc e * 2 ^ n) (d * den y * 2 ^ n + d * den y)
    && leb (d * den y * 2 ^ n) (num y * suc e * 2 ^ n + d * den y)

-- ---- the quotient of two fractions
above_is : (x : Frac) (e p : ℕ) → 0 < p → nat p ⊗ x ≈ nat (suc e) → Above x
unfolding int
above_is x e p z h = elim (above_or_zero x (is_nonneg (record { bottom = z; value = h }))) [ inl a ↦ a | inr n ↦ absurd (no n) ]
  where
    no : x ≈ 0# → ⊥
    no n = none (ap nat_abs zero.cross)
      where
        zero : nat (suc e) ≈ 0#
        zero = combine (nat p ∷ x ∷ nat (suc e) ∷ []) (var 2) 0ₑ (given (con (negsuc 0)) (var 0 :* var 1) (var 2) h ∷ given (var 0) (var 1) 0ₑ n ∷ []) tt

        none : suc e * 1 ≡ 0 * 1 → ⊥
        none g = omega arith

-- f is k d / p and g is k e / p
pub quotient : (f g : Frac) (d e p k : ℕ) → 0 < p → 0 < k → nat p ⊗ f ≈ nat k ⊗ nat d → nat p ⊗ g ≈ nat k ⊗ nat (suc e) → Is (f ⊘ g) d (suc e)
quotient f g d e p zero P K h l = absurd (omega arith)
quotient f g d e p (suc k) P K h l = record {
  bottom = zero-lt-suc e;
  value = cancel_nat (suc k) K
      (combine (f ∷ g ∷ f ⊘ g ∷ nat p ∷ nat (suc k) ∷ nat d ∷ nat (suc e) ∷ [])
      (var 4 :* (var 6 :* var 2)) (var 4 :* var 5)
      (given (neg (var 2)) (var 3 :* var 1) (var 4 :* var 6) l
      ∷ given (var 3) (var 2 :* var 1) (var 0) (divided f g (above_is g (e + k * suc e) p P whole))
      ∷ given 1ₑ (var 3 :* var 0) (var 4 :* var 5) h
      ∷ []) tt);
}
  where
    whole : nat p ⊗ g ≈ nat (suc (e + k * suc e))
    whole = combine (nat p ∷ g ∷ nat (suc k) ∷ nat (suc e) ∷ nat (suc k * suc e) ∷ nat (suc (e + k * suc e)) ∷ [])
        (var 0 :* var 1) (var 5)
        (given 1ₑ (var 0 :* var 1) (var 2 :* var 3) l
        ∷ given (con (negsuc 0)) (var 4) (var 2 :* var 3) (nat_* (suc k) (suc e))
        ∷ given 1ₑ (var 4) (var 5) (nat_is (suc k * suc e) (suc (e + k * suc e)) (omega arith))
        ∷ []) tt

-- q = d / e: its numerator has no sign
numerator : (q : Frac) (d e : ℕ) → Is q d (suc e) → (m : ℕ) × (q.num ≡ pos m) × (m * suc e ≡ d * q.den)
unfolding int ◌⊗◌
numerator q d e h = go q.num h.value.cross
  where
    go : (k : ℤ) → pos (suc e) *ℤ k *ℤ pos 1 ≡ pos d *ℤ pos (1 * q.den) → (m : ℕ) × (k ≡ pos m) × (m * suc e ≡ d * q.den)
    go (pos m) g = (m, refl, flat q.den (ap nat_abs g))
      where
        flat : (b : ℕ) → suc e * m * 1 ≡ d * (1 * b) → m * suc e ≡ d * b
        flat b h = omega arith
    go (negsuc m) g = absurd (pos-ne-negsuc (d * (1 * q.den)) (m + e * suc m) (sym g ∙ ap (λ (y : ℕ). neg_ℤ (pos y) *ℤ pos 1) product
        ∙ ap (λ (y : ℕ). neg_ℤ (pos y)) (mul-one (suc (m + e * suc m)))))
      where
        product : suc e * suc m ≡ suc (m + e * suc m)
        product = omega arith

-- ---- x / y against m / q, which is d / e
module _ (x q k y m d e : ℕ) (h : m * e ≡ d * q) where
  part : (z : ℕ) → d * z * q ≡ m * z * e
  part z = mul_right_comm d z q ∙ ap (λ (u : ℕ). u * z) (sym h) ∙ mul_right_comm m e z

  -- (d y k + d y and its like, times q)
  whole : (d * y * k + d * y) * q ≡ (m * y * k + m * y) * e
  whole = ap (λ (u : ℕ). (u + d * y) * q) (mul_assoc d y k) ∙ add-mul (d * (y * k)) (d * y) q ∙ ap₂ ◌+◌ (part (y * k)) (part y)
      ∙ sym (add-mul (m * (y * k)) (m * y) e) ∙ ap (λ (u : ℕ). (u + m * y) * e) (sym (mul_assoc m y k))

  turn : x * e * k * q ≡ x * q * k * e
  turn = simp (mul_assoc, mul_comm, mul_left_comm)

  carry : 0 < e → x * e * k ≤ d * y * k + d * y → x * q * k ≤ m * y * k + m * y
  carry z l = le_of_mul-le-mul_right (le_trans (le_of_eq (sym turn)) (le_trans (mul-le-mul_right q l) (le_of_eq whole))) z

  carry' : 0 < e → d * y * k ≤ x * e * k + d * y → m * y * k ≤ x * q * k + m * y
  carry' z l = le_of_mul-le-mul_right
      (le_trans (le_of_eq (ap (λ (u : ℕ). u * e) (mul_assoc m y k) ∙ sym (part (y * k)) ∙ ap (λ (u : ℕ). u * q) (sym (mul_assoc d y k))))
      (le_trans (mul-le-mul_right q l) (le_of_eq (add-mul (x * e * k) (d * y) q ∙ ap₂ ◌+◌ turn (part y) ∙ sym (add-mul (x * q * k) (m * y) e))))) z

pub near_close : (n : ℕ) (y : Float) (q : Frac) (d e : ℕ) → Is q d (suc e) → T (near n y d (suc e)) → Close n y q
unfolding near
near_close n y q d e h t =
    let b₁ = finite y in
    let b₂ = not (sign y) in
    let b₃ = leb (num y * suc e * 2 ^ n) (d * den y * 2 ^ n + d * den y) in
    let b₄ = leb (d * den y * 2 ^ n) (num y * suc e * 2 ^ n + d * den y) in
    let t₃ = and_l (b₁ && b₂ && b₃) b₄ t in
    let t₂ = and_l (b₁ && b₂) b₃ t₃ in
    let m = numerator q d e h in
    close_of n false y q m.0 (and_l b₁ b₂ t₂) (is_false (sign y) (and_r b₁ b₂ t₂)) m.1
    (carry (num y) q.den (2 ^ n) (den y) m.0 d (suc e) m.2 (zero-lt-suc e)
    (leb→le (num y * suc e * 2 ^ n) (d * den y * 2 ^ n + d * den y) (and_r (b₁ && b₂) b₃ t₃)))
    (carry' (num y) q.den (2 ^ n) (den y) m.0 d (suc e) m.2 (zero-lt-suc e)
    (leb→le (d * den y * 2 ^ n) (num y * suc e * 2 ^ n + d * den y) (and_r (b₁ && b₂ && b₃) b₄ t)))
