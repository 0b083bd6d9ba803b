-- Every entry of RKC's table is within 2 ^ -36, relatively, of T' / T'', and so is what every row of an attempt takes.
-- Computed in whole numbers, each value times a power of 13 s². Assumes nothing. ⊕ ⊖ ⊗ ⊘ are operations on fractions: they are exact.
use mathlib.Core.Path.{◌≡◌, refl, sym, ap, ap₂, ◌∙◌, subst}
use mathlib.Core.Logic.{inl, inr}
use mathlib.Core.List.{[], ◌∷◌}
use Prim.Native.Nat.{ℕ, zero, suc, ◌+◌, ◌-◌, ◌*◌, ◌^◌, ◌≤◌, ◌<◌}
use native.Mathlib.Nat.{le_trans, le_of_eq, mul-pos, mul_assoc, mul_comm, mul_left_comm, mul-le-mul_right, le_of_mul-le-mul_right, zero-lt-suc, mul-one}
use native.Mathlib.Nat.{mul_right_comm, zero-add, add-mul, one-mul}
use native.Mathlib.Omega.{arith}
use mathlib.Core.Bool.{Bool, false, not, ◌&&◌}
use lib.Dec.{T, leb, leb→le, lit<}
use lib.IntN.{ℤ, pos, negsuc, neg_ℤ, nat_abs, ◌+ℤ◌, ◌*ℤ◌, pos-ne-negsuc}
use lib.Ieee.{Float, of_bits}
use lib.Ieee.Fits.{and_l, and_r}
use lib.Ieee.Bits.{is_false}
use lib.Ieee.Positive.{num, den}
use lib.Ieee.Scale.{finite}
use Rattle.fractions.specs.Frac.{Frac, ◌⊕◌, ◌⊗◌, ◌⊖◌, opp, int, frac, ◌⊘◌, ◌≈◌}
use Rattle.fractions.proofs.FracLaws.{ring, ℤ-ring, int_+, int_*}
use Rattle.fractions.proofs.Ring.{var, con, ◌:+◌, ◌:*◌, ◌:-◌}
use Rattle.fractions.proofs.Ring as Ring
use Rattle.fractions.proofs.Combine.{given, combine, 0#, 1#, 0ₑ, 1ₑ, 2ₑ}
use Rattle.fractions.proofs.Order.{Above, above_or_zero}
use Rattle.fractions.proofs.Values.{nat, nat_+, nat_*, Is, is_nonneg, divided, is_frac}
use Rattle.coefficients.specs.Chebyshev.{chebyshev, first, second, omega_zero, omega_one}
use Rattle.ieee.specs.Close.{sign, Close}
use Rattle.coefficients.specs.Table as Table
use Rattle.family.specs.declared.Family.TheVariants.{RKC}
use Rattle.family.specs.Family.{facts_of}
use Rattle.coefficients.specs.Rows as Rows
use Rattle.coefficients.specs.Rows.{carried_of, recurrence_of, first_polynomials, first_polynomials_in, omega_one_of, next_of}
use Rattle.coefficients.specs.Rows.{next_polynomials, polynomials_on}
use Rattle.ieee.proofs.Fit.{close_of}
use Rattle.ieee.proofs.Every.{every, among}

-- ---- the test
-- y is within 2 ^ -36 of d / e, which is above 0
unfoldable pub near : Float → ℤ → ℤ → Bool
near y (pos d) (pos zero) = false
near y (pos d) (pos (suc e)) = finite y && not (sign y) && leb (num y * suc e * 2 ^ 36) (d * den y * 2 ^ 36 + d * den y)
    && leb (d * den y * 2 ^ 36) (num y * suc e * 2 ^ 36 + d * den y)
near y (pos d) (negsuc e) = false
near y (negsuc d) e = false

-- from two degrees to k more: n is 2 M w and m is M
unfoldable pub climb : ℕ → (n m t₀ t₁ d₀ d₁ e₀ e₁ : ℤ) → Float → Bool
climb zero n m t₀ t₁ d₀ d₁ e₀ e₁ y = near y d₁ e₁
climb (suc k) n m t₀ t₁ d₀ d₁ e₀ e₁ y =
    climb k n m t₁ (n *ℤ t₁ +ℤ neg_ℤ (m *ℤ m *ℤ t₀)) d₁ (n *ℤ d₁ +ℤ neg_ℤ (m *ℤ m *ℤ d₀) +ℤ pos 2 *ℤ m *ℤ t₁) e₁
    (n *ℤ e₁ +ℤ neg_ℤ (m *ℤ m *ℤ e₀) +ℤ pos 4 *ℤ m *ℤ d₁) y

unfoldable pub entry_test : ℕ → Bool
entry_test s = let m = pos (13 * s * s) in climb (s - 1) (pos (2 * (13 * s * s + 2))) m (pos 1) (pos (13 * s * s + 2)) (pos 0) m (pos 0) (pos 0) (Table.omega s)

entries : T (every entry_test 199 2)
unfolding every entry_test climb near Table.omega Table.omega_bits of_bits
entries = tt

-- ---- what it says
-- the values of degrees j and j + 1 at w, times p and p M
record At (w : Frac) (M p j : ℕ) (t₀ t₁ d₀ d₁ e₀ e₁ : ℤ) : Type 0 where
  some : 0 < p
  c₀ : nat p ⊗ chebyshev w j ≈ int t₀
  c₁ : nat (p * M) ⊗ chebyshev w (suc j) ≈ int t₁
  f₀ : nat p ⊗ first w j ≈ int d₀
  f₁ : nat (p * M) ⊗ first w (suc j) ≈ int d₁
  s₀ : nat p ⊗ second w j ≈ int e₀
  s₁ : nat (p * M) ⊗ second w (suc j) ≈ int e₁

int_two : (n m a b : ℤ) → int (n *ℤ a +ℤ neg_ℤ (m *ℤ m *ℤ b)) ≈ int n ⊗ int a ⊖ int m ⊗ int m ⊗ int b
unfolding int ◌⊗◌ ◌⊕◌ opp
int_two n m a b = record {
  cross = ℤ-ring (n ∷ m ∷ a ∷ b ∷ []) ((var 0 :* var 2 :+ Ring.neg (var 1 :* var 1 :* var 3)) :* con (pos 1))
      ((var 0 :* var 2 :* con (pos 1) :+ Ring.neg (var 1 :* var 1 :* var 3) :* con (pos 1)) :* con (pos 1)) tt;
}

int_three : (n m a b k c : ℤ) → int (n *ℤ a +ℤ neg_ℤ (m *ℤ m *ℤ b) +ℤ k *ℤ m *ℤ c) ≈ int n ⊗ int a ⊖ int m ⊗ int m ⊗ int b ⊕ int k ⊗ int m ⊗ int c
int_three n m a b k c = combine (int (n *ℤ a +ℤ neg_ℤ (m *ℤ m *ℤ b)) ∷ int (k *ℤ m *ℤ c) ∷ int (k *ℤ m) ∷ int k ∷ int m ∷ int c ∷ int n ∷ int a ∷ int b
    ∷ int (n *ℤ a +ℤ neg_ℤ (m *ℤ m *ℤ b) +ℤ k *ℤ m *ℤ c) ∷ [])
    (var 9) (var 6 :* var 7 :- var 4 :* var 4 :* var 8 :+ var 3 :* var 4 :* var 5)
    (given 1ₑ (var 9) (var 0 :+ var 1) (int_+ (n *ℤ a +ℤ neg_ℤ (m *ℤ m *ℤ b)) (k *ℤ m *ℤ c))
    ∷ given 1ₑ (var 0) (var 6 :* var 7 :- var 4 :* var 4 :* var 8) (int_two n m a b)
    ∷ given 1ₑ (var 1) (var 2 :* var 5) (int_* (k *ℤ m) c)
    ∷ given (var 5) (var 2) (var 3 :* var 4) (int_* k m)
    ∷ []) tt

-- one step of a recurrence: v'' = 2 w v' − v, and v'' = 2 w v' − v + k u
module _ (w : Frac) (M p : ℕ) (n : ℤ) (twice : int (pos 2) ⊗ nat M ⊗ w ≈ int n) where
  recur : (v v' : Frac) (a b : ℤ) → nat p ⊗ v ≈ int b → nat (p * M) ⊗ v' ≈ int a
      → nat (p * M * M) ⊗ (int (pos 2) ⊗ w ⊗ v' ⊖ v) ≈ int (n *ℤ a +ℤ neg_ℤ (pos M *ℤ pos M *ℤ b))
  recur v v' a b h h' =
      combine (w ∷ v ∷ v' ∷ nat p ∷ nat M ∷ nat (p * M) ∷ nat (p * M * M) ∷ int n ∷ int a ∷ int b ∷ int (n *ℤ a +ℤ neg_ℤ (pos M *ℤ pos M *ℤ b)) ∷ [])
      (var 6 :* (2ₑ :* var 0 :* var 2 :- var 1)) (var 10)
      (given (2ₑ :* var 0 :* var 2 :- var 1) (var 6) (var 5 :* var 4) (nat_* (p * M) M)
      ∷ given (var 5 :* var 2) (2ₑ :* var 4 :* var 0) (var 7) twice
      ∷ given (var 7) (var 5 :* var 2) (var 8) h'
      ∷ given (Ring.neg (var 4 :* var 1)) (var 5) (var 3 :* var 4) (nat_* p M)
      ∷ given (Ring.neg (var 4 :* var 4)) (var 3 :* var 1) (var 9) h
      ∷ given (con (negsuc 0)) (var 10) (var 7 :* var 8 :- var 4 :* var 4 :* var 9) (int_two n (pos M) a b)
      ∷ []) tt

  recur_with : (v v' u : Frac) (a b c k : ℤ) → nat p ⊗ v ≈ int b → nat (p * M) ⊗ v' ≈ int a → nat (p * M) ⊗ u ≈ int c
      → nat (p * M * M) ⊗ (int (pos 2) ⊗ w ⊗ v' ⊖ v ⊕ int k ⊗ u) ≈ int (n *ℤ a +ℤ neg_ℤ (pos M *ℤ pos M *ℤ b) +ℤ k *ℤ pos M *ℤ c)
  recur_with v v' u a b c k h h' g =
      combine (w ∷ v ∷ v' ∷ nat p ∷ nat M ∷ nat (p * M) ∷ nat (p * M * M) ∷ int n ∷ int a ∷ int b
      ∷ int (n *ℤ a +ℤ neg_ℤ (pos M *ℤ pos M *ℤ b) +ℤ k *ℤ pos M *ℤ c) ∷ u ∷ int c ∷ int k ∷ [])
      (var 6 :* (2ₑ :* var 0 :* var 2 :- var 1 :+ var 13 :* var 11)) (var 10)
      (given (2ₑ :* var 0 :* var 2 :- var 1 :+ var 13 :* var 11) (var 6) (var 5 :* var 4) (nat_* (p * M) M)
      ∷ given (var 5 :* var 2) (2ₑ :* var 4 :* var 0) (var 7) twice
      ∷ given (var 7) (var 5 :* var 2) (var 8) h'
      ∷ given (Ring.neg (var 4 :* var 1)) (var 5) (var 3 :* var 4) (nat_* p M)
      ∷ given (Ring.neg (var 4 :* var 4)) (var 3 :* var 1) (var 9) h
      ∷ given (var 13 :* var 4) (var 5 :* var 11) (var 12) g
      ∷ given (con (negsuc 0)) (var 10) (var 7 :* var 8 :- var 4 :* var 4 :* var 9 :+ var 13 :* var 4 :* var 12) (int_three n (pos M) a b k c)
      ∷ []) tt

-- ---- the quotient of two positive values
above_is : (x : Frac) (e p : ℕ) → 0 < p → nat p ⊗ x ≈ nat (suc e) → Above x
unfolding int
above_is x e p z h = elim (above_or_zero x (is_nonneg (record { bottom = z; value = h }))) [ inl a ↦ a | inr n ↦ absurd (no n) ]
  where
    no : x ≈ 0# → ⊥
    no n = none (ap nat_abs zero.cross)
      where
        zero : nat (suc e) ≈ 0#
        zero = combine (nat p ∷ x ∷ nat (suc e) ∷ []) (var 2) 0ₑ (given (con (negsuc 0)) (var 0 :* var 1) (var 2) h ∷ given (var 0) (var 1) 0ₑ n ∷ []) tt

        none : suc e * 1 ≡ 0 * 1 → ⊥
        none g = omega arith

quotient : (f s : Frac) (d e p : ℕ) → 0 < p → nat p ⊗ f ≈ nat d → nat p ⊗ s ≈ nat (suc e) → Is (f ⊘ s) d (suc e)
quotient f s d e p z h g = record {
  bottom = zero-lt-suc e;
  value =
      combine (f ∷ s ∷ f ⊘ s ∷ nat p ∷ nat d ∷ nat (suc e) ∷ [])
      (var 5 :* var 2) (var 4)
      (given (Ring.neg (var 2)) (var 3 :* var 1) (var 5) g
      ∷ given (var 3) (var 2 :* var 1) (var 0) (divided f s (above_is s e p z g))
      ∷ given 1ₑ (var 3 :* var 0) (var 4) h
      ∷ []) tt;
}

-- q = d / e: its numerator has no sign
numerator : (q : Frac) (d e : ℕ) → Is q d (suc e) → (m : ℕ) × (q.num ≡ pos m) × (m * suc e ≡ d * q.den)
unfolding int ◌⊗◌
numerator q d e h = go q.num h.value.cross
  where
    go : (k : ℤ) → pos (suc e) *ℤ k *ℤ pos 1 ≡ pos d *ℤ pos (1 * q.den) → (m : ℕ) × (k ≡ pos m) × (m * suc e ≡ d * q.den)
    go (pos m) g = (m, refl, flat q.den (ap nat_abs g))
      where
        flat : (b : ℕ) → suc e * m * 1 ≡ d * (1 * b) → m * suc e ≡ d * b
        flat b h = omega arith
    go (negsuc m) g = absurd (pos-ne-negsuc (d * (1 * q.den)) (m + e * suc m) (sym g ∙ ap (λ (y : ℕ). neg_ℤ (pos y) *ℤ pos 1) product
        ∙ ap (λ (y : ℕ). neg_ℤ (pos y)) (mul-one (suc (m + e * suc m)))))
      where
        product : suc e * suc m ≡ suc (m + e * suc m)
        product = omega arith

-- x / y against m / q, which is d / e
module _ (x q k y m d e : ℕ) (h : m * e ≡ d * q) where
  part : (z : ℕ) → d * z * q ≡ m * z * e
  part z = mul_right_comm d z q ∙ ap (λ (u : ℕ). u * z) (sym h) ∙ mul_right_comm m e z

  -- (d y k + d y and its like, times q)
  whole : (d * y * k + d * y) * q ≡ (m * y * k + m * y) * e
  whole = ap (λ (u : ℕ). (u + d * y) * q) (mul_assoc d y k) ∙ add-mul (d * (y * k)) (d * y) q ∙ ap₂ ◌+◌ (part (y * k)) (part y)
      ∙ sym (add-mul (m * (y * k)) (m * y) e) ∙ ap (λ (u : ℕ). (u + m * y) * e) (sym (mul_assoc m y k))

  turn : x * e * k * q ≡ x * q * k * e
  turn = simp (mul_assoc, mul_comm, mul_left_comm)

  carry : 0 < e → x * e * k ≤ d * y * k + d * y → x * q * k ≤ m * y * k + m * y
  carry z l = le_of_mul-le-mul_right (le_trans (le_of_eq (sym turn)) (le_trans (mul-le-mul_right q l) (le_of_eq whole))) z

  carry' : 0 < e → d * y * k ≤ x * e * k + d * y → m * y * k ≤ x * q * k + m * y
  carry' z l = le_of_mul-le-mul_right
      (le_trans (le_of_eq (ap (λ (u : ℕ). u * e) (mul_assoc m y k) ∙ sym (part (y * k)) ∙ ap (λ (u : ℕ). u * q) (sym (mul_assoc d y k))))
      (le_trans (mul-le-mul_right q l) (le_of_eq (add-mul (x * e * k) (d * y) q ∙ ap₂ ◌+◌ turn (part y) ∙ sym (add-mul (x * q * k) (m * y) e))))) z

near_close : (y : Float) (d e : ℤ) (f s : Frac) (p : ℕ) → 0 < p → nat p ⊗ f ≈ int d → nat p ⊗ s ≈ int e → T (near y d e) → Close 36 y (f ⊘ s)
unfolding near
near_close y (negsuc d) e f s p z h g t = absurd t
near_close y (pos d) (negsuc e) f s p z h g t = absurd t
near_close y (pos d) (pos zero) f s p z h g t = absurd t
near_close y (pos d) (pos (suc e)) f s p z h g t =
    let b₁ = finite y in
    let b₂ = not (sign y) in
    let b₃ = leb (num y * suc e * 2 ^ 36) (d * den y * 2 ^ 36 + d * den y) in
    let b₄ = leb (d * den y * 2 ^ 36) (num y * suc e * 2 ^ 36 + d * den y) in
    let t₃ = and_l (b₁ && b₂ && b₃) b₄ t in
    let t₂ = and_l (b₁ && b₂) b₃ t₃ in
    let q = f ⊘ s in
    let n = numerator q d e (quotient f s d e p z h g) in
    close_of 36 false y q n.0 (and_l b₁ b₂ t₂) (is_false (sign y) (and_r b₁ b₂ t₂)) n.1
    (carry (num y) q.den (2 ^ 36) (den y) n.0 d (suc e) n.2 (zero-lt-suc e)
    (leb→le (num y * suc e * 2 ^ 36) (d * den y * 2 ^ 36 + d * den y) (and_r (b₁ && b₂) b₃ t₃)))
    (carry' (num y) q.den (2 ^ 36) (den y) n.0 d (suc e) n.2 (zero-lt-suc e)
    (leb→le (d * den y * 2 ^ 36) (num y * suc e * 2 ^ 36 + d * den y) (and_r (b₁ && b₂ && b₃) b₄ t)))

-- ---- along the climb
module _ (w : Frac) (M : ℕ) (some_M : 0 < M) (n : ℤ) (twice : int (pos 2) ⊗ nat M ⊗ w ≈ int n) where
  step : (p j : ℕ) (t₀ t₁ d₀ d₁ e₀ e₁ : ℤ) → At w M p j t₀ t₁ d₀ d₁ e₀ e₁
      → At w M (p * M) (suc j) t₁ (n *ℤ t₁ +ℤ neg_ℤ (pos M *ℤ pos M *ℤ t₀)) d₁ (n *ℤ d₁ +ℤ neg_ℤ (pos M *ℤ pos M *ℤ d₀) +ℤ pos 2 *ℤ pos M *ℤ t₁) e₁
      (n *ℤ e₁ +ℤ neg_ℤ (pos M *ℤ pos M *ℤ e₀) +ℤ pos 4 *ℤ pos M *ℤ d₁)
  unfolding chebyshev first second
  step p j t₀ t₁ d₀ d₁ e₀ e₁ a = record {
    some = mul-pos a.some some_M;
    c₀ = a.c₁;
    c₁ = recur w M p n twice (chebyshev w j) (chebyshev w (suc j)) t₁ t₀ a.c₀ a.c₁;
    f₀ = a.f₁;
    f₁ = recur_with w M p n twice (first w j) (first w (suc j)) (chebyshev w (suc j)) d₁ d₀ t₁ (pos 2) a.f₀ a.f₁ a.c₁;
    s₀ = a.s₁;
    s₁ = recur_with w M p n twice (second w j) (second w (suc j)) (first w (suc j)) e₁ e₀ d₁ (pos 4) a.s₀ a.s₁ a.f₁;
  }

  climbs : (k p j : ℕ) (t₀ t₁ d₀ d₁ e₀ e₁ : ℤ) (y : Float) → At w M p j t₀ t₁ d₀ d₁ e₀ e₁ → T (climb k n (pos M) t₀ t₁ d₀ d₁ e₀ e₁ y)
      → Close 36 y (first w (k + suc j) ⊘ second w (k + suc j))
  unfolding climb
  climbs zero p j t₀ t₁ d₀ d₁ e₀ e₁ y a t = rw zero-add (near_close y d₁ e₁ (first w (suc j)) (second w (suc j)) (p * M) (mul-pos a.some some_M)
      a.f₁ a.s₁ t)
  climbs (suc k) p j t₀ t₁ d₀ d₁ e₀ e₁ y a t =
      subst (λ (i : ℕ). Close 36 y (first w i ⊘ second w i)) (shift k j)
      (climbs k (p * M) (suc j) t₁ (n *ℤ t₁ +ℤ neg_ℤ (pos M *ℤ pos M *ℤ t₀)) d₁ (n *ℤ d₁ +ℤ neg_ℤ (pos M *ℤ pos M *ℤ d₀) +ℤ pos 2 *ℤ pos M *ℤ t₁) e₁
      (n *ℤ e₁ +ℤ neg_ℤ (pos M *ℤ pos M *ℤ e₀) +ℤ pos 4 *ℤ pos M *ℤ d₁) y (step p j t₀ t₁ d₀ d₁ e₀ e₁ a) t)
    where
      shift : (k j : ℕ) → k + suc (suc j) ≡ suc k + suc j
      shift k j = omega arith

-- ---- the table
weight : (s : ℕ) → 2 ≤ s → 0 < 13 * s * s
weight s l = mul-pos (mul-pos (lit< tt) some) some
  where
    some : 0 < s
    some = omega arith

module _ (M : ℕ) (some_M : 0 < M) where
  start : nat M ⊗ (1# ⊕ frac 2 M) ≈ nat (M + 2)
  start = combine (nat M ∷ frac 2 M ∷ nat (M + 2) ∷ []) (var 0 :* (1ₑ :+ var 1)) (var 2)
      (given 1ₑ (var 0 :* var 1) 2ₑ (is_frac 2 M some_M).value ∷ given (con (negsuc 0)) (var 2) (var 0 :+ 2ₑ) (nat_+ M 2) ∷ []) tt

  start_twice : int (pos 2) ⊗ nat M ⊗ (1# ⊕ frac 2 M) ≈ nat (2 * (M + 2))
  start_twice = combine (nat M ∷ (1# ⊕ frac 2 M) ∷ nat (M + 2) ∷ nat (2 * (M + 2)) ∷ []) (2ₑ :* var 0 :* var 1) (var 3)
      (given 2ₑ (var 0 :* var 1) (var 2) start ∷ given (con (negsuc 0)) (var 3) (2ₑ :* var 2) (nat_* 2 (M + 2)) ∷ []) tt

  begin : At (1# ⊕ frac 2 M) M 1 0 (pos 1) (pos (M + 2)) (pos 0) (pos M) (pos 0) (pos 0)
  unfolding chebyshev first second
  begin = record {
    some = lit< tt;
    c₀ = ring [] (1ₑ :* 1ₑ) 1ₑ tt;
    c₁ = rw one-mul start;
    f₀ = ring [] (1ₑ :* 0ₑ) 0ₑ tt;
    f₁ = rw one-mul (ring (nat M ∷ []) (var 0 :* 1ₑ) (var 0) tt);
    s₀ = ring [] (1ₑ :* 0ₑ) 0ₑ tt;
    s₁ = ring (nat (1 * M) ∷ []) (var 0 :* 0ₑ) 0ₑ tt;
  }

pub close_omega : (s : ℕ) → 2 ≤ s → s ≤ 200 → Close 36 (Table.omega s) (omega_one s)
unfolding omega_one omega_zero entry_test
close_omega s l h =
    let M = 13 * s * s in
    subst (λ (i : ℕ). Close 36 (Table.omega s) (first (1# ⊕ frac 2 M) i ⊘ second (1# ⊕ frac 2 M) i)) last
    (climbs (1# ⊕ frac 2 M) M (weight s l) (pos (2 * (M + 2))) (start_twice M (weight s l)) (s - 1) 1 0 (pos 1) (pos (M + 2)) (pos 0) (pos M) (pos 0) (pos 0)
    (Table.omega s) (begin M (weight s l))
    (among entry_test 199 2 s entries l (omega arith)))
  where
    last : s - 1 + 1 ≡ s
    last = omega arith

-- ---- the rows: each takes omega_zero, and the entry that was read, as they were when the stages began
pub zero_taken : (q : Float) (s i : ℕ) → (carried_of RKC q s i).polynomials.omega_zero ≡ Rows.omega_zero s
unfolding carried_of recurrence_of first_polynomials first_polynomials_in next_of next_polynomials polynomials_on facts_of
zero_taken q s zero = refl
zero_taken q s (suc i) = zero_taken q s i

pub entry_taken : (q : Float) (s i : ℕ) → (carried_of RKC q s i).polynomials.omega_one ≡ Table.omega s
unfolding carried_of recurrence_of first_polynomials first_polynomials_in omega_one_of next_of next_polynomials polynomials_on facts_of
entry_taken q s zero = refl
entry_taken q s (suc i) = entry_taken q s i

pub close_taken : (q : Float) (s i : ℕ) → 2 ≤ s → s ≤ 200 → Close 36 (carried_of RKC q s i).polynomials.omega_one (omega_one s)
close_taken q s i l h = subst (λ (x : Float). Close 36 x (omega_one s)) (sym (entry_taken q s i)) (close_omega s l h)
