-- Legendre's polynomials (e = 0) and Gegenbauer's of index 3/2 (e = 2), divided by their values at 1, are between −1 and 1 on [−1, 1]. From their recurrence
-- alone, without analysis: for α D(i+2) = (α + β) x D(i+1) − β D(i), with β ≤ α, the form v² − 2xvw + w² at two neighbors v, w falls as i grows: its fall is
-- (α² − β²)(v − xw)²/α². It begins at 1 − x² and is at least (1 − x²)v². ⊕ ⊖ ⊗ are operations on fractions: they are exact.
use mathlib.Core.Path.{◌≡◌, subst}
use mathlib.Core.List.{[], ◌∷◌}
use mathlib.Core.Logic.{inl, inr}
use Prim.Native.Nat.{ℕ, zero, suc, ◌+◌}
use native.Mathlib.Omega.{arith}
use lib.IntN.{pos, negsuc}
use Rattle.fractions.proofs.Ring.{Expr, var, con, ◌:+◌, ◌:*◌, ◌:-◌}
use Rattle.fractions.specs.Frac.{Frac, ◌⊕◌, ◌⊗◌, ◌⊖◌, int, ◌≈◌, ◌over◌}
use Rattle.fractions.proofs.FracLaws.{ring, ≈-sym, int_+, over_is}
use Rattle.fractions.proofs.Combine.{0#, 1#, 0ₑ, 1ₑ, 2ₑ, given, combine}
use Rattle.fractions.proofs.Values.{cancel_nat}
use Rattle.fractions.proofs.Order.{Nonneg, nonneg_≈, nonneg_+, nonneg_*, nonneg_square, nonneg_nat, above_nat, nonneg_cancel, above_or_zero}

module _ (e : ℕ) where
  abbrev pub α : ℕ → Frac
  α i = int (pos (suc (suc (i + e))))

  abbrev pub β : ℕ → Frac
  β i = int (pos (suc i))

  unfoldable pub D : Frac → ℕ → Frac
  D x zero = 1#
  D x (suc zero) = x
  D x (suc (suc i)) = ((α i ⊕ β i) ⊗ x ⊗ D x (suc i) ⊖ β i ⊗ D x i) ⊗ 1 over (suc (i + e))

  α_is : (i : ℕ) → α i ≈ β i ⊕ int (pos (suc e))
  α_is i = subst (λ (n : ℕ). int (pos n) ≈ β i ⊕ int (pos (suc e))) (let p : suc i + suc e ≡ suc (suc (i + e)) = omega arith in
      p) (int_+ (pos (suc i)) (pos (suc e)))

  pub D-rec : (x : Frac) (i : ℕ) → α i ⊗ D x (suc (suc i)) ≈ (α i ⊕ β i) ⊗ x ⊗ D x (suc i) ⊖ β i ⊗ D x i
  unfolding D
  D-rec x i = combine (α i ∷ ((α i ⊕ β i) ⊗ x ⊗ D x (suc i) ⊖ β i ⊗ D x i) ∷ 1 over (suc (i + e)) ∷ [])
      (var 0 :* (var 1 :* var 2)) (var 1)
      (given (var 1) (var 0 :* var 2) 1ₑ (over_is 1 (suc (i + e)))
      ∷ []) tt

  module _ (x : Frac) where
    -- v² − 2xvw + w² at neighbors
    abbrev S : ℕ → Frac
    S i = let v = D x i in let w = D x (suc i) in v ⊗ v ⊖ int (pos 2) ⊗ x ⊗ v ⊗ w ⊕ w ⊗ w

    abbrev Sₑ : Expr → Expr → Expr → Expr
    Sₑ a v w = v :* v :- 2ₑ :* a :* v :* w :+ w :* w

    falls : (i : ℕ) → Nonneg (S i ⊖ S (suc i))
    falls i = nonneg_cancel (above_nat _) (nonneg_cancel (above_nat _) (nonneg_≈ (≈-sym fall)
        (nonneg_* (nonneg_+ (nonneg_nat _) (nonneg_nat _)) (nonneg_* (nonneg_≈ gap (nonneg_nat (suc e))) (nonneg_square (D x i ⊖ x ⊗ D x (suc i)))))))
      where
        gap : int (pos (suc e)) ≈ α i ⊖ β i
        gap = combine (α i ∷ β i ∷ int (pos (suc e)) ∷ []) (var 2) (var 0 :- var 1) (given (con (negsuc 0)) (var 0) (var 1 :+ var 2) (α_is i) ∷ []) tt

        fall : α i ⊗ (α i ⊗ (S i ⊖ S (suc i))) ≈ (α i ⊕ β i) ⊗ ((α i ⊖ β i) ⊗ ((D x i ⊖ x ⊗ D x (suc i)) ⊗ (D x i ⊖ x ⊗ D x (suc i))))
        fall = (let X = var 0 in let U = var 1 in let W = var 2 in let Z = var 3 in let P = var 4 in let Q = var 5 in
            let t = (P :+ Q) :* X :* W :- Q :* U in
            combine (x ∷ D x i ∷ D x (suc i) ∷ D x (suc (suc i)) ∷ α i ∷ β i ∷ [])
            (P :* (P :* (Sₑ X U W :- Sₑ X W Z))) ((P :+ Q) :* ((P :- Q) :* ((U :- X :* W) :* (U :- X :* W))))
            (given (2ₑ :* P :* X :* W :- P :* Z :- t) (P :* Z) t (D-rec x i)
            ∷ []) tt)

    stays : (i : ℕ) → Nonneg (1# ⊖ x ⊗ x ⊖ S i)
    unfolding D
    stays zero = nonneg_≈ (ring (x ∷ []) (0ₑ) (1ₑ :- var 0 :* var 0 :- Sₑ (var 0) 1ₑ (var 0)) tt) (nonneg_nat 0)
    stays (suc i) = nonneg_≈ (ring (x ∷ S i ∷ S (suc i) ∷ []) ((1ₑ :- var 0 :* var 0 :- var 1) :+ (var 1 :- var 2)) (1ₑ :- var 0 :* var 0 :- var 2) tt)
        (nonneg_+ (stays i) (falls i))

    product_bound : (i : ℕ) → Nonneg ((1# ⊖ x ⊗ x) ⊗ (1# ⊖ D x i ⊗ D x i))
    product_bound i = nonneg_≈ (ring (x ∷ D x i ∷ D x (suc i) ∷ [])
        ((1ₑ :- var 0 :* var 0 :- Sₑ (var 0) (var 1) (var 2)) :+ (var 0 :* var 1 :- var 2) :* (var 0 :* var 1 :- var 2))
        ((1ₑ :- var 0 :* var 0) :* (1ₑ :- var 1 :* var 1)) tt)
        (nonneg_+ (stays i) (nonneg_square (x ⊗ D x i ⊖ D x (suc i))))

    -- at x = 1 and x = −1
    at_end : x ⊗ x ≈ 1# → (i : ℕ) → D x (suc i) ≈ x ⊗ D x i
    unfolding D
    at_end h zero = ring (x ∷ []) (var 0) (var 0 :* 1ₑ) tt
    at_end h (suc i) = cancel_nat (suc (suc (i + e))) (omega arith)
        ((let X = var 0 in let U = var 1 in let W = var 2 in let Z = var 3 in let P = var 4 in let Q = var 5 in
        combine (x ∷ D x i ∷ D x (suc i) ∷ D x (suc (suc i)) ∷ α i ∷ β i ∷ [])
        (P :* Z) (P :* (X :* W))
        (given 1ₑ (P :* Z) ((P :+ Q) :* X :* W :- Q :* U) (D-rec x i)
        ∷ given (Q :* X) W (X :* U) (at_end h i)
        ∷ given (Q :* U) (X :* X) 1ₑ h
        ∷ []) tt))

    square_at_end : x ⊗ x ≈ 1# → (i : ℕ) → D x i ⊗ D x i ≈ 1#
    unfolding D
    square_at_end h zero = ring [] (1ₑ :* 1ₑ) 1ₑ tt
    square_at_end h (suc i) = combine (x ∷ D x i ∷ D x (suc i) ∷ [])
        (var 2 :* var 2) 1ₑ
        (given (var 2 :+ var 0 :* var 1) (var 2) (var 0 :* var 1) (at_end h i)
        ∷ given (var 1 :* var 1) (var 0 :* var 0) 1ₑ h
        ∷ given 1ₑ (var 1 :* var 1) 1ₑ (square_at_end h i)
        ∷ []) tt

    pub D-square : Nonneg (1# ⊖ x ⊗ x) → (i : ℕ) → Nonneg (1# ⊖ D x i ⊗ D x i)
    D-square h i = elim (above_or_zero (1# ⊖ x ⊗ x) h) [
      | inl k ↦ nonneg_cancel k (product_bound i)
      | inr z ↦ nonneg_≈ (≈-sym (at_zero (square_at_end (one_of z) i))) (nonneg_nat 0)
    ]
      where
        one_of : {a : Frac} → 1# ⊖ a ≈ 0# → a ≈ 1#
        one_of {a} z = combine (a ∷ []) (var 0) 1ₑ (given (con (negsuc 0)) (1ₑ :- var 0) (0ₑ) z ∷ []) tt

        at_zero : {a : Frac} → a ≈ 1# → 1# ⊖ a ≈ 0#
        at_zero {a} z = combine (a ∷ []) (1ₑ :- var 0) (0ₑ) (given (con (negsuc 0)) (var 0) 1ₑ z ∷ []) tt
