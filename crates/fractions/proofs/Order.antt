-- The order of fractions, by the signs of numerators: sums, products and squares that are not negative, and a ≼ b as b − a not negative.
-- ⊕ ⊖ ⊗ are operations on fractions: they are exact.
use mathlib.Core.Path.{◌≡◌, refl, sym, ◌∙◌, ap, subst}
use mathlib.Core.List.{[], ◌∷◌}
use mathlib.Core.Logic.{◌⊎◌, inl, inr}
use Prim.Native.Nat.{ℕ, zero, suc, ◌+◌, ◌*◌, ◌<◌}
use native.Mathlib.Omega.{arith}
use lib.IntN.{ℤ, pos, negsuc, ◌+ℤ◌, ◌*ℤ◌, neg_ℤ, *ℤ_comm, zero-*ℤ}
use Rattle.fractions.proofs.Ring.{var, ◌:+◌, ◌:*◌, ◌:-◌, neg}
use Rattle.fractions.specs.Frac.{Frac, ◌⊕◌, ◌⊗◌, ◌⊖◌, opp, int, ◌≈◌, ◌≼◌, NotNegative}
use Rattle.fractions.proofs.FracLaws.{ring, ℤ-ring}
use Rattle.fractions.proofs.Combine.{0#, 1#, 1ₑ, 2ₑ}

unfoldable pub Positive : ℤ → Type 0
Positive (pos zero) = ⊥
Positive (pos (suc n)) = Unit {0}
Positive (negsuc n) = ⊥

pub record Nonneg (a : Frac) : Type 0 where
  pub sign : NotNegative a.num

pub record Above (a : Frac) : Type 0 where
  pub sign⁺ : Positive a.num

nn_+ : (k l : ℤ) → NotNegative k → NotNegative l → NotNegative (k +ℤ l)
unfolding NotNegative
nn_+ (pos a) (pos b) h k = tt
nn_+ (pos a) (negsuc b) h k = absurd k
nn_+ (negsuc a) l h k = absurd h

nn_* : (k l : ℤ) → NotNegative k → NotNegative l → NotNegative (k *ℤ l)
unfolding NotNegative
nn_* (pos a) (pos b) h k = tt
nn_* (pos a) (negsuc b) h k = absurd k
nn_* (negsuc a) l h k = absurd h

nn_sq : (k : ℤ) → NotNegative (k *ℤ k)
unfolding NotNegative
nn_sq (pos a) = tt
nn_sq (negsuc a) = tt

-- a positive factor leaves the sign
pos_cancel : (k l : ℤ) → Positive k → NotNegative (k *ℤ l) → NotNegative l
unfolding Positive NotNegative
pos_cancel (pos zero) l h k = absurd h
pos_cancel (pos (suc a)) (pos b) h k = tt
pos_cancel (pos (suc a)) (negsuc b) h k = subst (λ (n : ℕ). NotNegative (neg_ℤ (pos n))) (let e : suc a * suc b ≡ suc (a * b + a + b) = omega arith in e) k
pos_cancel (negsuc a) l h k = absurd h

pos_den : (a : Frac) → Positive (pos a.den)
unfolding Positive
pos_den a = go a.den a.positive
  where
    go : (n : ℕ) → 0 < n → Positive (pos n)
    go zero h = absurd (omega arith)
    go (suc n) h = tt

nn_pos : (k : ℤ) → Positive k → NotNegative k
unfolding Positive NotNegative
nn_pos (pos n) h = tt
nn_pos (negsuc n) h = h

pos_or_zero : (k : ℤ) → NotNegative k → Positive k ⊎ (k ≡ pos 0)
unfolding Positive NotNegative
pos_or_zero (pos zero) h = inr refl
pos_or_zero (pos (suc n)) h = inl tt
pos_or_zero (negsuc n) h = absurd h

pub nonneg_≈ : {a b : Frac} → a ≈ b → Nonneg a → Nonneg b
nonneg_≈ {a} {b} p h = record {
  sign = pos_cancel (pos a.den) b.num (pos_den a)
      (subst NotNegative (p.cross ∙ *ℤ_comm b.num (pos a.den)) (nn_* a.num (pos b.den) h.sign (nn_pos _ (pos_den b))));
}

pub nonneg_+ : {a b : Frac} → Nonneg a → Nonneg b → Nonneg (a ⊕ b)
unfolding ◌⊕◌
nonneg_+ {a} {b} h k = record { sign = nn_+ _ _ (nn_* _ _ h.sign (nn_pos _ (pos_den b))) (nn_* _ _ k.sign (nn_pos _ (pos_den a))) }

pub nonneg_* : {a b : Frac} → Nonneg a → Nonneg b → Nonneg (a ⊗ b)
unfolding ◌⊗◌
nonneg_* h k = record { sign = nn_* _ _ h.sign k.sign }

pub nonneg_square : (a : Frac) → Nonneg (a ⊗ a)
unfolding ◌⊗◌
nonneg_square a = record { sign = nn_sq a.num }

pub nonneg_nat : (n : ℕ) → Nonneg (int (pos n))
unfolding int NotNegative
nonneg_nat n = record { sign = tt }

pub above_nat : (n : ℕ) → Above (int (pos (suc n)))
unfolding int Positive
above_nat n = record { sign⁺ = tt }

pub nonneg_cancel : {c a : Frac} → Above c → Nonneg (c ⊗ a) → Nonneg a
unfolding ◌⊗◌
nonneg_cancel {c} {a} h k = record { sign = pos_cancel c.num a.num h.sign⁺ k.sign }

pub nonneg_above : {a : Frac} → Above a → Nonneg a
nonneg_above h = record { sign = nn_pos _ h.sign⁺ }

pub above_or_zero : (a : Frac) → Nonneg a → Above a ⊎ (a ≈ 0#)
unfolding int
above_or_zero a h = elim (pos_or_zero a.num h.sign)
    [ inl k ↦ inl (record { sign⁺ = k }) | inr e ↦ inr (record { cross = ap (λ k. k *ℤ pos 1) e ∙ sym (zero-*ℤ (pos a.den)) }) ]

pub ≼-of : {a b : Frac} → Nonneg (b ⊖ a) → a ≼ b
unfolding ◌⊕◌ opp
≼-of {a} {b} h = record {
  below = subst NotNegative
      (ℤ-ring (a.num ∷ pos a.den ∷ b.num ∷ pos b.den ∷ []) (var 2 :* var 1 :+ neg (var 0) :* var 3) (var 2 :* var 1 :- var 0 :* var 3) tt) h.sign;
}

pub of_≼ : {a b : Frac} → a ≼ b → Nonneg (b ⊖ a)
unfolding ◌⊕◌ opp
of_≼ {a} {b} h = record {
  sign = subst NotNegative
      (ℤ-ring (a.num ∷ pos a.den ∷ b.num ∷ pos b.den ∷ []) (var 2 :* var 1 :- var 0 :* var 3) (var 2 :* var 1 :+ neg (var 0) :* var 3) tt) h.below;
}

-- ---- a number whose square is at most 1

pub at_most_one : (v : Frac) → Nonneg (1# ⊖ v ⊗ v) → Nonneg (1# ⊖ v)
at_most_one v h = nonneg_cancel (above_nat 1) (nonneg_≈ (ring (v ∷ []) ((1ₑ :- var 0 :* var 0) :+ (1ₑ :- var 0) :* (1ₑ :- var 0)) (2ₑ :* (1ₑ :- var 0)) tt)
    (nonneg_+ h (nonneg_square (1# ⊖ v))))

pub at_least_minus_one : (v : Frac) → Nonneg (1# ⊖ v ⊗ v) → Nonneg (1# ⊕ v)
at_least_minus_one v h = nonneg_cancel (above_nat 1)
    (nonneg_≈ (ring (v ∷ []) ((1ₑ :- var 0 :* var 0) :+ (1ₑ :+ var 0) :* (1ₑ :+ var 0)) (2ₑ :* (1ₑ :+ var 0)) tt)
    (nonneg_+ h (nonneg_square (1# ⊕ v))))
