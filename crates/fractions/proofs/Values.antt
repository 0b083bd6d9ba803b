-- Fractions by whole numbers: `Is a m n` says that a is m / n. From it products, equality, signs and bounds by arithmetic of whole numbers.
-- ⊕ ⊖ ⊗ ⊘ are operations on fractions: they are exact.
use mathlib.Core.Path.{◌≡◌, subst}
use mathlib.Core.List.{[], ◌∷◌}
use Prim.Native.Nat.{ℕ, zero, suc, ◌+◌, ◌*◌, ◌-◌, ◌≤◌, ◌<◌}
use native.Mathlib.Nat.{one-le-mul}
use native.Mathlib.Omega.{arith}
use lib.IntN.{ℤ, pos, negsuc}
use Rattle.fractions.proofs.Ring.{var, con, ◌:+◌, ◌:*◌, ◌:-◌, neg}
use Rattle.fractions.specs.Frac.{Frac, ◌⊕◌, ◌⊗◌, ◌⊖◌, int, ◌≈◌, ◌over◌, frac, ◌⊘◌, inverse_of}
use Rattle.fractions.proofs.FracLaws.{ring, ≈-refl, ≈-sym, int_+, int_*, over_is, ℤ-ring}
use Rattle.fractions.proofs.Combine.{1#, 1ₑ, given, combine}
use Rattle.fractions.proofs.Order.{Nonneg, Above, nonneg_≈, nonneg_nat, above_nat, nonneg_cancel, Positive}

abbrev pub nat : ℕ → Frac
nat n = int (pos n)

pub nat_+ : (m n : ℕ) → nat (m + n) ≈ nat m ⊕ nat n
nat_+ m n = int_+ (pos m) (pos n)

pub nat_* : (m n : ℕ) → nat (m * n) ≈ nat m ⊗ nat n
nat_* m n = int_* (pos m) (pos n)

pub nat_is : (m n : ℕ) → m ≡ n → nat m ≈ nat n
nat_is m n p = subst (λ (k : ℕ). nat m ≈ nat k) p (≈-refl (nat m))

pub record Is (a : Frac) (m n : ℕ) : Type 0 where
  pub bottom : 0 < n
  pub value : nat n ⊗ a ≈ nat m

-- a positive number's factor can be taken off both sides
pub cancel_nat : (n : ℕ) → 0 < n → {a b : Frac} → nat n ⊗ a ≈ nat n ⊗ b → a ≈ b
cancel_nat zero h p = absurd (omega arith)
cancel_nat (suc n) h {a} {b} p = combine (nat (suc n) ∷ a ∷ b ∷ 1 over n ∷ [])
    (var 1) (var 2)
    (given (var 3) (var 0 :* var 1) (var 0 :* var 2) p
    ∷ given (var 2 :- var 1) (var 0 :* var 3) (1ₑ) (over_is 1 n)
    ∷ []) tt

pub is_nat : (m : ℕ) → Is (nat m) m 1
is_nat m = record { bottom = omega arith; value = ring (nat m ∷ []) (1ₑ :* var 0) (var 0) tt }

pub is_frac : (m n : ℕ) → 0 < n → Is (frac m n) m n
unfolding frac
is_frac m zero h = absurd (omega arith)
is_frac m (suc n) h = record { bottom = h; value = over_is m n }

pub is_* : {a b : Frac} {m n p q : ℕ} → Is a m n → Is b p q → Is (a ⊗ b) (m * p) (n * q)
is_* {a} {b} {m} {n} {p} {q} h k = record {
  bottom = one-le-mul h.bottom k.bottom;
  value =
      combine (a ∷ b ∷ nat n ∷ nat q ∷ nat m ∷ nat p ∷ nat (n * q) ∷ nat (m * p) ∷ [])
      (var 6 :* (var 0 :* var 1)) (var 7)
      (given (var 0 :* var 1) (var 6) (var 2 :* var 3) (nat_* n q)
      ∷ given (var 3 :* var 1) (var 2 :* var 0) (var 4) h.value
      ∷ given (var 4) (var 3 :* var 1) (var 5) k.value
      ∷ given (con (negsuc 0)) (var 7) (var 4 :* var 5) (nat_* m p)
      ∷ []) tt;
}

pub is_same : {a b : Frac} {m n p q : ℕ} → Is a m n → Is b p q → m * q ≡ p * n → a ≈ b
is_same {a} {b} {m} {n} {p} {q} h k e = cancel_nat n h.bottom (cancel_nat q k.bottom
    (combine (a ∷ b ∷ nat m ∷ nat n ∷ nat p ∷ nat q ∷ nat (m * q) ∷ nat (p * n) ∷ [])
    (var 5 :* (var 3 :* var 0)) (var 5 :* (var 3 :* var 1))
    (given (var 5) (var 3 :* var 0) (var 2) h.value
    ∷ given (neg (var 3)) (var 5 :* var 1) (var 4) k.value
    ∷ given (con (negsuc 0)) (var 6) (var 2 :* var 5) (nat_* m q)
    ∷ given (1ₑ) (var 6) (var 7) (nat_is (m * q) (p * n) e)
    ∷ given (1ₑ) (var 7) (var 4 :* var 3) (nat_* p n)
    ∷ []) tt))

pub is_at_most_one : {a : Frac} {m n : ℕ} → Is a m n → m ≤ n → Nonneg (1# ⊖ a)
is_at_most_one {a} {m} {n} h e = go n h e
  where
    go : (n : ℕ) → Is a m n → m ≤ n → Nonneg (1# ⊖ a)
    go zero h e = absurd (let p = h.bottom in omega arith)
    go (suc n) h e = nonneg_cancel (above_nat n) (nonneg_≈ (combine (a ∷ nat m ∷ nat (suc n) ∷ nat (suc n - m) ∷ nat (m + (suc n - m)) ∷ [])
        (var 3) (var 2 :* (1ₑ :- var 0))
        (given (1ₑ) (var 4) (var 2) (nat_is (m + (suc n - m)) (suc n) (omega arith))
        ∷ given (con (negsuc 0)) (var 4) (var 1 :+ var 3) (nat_+ m (suc n - m))
        ∷ given (1ₑ) (var 2 :* var 0) (var 1) h.value
        ∷ []) tt) (nonneg_nat (suc n - m)))

pub is_nonneg : {a : Frac} {m n : ℕ} → Is a m n → Nonneg a
is_nonneg {a} {m} {n} h = go n h
  where
    go : (n : ℕ) → Is a m n → Nonneg a
    go zero h = absurd (let p = h.bottom in omega arith)
    go (suc n) h = nonneg_cancel (above_nat n) (nonneg_≈ (≈-sym h.value) (nonneg_nat m))

-- a / b times b, where b is above 0
pub divided : (a b : Frac) → Above b → (a ⊘ b) ⊗ b ≈ a
unfolding ◌⊘◌ inverse_of Positive ◌⊗◌ ◌over◌
divided a b h = go b.num b.den b.positive h.sign⁺
  where
    go : (k : ℤ) (d : ℕ) (p : 0 < d) → Positive k → (a ⊗ inverse_of k d) ⊗ record { num = k; den = d; positive = p } ≈ a
    go (pos zero) d p h = absurd h
    go (pos (suc n)) d p h = record {
      cross = ℤ-ring (a.num ∷ pos a.den ∷ pos (suc n) ∷ pos d ∷ []) (var 0 :* var 3 :* var 2 :* var 1)
          (var 0 :* (var 1 :* var 2 :* var 3)) tt;
    }
    go (negsuc n) d p h = absurd h

pub record Fits (a : Frac) : Type 0 where
  pub low : Nonneg a
  pub high : Nonneg (1# ⊖ a)

pub fits : {a : Frac} {m n : ℕ} → Is a m n → m ≤ n → Fits a
fits h e = record { low = is_nonneg h; high = is_at_most_one h e }

pub above_frac : (m n : ℕ) → 0 < m → 0 < n → Above (frac m n)
unfolding frac Positive ◌over◌
above_frac zero n h k = absurd (omega arith)
above_frac (suc m) zero h k = absurd (omega arith)
above_frac (suc m) (suc n) h k = record { sign⁺ = tt }

pub is_nat≡ : (m : ℕ) {m' : ℕ} → m ≡ m' → Is (nat m) m' 1
is_nat≡ m p = subst (λ (k : ℕ). Is (nat m) k 1) p (is_nat m)

pub is_quotient : (m n : ℕ) {m' n' : ℕ} → m ≡ m' → n ≡ n' → 0 < n → Is (frac m n) m' n'
is_quotient m n {m'} {n'} p q h = subst (λ (k : ℕ). Is (frac m n) k n') p (subst (λ (k : ℕ). Is (frac m n) m k) q (is_frac m n h))
