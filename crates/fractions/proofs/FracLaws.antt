-- Fractions are a commutative ring up to ≈, so that `ring` proves their equations by evaluation. From the laws of ℤ, by cross multiplication; `ℤ-ring` does the
-- same over ℤ. ⊕ ⊖ ⊗ are operations on fractions: they are exact.
use mathlib.Core.Path.{◌≡◌, refl, sym, ◌∙◌, ap, ap₂}
use mathlib.Core.List.{List, [], ◌∷◌}
use Prim.Native.Nat.{ℕ, suc, ◌+◌, ◌<◌}
use native.Mathlib.Nat.{eq_of_mul-eq-mul_right}
use native.Mathlib.Omega.{arith}
use lib.Dec.{T}
use lib.IntN.{ℤ, pos, ◌+ℤ◌, ◌*ℤ◌, neg_ℤ, +ℤ_comm, +ℤ_assoc, +ℤ_idr, +ℤ_invr, *ℤ_comm, zero-*ℤ}
use Rattle.fractions.proofs.Int.{up, dn, parts, *-parts, *ℤ-assoc, *ℤ-distrib, one_*ℤ}
use Rattle.fractions.proofs.Ring.{Expr, var, con, ◌:+◌, ◌:*◌, ◌:-◌, neg, Laws, norm, vanishes, value, solve, equal_of_difference}
use Rattle.fractions.specs.Frac.{Frac, ◌⊕◌, ◌⊗◌, ◌⊖◌, opp, int, ◌≈◌, ◌over◌}

ℤ-laws : Laws ℤ ◌≡◌ ◌+ℤ◌ ◌*ℤ◌ neg_ℤ (λ k. k)
ℤ-laws = record {
  reflexive = λ a. refl;
  symmetric = λ p. sym p;
  transitive = λ p q. p ∙ q;
  +cong = λ p q. ap₂ ◌+ℤ◌ p q;
  *cong = λ p q. ap₂ ◌*ℤ◌ p q;
  +comm = +ℤ_comm;
  +assoc = +ℤ_assoc;
  +zero = +ℤ_idr;
  +neg = +ℤ_invr;
  *comm = *ℤ_comm;
  *assoc = *ℤ-assoc;
  *one = one_*ℤ;
  *zero = zero-*ℤ;
  distrib = *ℤ-distrib;
  int+ = λ k l. refl;
  int* = λ k l. refl;
}

pub ℤ-ring : (ρ : List ℤ) (a b : Expr) → T (vanishes (norm (a :- b))) → value ℤ ◌≡◌ ◌+ℤ◌ ◌*ℤ◌ neg_ℤ (λ k. k) ρ a ≡ value ℤ ◌≡◌ ◌+ℤ◌ ◌*ℤ◌ neg_ℤ (λ k. k) ρ b
ℤ-ring = solve ℤ ◌≡◌ ◌+ℤ◌ ◌*ℤ◌ neg_ℤ (λ k. k) ℤ-laws

-- a fraction's expression, as the expressions of its numerator and denominator
record Pair : Type 0 where
  n : Expr
  d : Expr

infixl 60 ◌⊞◌
infixl 70 ◌⊠◌
abbrev ◌⊞◌ : Pair → Pair → Pair
p ⊞ q = record { n = p.n :* q.d :+ q.n :* p.d; d = p.d :* q.d }

abbrev ◌⊠◌ : Pair → Pair → Pair
p ⊠ q = record { n = p.n :* q.n; d = p.d :* q.d }

abbrev whole : ℤ → Pair
whole k = record { n = con k; d = con (pos 1) }

abbrev A : Pair
A = record { n = var 0; d = var 1 }

abbrev B : Pair
B = record { n = var 2; d = var 3 }

abbrev C : Pair
C = record { n = var 4; d = var 5 }

-- the left side of p ≈ q; the right side is `left q p`
abbrev left : Pair → Pair → Expr
left p q = p.n :* q.d

abbrev at : Frac → Frac → Frac → Frac → List ℤ
at a b c d = a.num ∷ pos a.den ∷ b.num ∷ pos b.den ∷ c.num ∷ pos c.den ∷ d.num ∷ pos d.den ∷ []

cancel : (k l : ℤ) (d : ℕ) → 0 < d → k *ℤ pos d ≡ l *ℤ pos d → k ≡ l
unfolding up dn
cancel k l d h e = parts k l (eq_of_mul-eq-mul_right d h (up k + dn l) (up l + dn k)
    (omega (arith, *-parts k (pos d), *-parts l (pos d), ap up e, ap dn e)))

pub ≈-refl : (a : Frac) → a ≈ a
≈-refl a = record { cross = refl }

pub ≈-sym : {a b : Frac} → a ≈ b → b ≈ a
≈-sym p = record { cross = sym p.cross }

pub ≈-trans : {a b c : Frac} → a ≈ b → b ≈ c → a ≈ c
≈-trans {a} {b} {c} p q = record {
  cross = cancel _ _ b.den b.positive
      (ℤ-ring (at a b c c) (var 0 :* var 5 :* var 3) ((var 0 :* var 3) :* var 5) tt ∙ ap (λ k. k *ℤ pos c.den) p.cross
      ∙ ℤ-ring (at a b c c) ((var 2 :* var 1) :* var 5) ((var 2 :* var 5) :* var 1) tt ∙ ap (λ k. k *ℤ pos a.den) q.cross
      ∙ ℤ-ring (at a b c c) ((var 4 :* var 3) :* var 1) (var 4 :* var 1 :* var 3) tt);
}

Frac-laws : Laws Frac ◌≈◌ ◌⊕◌ ◌⊗◌ opp int
unfolding ◌⊕◌ ◌⊗◌ opp int
Frac-laws = record {
  reflexive = ≈-refl;
  symmetric = ≈-sym;
  transitive = ≈-trans;
  +cong = λ {a} {b} {c} {d} p q. record {
    cross =
        ℤ-ring (at a b c d)
        ((var 0 :* var 5 :+ var 4 :* var 1) :* (var 3 :* var 7)) ((var 0 :* var 3) :* (var 5 :* var 7) :+ (var 4 :* var 7) :* (var 1 :* var 3)) tt
        ∙ ap₂ (λ k l. k *ℤ (pos c.den *ℤ pos d.den) +ℤ l *ℤ (pos a.den *ℤ pos b.den)) p.cross q.cross
        ∙ ℤ-ring (at a b c d)
        ((var 2 :* var 1) :* (var 5 :* var 7) :+ (var 6 :* var 5) :* (var 1 :* var 3)) ((var 2 :* var 7 :+ var 6 :* var 3) :* (var 1 :* var 5)) tt;
  };
  *cong = λ {a} {b} {c} {d} p q. record {
    cross =
        ℤ-ring (at a b c d)
        ((var 0 :* var 4) :* (var 3 :* var 7)) ((var 0 :* var 3) :* (var 4 :* var 7)) tt
        ∙ ap₂ ◌*ℤ◌ p.cross q.cross
        ∙ ℤ-ring (at a b c d)
        ((var 2 :* var 1) :* (var 6 :* var 5)) ((var 2 :* var 6) :* (var 1 :* var 5)) tt;
  };
  +comm = λ a b. record { cross = ℤ-ring (at a b b b) (left (A ⊞ B) (B ⊞ A)) (left (B ⊞ A) (A ⊞ B)) tt };
  +assoc = λ a b c. record { cross = ℤ-ring (at a b c c) (left (A ⊞ B ⊞ C) (A ⊞ (B ⊞ C))) (left (A ⊞ (B ⊞ C)) (A ⊞ B ⊞ C)) tt };
  +zero = λ a. record { cross = ℤ-ring (at a a a a) (left (A ⊞ whole (pos 0)) A) (left A (A ⊞ whole (pos 0))) tt };
  +neg = λ a. record { cross = ℤ-ring (at a a a a) ((var 0 :* var 1 :+ neg (var 0) :* var 1) :* con (pos 1)) (con (pos 0) :* (var 1 :* var 1)) tt };
  *comm = λ a b. record { cross = ℤ-ring (at a b b b) (left (A ⊠ B) (B ⊠ A)) (left (B ⊠ A) (A ⊠ B)) tt };
  *assoc = λ a b c. record { cross = ℤ-ring (at a b c c) (left (A ⊠ B ⊠ C) (A ⊠ (B ⊠ C))) (left (A ⊠ (B ⊠ C)) (A ⊠ B ⊠ C)) tt };
  *one = λ a. record { cross = ℤ-ring (at a a a a) (left (whole (pos 1) ⊠ A) A) (left A (whole (pos 1) ⊠ A)) tt };
  *zero = λ a. record { cross = ℤ-ring (at a a a a) (left (whole (pos 0) ⊠ A) (whole (pos 0))) (left (whole (pos 0)) (whole (pos 0) ⊠ A)) tt };
  distrib = λ a b c. record { cross = ℤ-ring (at a b c c) (left (A ⊠ (B ⊞ C)) (A ⊠ B ⊞ A ⊠ C)) (left (A ⊠ B ⊞ A ⊠ C) (A ⊠ (B ⊞ C))) tt };
  int+ = λ k l. record { cross = ℤ-ring (k ∷ l ∷ []) ((var 0 :+ var 1) :* con (pos 1)) ((var 0 :* con (pos 1) :+ var 1 :* con (pos 1)) :* con (pos 1)) tt };
  int* = λ k l. record { cross = refl };
}

-- an equation of fractions by evaluation
pub ring : (ρ : List Frac) (a b : Expr) → T (vanishes (norm (a :- b))) → value Frac ◌≈◌ ◌⊕◌ ◌⊗◌ opp int ρ a ≈ value Frac ◌≈◌ ◌⊕◌ ◌⊗◌ opp int ρ b
ring = solve Frac ◌≈◌ ◌⊕◌ ◌⊗◌ opp int Frac-laws

pub ⊕-cong : {a b c d : Frac} → a ≈ b → c ≈ d → a ⊕ c ≈ b ⊕ d
⊕-cong p q = Frac-laws.+cong p q

pub ⊗-cong : {a b c d : Frac} → a ≈ b → c ≈ d → a ⊗ c ≈ b ⊗ d
⊗-cong p q = Frac-laws.*cong p q

pub int_+ : (k l : ℤ) → int (k +ℤ l) ≈ int k ⊕ int l
int_+ k l = Frac-laws.int+ k l

pub int_* : (k l : ℤ) → int (k *ℤ l) ≈ int k ⊗ int l
int_* k l = Frac-laws.int* k l

-- (n + 1) · m/(n + 1) is m
pub over_is : (m n : ℕ) → int (pos (suc n)) ⊗ m over n ≈ int (pos m)
unfolding int ◌⊗◌ ◌over◌
over_is m n = record { cross = ℤ-ring (pos m ∷ pos (suc n) ∷ []) (var 1 :* var 0 :* con (pos 1)) (var 0 :* (con (pos 1) :* var 1)) tt }

pub equal : {a b : Frac} → a ⊖ b ≈ int (pos 0) → a ≈ b
equal {a} {b} h = equal_of_difference Frac ◌≈◌ ◌⊕◌ ◌⊗◌ opp int Frac-laws a b h
