-- Equations of natural numbers by evaluation, from those of ℤ: for the products that are too long for `omega`.
use mathlib.Core.Path.{◌≡◌, refl, sym, ◌∙◌, ap, ap₂}
use mathlib.Core.List.{List, [], ◌∷◌}
use Prim.Native.Nat.{ℕ, zero, suc, ◌+◌, ◌*◌}
use native.Mathlib.Omega.{arith}
use lib.Dec.{T}
use lib.IntN.{ℤ, pos, ◌+ℤ◌, ◌*ℤ◌, neg_ℤ, nat_abs}
use Rattle.fractions.proofs.Ring.{Expr, var, con, ◌:+◌, ◌:*◌, ◌:-◌, norm, vanishes, value, look}
use Rattle.fractions.proofs.FracLaws.{ℤ-ring}

infixl 60 ◌+ₙ◌
infixl 70 ◌*ₙ◌
pub data Nat : Type 0 where
  vₙ : ℕ → Nat
  cₙ : ℕ → Nat
  sₙ : Nat → Nat
  ◌+ₙ◌ : Nat → Nat → Nat
  ◌*ₙ◌ : Nat → Nat → Nat

abbrev pub find : List ℕ → ℕ → ℕ
find [] i = 0
find (n ∷ ρ) zero = n
find (n ∷ ρ) (suc i) = find ρ i

abbrev pub number : List ℕ → Nat → ℕ
number ρ (vₙ i) = find ρ i
number ρ (cₙ n) = n
number ρ (sₙ a) = suc (number ρ a)
number ρ (a +ₙ b) = number ρ a + number ρ b
number ρ (a *ₙ b) = number ρ a * number ρ b

abbrev pub expr : Nat → Expr
expr (vₙ i) = var i
expr (cₙ n) = con (pos n)
expr (sₙ a) = con (pos 1) :+ expr a
expr (a +ₙ b) = expr a :+ expr b
expr (a *ₙ b) = expr a :* expr b

abbrev whole : List ℕ → List ℤ
whole [] = []
whole (n ∷ ρ) = pos n ∷ whole ρ

abbrev at : List ℕ → Expr → ℤ
at ρ a = value ℤ ◌≡◌ ◌+ℤ◌ ◌*ℤ◌ neg_ℤ (λ k. k) (whole ρ) a

find_is : (ρ : List ℕ) (i : ℕ) → look ℤ ◌≡◌ ◌+ℤ◌ ◌*ℤ◌ neg_ℤ (λ k. k) (whole ρ) i ≡ pos (find ρ i)
find_is [] i = refl
find_is (n ∷ ρ) zero = refl
find_is (n ∷ ρ) (suc i) = find_is ρ i

number_is : (ρ : List ℕ) (a : Nat) → at ρ (expr a) ≡ pos (number ρ a)
number_is ρ (vₙ i) = find_is ρ i
number_is ρ (cₙ n) = refl
number_is ρ (sₙ a) = ap (λ k. pos 1 +ℤ k) (number_is ρ a) ∙ ap pos (omega arith)
number_is ρ (a +ₙ b) = ap₂ ◌+ℤ◌ (number_is ρ a) (number_is ρ b)
number_is ρ (a *ₙ b) = ap₂ ◌*ℤ◌ (number_is ρ a) (number_is ρ b)

pub ℕ-ring : (ρ : List ℕ) (a b : Nat) → T (vanishes (norm (expr a :- expr b))) → number ρ a ≡ number ρ b
ℕ-ring ρ a b t = ap nat_abs (sym (number_is ρ a) ∙ ℤ-ring (whole ρ) (expr a) (expr b) t ∙ number_is ρ b)
