-- Entries and length of sums and multiples of lists, and a polynomial's value at a number: all linear. ⊕ ⊗ are operations on fractions: they are exact.
use mathlib.Core.Path.{◌≡◌, refl, sym, ◌∙◌, ap}
use mathlib.Core.List.{List, [], ◌∷◌}
use lib.ListN.{length}
use Prim.Native.Nat.{ℕ, zero, suc}
use native.Mathlib.Omega.{arith}
use Rattle.fractions.specs.Frac.{Frac, ◌⊕◌, ◌⊗◌, ◌≈◌}
use Rattle.fractions.specs.Lists.{nth, ◌⊞◌, ◌·◌, ◌≋◌}
use Rattle.fractions.specs.Polynomial.{eval, times_variable}
use Rattle.fractions.proofs.Ring.{var, ◌:+◌, ◌:*◌}
use Rattle.fractions.proofs.FracLaws.{ring, ≈-refl}
use Rattle.fractions.proofs.Combine.{0ₑ, given, combine}

pub nth_⊞ : (p q : List Frac) (k : ℕ) → nth (p ⊞ q) k ≈ nth p k ⊕ nth q k
unfolding nth ◌⊞◌
nth_⊞ [] q k = ring (nth q k ∷ []) (var 0) (0ₑ :+ var 0) tt
nth_⊞ (a ∷ p) [] k = ring (nth (a ∷ p) k ∷ []) (var 0) (var 0 :+ 0ₑ) tt
nth_⊞ (a ∷ p) (b ∷ q) zero = ≈-refl _
nth_⊞ (a ∷ p) (b ∷ q) (suc k) = nth_⊞ p q k

pub nth_· : (c : Frac) (p : List Frac) (k : ℕ) → nth (c · p) k ≈ c ⊗ nth p k
unfolding nth ◌·◌
nth_· c [] k = ring (c ∷ []) 0ₑ (var 0 :* 0ₑ) tt
nth_· c (a ∷ p) zero = ≈-refl _
nth_· c (a ∷ p) (suc k) = nth_· c p k

length_⊞ : (p q : List Frac) → length p ≡ length q → length (p ⊞ q) ≡ length p
unfolding ◌⊞◌
length_⊞ [] q h = sym h
length_⊞ (a ∷ p) [] h = refl
length_⊞ (a ∷ p) (b ∷ q) h = ap suc (length_⊞ p q (omega arith))

pub length_· : (c : Frac) (p : List Frac) → length (c · p) ≡ length p
unfolding ◌·◌
length_· c [] = refl
length_· c (a ∷ p) = ap suc (length_· c p)

pub record Long (n : ℕ) (p : List Frac) : Type 0 where
  pub is : length p ≡ n

pub long_⊞ : {n : ℕ} {p q : List Frac} → Long n p → Long n q → Long n (p ⊞ q)
long_⊞ {p} {q} h k = record { is = length_⊞ p q (h.is ∙ sym k.is) ∙ h.is }

pub long_· : {n : ℕ} {p : List Frac} (c : Frac) → Long n p → Long n (c · p)
long_· {p} c h = record { is = length_· c p ∙ h.is }

pub ≋-nil : [] ≋ []
≋-nil = record { lengths = refl; entries = λ k. ≈-refl _ }

infixr 45 ◌≋∷◌
pub ◌≋∷◌ : {a b : Frac} {p q : List Frac} → a ≈ b → p ≋ q → (a ∷ p) ≋ (b ∷ q)
unfolding nth
◌≋∷◌ {a} {b} {p} {q} h t = record { lengths = ap suc t.lengths; entries = go }
  where
    go : (k : ℕ) → nth (a ∷ p) k ≈ nth (b ∷ q) k
    go zero = h
    go (suc k) = t.entries k

pub eval_⊞ : (p q : List Frac) (z : Frac) → eval (p ⊞ q) z ≈ eval p z ⊕ eval q z
unfolding eval ◌⊞◌
eval_⊞ [] q z = ring (eval q z ∷ []) (var 0) (0ₑ :+ var 0) tt
eval_⊞ (a ∷ p) [] z = ring ((a ⊕ z ⊗ eval p z) ∷ []) (var 0) (var 0 :+ 0ₑ) tt
eval_⊞ (a ∷ p) (b ∷ q) z = combine (a ∷ b ∷ z ∷ eval p z ∷ eval q z ∷ eval (p ⊞ q) z ∷ [])
    (var 0 :+ var 1 :+ var 2 :* var 5) (var 0 :+ var 2 :* var 3 :+ (var 1 :+ var 2 :* var 4))
    (given (var 2) (var 5) (var 3 :+ var 4) (eval_⊞ p q z)
    ∷ []) tt

pub eval_· : (c : Frac) (p : List Frac) (z : Frac) → eval (c · p) z ≈ c ⊗ eval p z
unfolding eval ◌·◌
eval_· c [] z = ring (c ∷ []) 0ₑ (var 0 :* 0ₑ) tt
eval_· c (a ∷ p) z = combine (c ∷ a ∷ z ∷ eval p z ∷ eval (c · p) z ∷ [])
    (var 0 :* var 1 :+ var 2 :* var 4) (var 0 :* (var 1 :+ var 2 :* var 3))
    (given (var 2) (var 4) (var 0 :* var 3) (eval_· c p z)
    ∷ []) tt

pub eval_times : (p : List Frac) (z : Frac) → eval (times_variable p) z ≈ z ⊗ eval p z
unfolding eval times_variable
eval_times p z = ring (z ∷ eval p z ∷ []) (0ₑ :+ var 0 :* var 1) (var 0 :* var 1) tt
