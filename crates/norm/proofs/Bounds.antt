-- Bounds of what is rounded: a fraction up to p / q, where p / q is a double, rounds to a double up to p / q (`round_upto`). So the second sum's parts are
-- bounded: a lowered entry by 2 ^ 504, its square by 2 ^ 1008, and k of them by k × 2 ^ 1008 (`second_upto`). Assumes nothing. ⊕ is an operation on doubles:
-- it rounds.
use mathlib.Core.Path.{◌≡◌, refl, sym, ap, ap₂, ◌∙◌, subst}
use mathlib.Core.Bool.{Bool, true, false, cond}
use mathlib.Core.List.{List, [], ◌∷◌, foldl, map}
use Prim.Native.Nat.{ℕ, zero, suc, ◌+◌, ◌*◌, ◌^◌, ◌≤◌, ◌<◌}
use native.Mathlib.Nat.{le_trans, le_of_eq, le_of_lt, lt_of_lt_of_le, mul-pos, mul-le-mul, mul-le-mul_right, add-le-add, le_of_mul-le-mul_right}
use native.Mathlib.Nat.{mul_assoc, mul_comm, mul_left_comm, mul_right_comm, mul-one, one-mul, add-mul, suc-mul, mul-lt-mul_of_pos_right, add-zero, zero-add}
use native.Mathlib.Omega.{arith}
use lib.Dec.{T, ltb, lit<}
use lib.IntN.{ℤ, pos}
use lib.ListN.{length}
use lib.Pow.{pow-add, pow_pos}
use lib.Ieee.{Float, nan, inf, fin, binary64, prec, emax, low, up, down, unlike, odd, units, round, sum, add, mul, le, fits}
use lib.Ieee.Fits.{down_pos, and_l, and_r, round_is}
use lib.Ieee.Exact.{HasValue, round_exact}
use lib.Ieee.Order.{round_mono}
use lib.Ieee.Scale.{finite}
use Rattle.ieee.specs.Double.{◌⊕◌, nought, square}
use Rattle.ieee.proofs.Value.{says}
use Rattle.ieee.proofs.Monotone.{NonNeg, infinite, number, round_nonneg, cross}
use Rattle.norm.specs.Norm.{sum_of_squares, all_finite, lowered}
use Rattle.norm.specs.Infinite.{Doubles, second_sum}

-- ---- a number from 0 to p / q
pub data Upto (p q : ℕ) : Float → Type 0 where
  up_to : (m : ℕ) (e : ℤ) → m * up e * q ≤ p * down e → Upto p q (fin false m e)

pub upto_finite : {p q : ℕ} {x : Float} → Upto p q x → T (finite x)
upto_finite (up_to m e h) = tt

pub upto_nonneg : {p q : ℕ} {x : Float} → Upto p q x → NonNeg x
upto_nonneg (up_to m e h) = number m e

-- p / q is a double: rounding leaves it
abbrev pub Kept : ℕ → ℕ → Type 0
Kept p q = HasValue (round binary64 false p q) false p q

pub round_upto : (a b p q : ℕ) → 0 < b → 0 < q → Kept p q → a * q ≤ p * b → Upto p q (round binary64 false a b)
round_upto a b p q B Q k h =
    go (round binary64 false a b) (round_nonneg binary64 a b) (round binary64 false p q) k (round_mono binary64 a b p q B Q h)
  where
    go : (x : Float) → NonNeg x → (y : Float) → HasValue y false p q → T (le x y) → Upto p q x
    go x n nan v l = absurd v
    go x n (inf t) v l = absurd v
    go x infinite (fin t r c) v l = absurd (unfold le in l)
    go x (number m e) (fin true r c) v l = absurd (differs v.0)
      where
        differs : true ≡ false → ⊥
        differs e = subst (λ (b : Bool). T b) e tt
    go x (number m e) (fin false r c) v l = up_to m e (le_of_mul-le-mul_right
        (le_trans (le_of_eq (mul_right_comm (m * up e) q (down c)))
        (le_trans (mul-le-mul_right q (cross m e r c l))
        (le_trans (le_of_eq (mul_right_comm (r * up c) (down e) q ∙ ap (λ (z : ℕ). z * down e) v.1))
        (le_of_eq (mul_right_comm p (down c) (down e)))))) (down_pos c))

-- k × 2 ^ 1008 is a double for k below 2 ^ 16
pub kept_multiple : (k : ℕ) → k < 2 ^ 16 → Kept (k * 2 ^ 1008) 1
kept_multiple k h =
    round_exact binary64 false (k * 2 ^ 1008) 1 k 2082 (lit< tt) (lt_of_lt_of_le h (le_of_lt (lit< tt)))
    (lt_of_lt_of_le (mul-lt-mul_of_pos_right h (pow_pos 2082)) (le_of_eq (sym (pow-add 2 16 2082))))
    (mul_assoc k (2 ^ 1008) (2 ^ 1074) ∙ ap (λ (z : ℕ). k * z) (sym (pow-add 2 1008 1074)) ∙ sym (mul-one (k * 2 ^ 2082)))

-- ---- a lowered entry, whatever its sign

-- a size up to p / q
pub data SizedUpto (p q : ℕ) : Float → Type 0 where
  sized_up_to : (s : Bool) (m : ℕ) (e : ℤ) → m * up e * q ≤ p * down e → SizedUpto p q (fin s m e)

-- rounding treats both signs alike
units_sized : (p q : ℕ) (s : Bool) (r k : ℕ) → Upto p q (units binary64 false r k) → SizedUpto p q (units binary64 s r k)
unfolding units odd
units_sized p q s r k = go r (ltb (r * 2 ^ k) (2 ^ (low binary64 + suc (emax binary64))))
  where
    go : (r : ℕ) (b : Bool) → Upto p q (cond b (odd (suc (prec binary64)) false r k (low binary64)) (inf false))
        → SizedUpto p q (cond b (odd (suc (prec binary64)) s r k (low binary64)) (inf s))
    go zero true (up_to m e h) = sized_up_to s m e h
    go (suc r) true (up_to m e h) = sized_up_to s m e h
    go zero false x'' = elim x'' [ ]
    go (suc r) false x3 = elim x3 [ ]

round_sized : (s : Bool) (a b p q : ℕ) → 0 < b → 0 < q → Kept p q → a * q ≤ p * b → SizedUpto p q (round binary64 s a b)
round_sized s a b p q B Q k h =
    subst (SizedUpto p q) (sym (round_is binary64 s a b)) (units_sized p q s _ _
    (subst (Upto p q) (round_is binary64 false a b) (round_upto a b p q B Q k h)))

kept_504 : Kept (2 ^ 504) 1
kept_504 = round_exact binary64 false (2 ^ 504) 1 1 1578 (lit< tt) (lit< tt) (lit< tt) (sym (pow-add 2 504 1074) ∙ simp (mul-one, one-mul))

pub below_top : (s : Bool) (m : ℕ) (e : ℤ) → T (fits binary64 (fin s m e)) → m * up e ≤ 2 ^ 1024 * down e
below_top s zero e h = go (up e) (2 ^ 1024 * down e)
  where
    go : (u w : ℕ) → 0 * u ≤ w
    go u w = omega arith
below_top s (suc m) e h = le_of_lt (says s m e h).2

lowered_upto : (x : Float) → T (fits binary64 x) → T (finite x) → SizedUpto (2 ^ 504) 1 (lowered x)
unfolding lowered mul
lowered_upto (fin s m e) f t =
    round_sized (unlike s false) (m * up e * (1 * 1)) (down e * 2 ^ 520) (2 ^ 504) 1 (mul-pos (down_pos e) (pow_pos 520)) (lit< tt) kept_504
    (go (m * up e) (down e) (2 ^ 504) (2 ^ 520) (2 ^ 1024) (pow-add 2 504 520) (below_top s m e f))
  where
    go : (a d P Q R : ℕ) → R ≡ P * Q → a ≤ R * d → a * (1 * 1) * 1 ≤ P * (d * Q)
    go a d P Q R e h =
        le_trans (le_of_eq (simp (mul-one))) (le_trans h (le_of_eq (ap (λ (z : ℕ). z * d) e ∙ simp (mul_assoc, mul_comm, mul_left_comm))))
lowered_upto nan f t = elim t [ ]
lowered_upto (inf _) f t = elim t [ ]

-- ---- its square, and the sum

kept_one : Kept (1 * 2 ^ 1008) 1
kept_one = kept_multiple 1 (lit< tt)

alike : (s : Bool) → unlike s s ≡ false
alike true = refl
alike false = refl

square_upto : (y : Float) → SizedUpto (2 ^ 504) 1 y → Upto (1 * 2 ^ 1008) 1 (square y)
unfolding square mul
square_upto y (sized_up_to s m e h) =
    subst (λ (t : Bool). Upto (1 * 2 ^ 1008) 1 (round binary64 t (m * up e * (m * up e)) (down e * down e))) (sym (alike s))
    (round_upto (m * up e * (m * up e)) (down e * down e) (1 * 2 ^ 1008) 1 (mul-pos (down_pos e) (down_pos e)) (lit< tt) kept_one
    (go (m * up e) (down e) (2 ^ 504) (2 ^ 1008) (pow-add 2 504 504) h))
  where
    go : (a d P Q : ℕ) → Q ≡ P * P → a * 1 ≤ P * d → a * a * 1 ≤ 1 * Q * (d * d)
    go a d P Q e h =
        le_trans (le_of_eq (simp (mul-one)))
        (le_trans (mul-le-mul (le_trans (le_of_eq (sym (mul-one a))) h) (le_trans (le_of_eq (sym (mul-one a))) h))
        (le_of_eq (sym (ap (λ (z : ℕ). 1 * z * (d * d)) e ∙ ap (λ (z : ℕ). z * (d * d)) (one-mul (P * P)) ∙ simp (mul_assoc, mul_comm, mul_left_comm)))))

plus_upto : (k : ℕ) (t y : Float) → suc k < 2 ^ 16 → Upto (k * 2 ^ 1008) 1 t → Upto (1 * 2 ^ 1008) 1 y → Upto (suc k * 2 ^ 1008) 1 (t ⊕ y)
unfolding add sum
plus_upto k t y h (up_to m e a) (up_to n d b) =
    round_upto (m * up e * down d + n * up d * down e) (down e * down d) (suc k * 2 ^ 1008) 1 (mul-pos (down_pos e) (down_pos d)) (lit< tt)
    (kept_multiple (suc k) h) (go k (m * up e) (n * up d) (down e) (down d) (2 ^ 1008) a b)
  where
    go : (k x y d c P : ℕ) → x * 1 ≤ k * P * d → y * 1 ≤ 1 * P * c → (x * c + y * d) * 1 ≤ suc k * P * (d * c)
    go k x y d c P a b =
        le_trans (le_of_eq (mul-one (x * c + y * d)))
        (le_trans (add-le-add (mul-le-mul_right c (le_trans (le_of_eq (sym (mul-one x))) a)) (mul-le-mul_right d (le_trans (le_of_eq (sym (mul-one y))) b)))
        (le_of_eq (both k d c P)))
      where
        both : (k d c P : ℕ) → k * P * d * c + 1 * P * c * d ≡ suc k * P * (d * c)
        both k d c P = sym (ap (λ (z : ℕ). z * (d * c)) (suc-mul k P) ∙ add-mul (k * P) P (d * c)
            ∙ ap₂ ◌+◌ (sym (mul_assoc (k * P) d c)) (simp (one-mul, mul_assoc, mul_comm, mul_left_comm)))

folded_upto : (xs : List Float) (k : ℕ) (t : Float) → Doubles xs → T (all_finite xs) → k + length xs < 2 ^ 16 → Upto (k * 2 ^ 1008) 1 t
    → Upto ((k + length xs) * 2 ^ 1008) 1 (foldl (λ t x. t ⊕ square x) t (map lowered xs))
unfolding all_finite
folded_upto [] k t d f h p = subst (λ (n : ℕ). Upto (n * 2 ^ 1008) 1 t) (sym (add-zero k)) p
folded_upto (x ∷ xs) k t d f h p =
    subst (λ (n : ℕ). Upto (n * 2 ^ 1008) 1 (foldl (λ t x. t ⊕ square x) (t ⊕ square (lowered x)) (map lowered xs))) (shift k (length xs))
    (folded_upto xs (suc k) (t ⊕ square (lowered x)) d.1 (and_r (finite x) (all_finite xs) f) (onward k (length xs) h)
    (plus_upto k t (square (lowered x)) (first k (length xs) h) p (square_upto (lowered x) (lowered_upto x d.0 (and_l (finite x) (all_finite xs) f)))))
  where
    shift : (k n : ℕ) → suc k + n ≡ k + suc n
    shift k n = omega arith

    onward : (k n : ℕ) {m : ℕ} → k + suc n < m → suc k + n < m
    onward k n h = omega arith

    first : (k n : ℕ) {m : ℕ} → k + suc n < m → suc k < m
    first k n h = omega arith

-- "the second sum never overflows": of n entries, n below 2 ^ 16, it is n × 2 ^ 1008 at most
pub second_upto : (xs : List Float) → Doubles xs → T (all_finite xs) → length xs < 2 ^ 16 → Upto (length xs * 2 ^ 1008) 1 (second_sum xs)
unfolding sum_of_squares
second_upto xs d f h =
    subst (λ (n : ℕ). Upto (n * 2 ^ 1008) 1 (second_sum xs)) (zero-add (length xs))
    (folded_upto xs 0 nought d f (go (length xs) h) (up_to 0 (pos 0) (none (2 ^ 1008))))
  where
    go : (n : ℕ) {m : ℕ} → n < m → 0 + n < m
    go n h = omega arith

    none : (P : ℕ) → 0 * 1 * 1 ≤ 0 * P * 1
    none P = omega arith
