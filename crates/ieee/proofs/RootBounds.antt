-- The root of a double is bounded by a whole number of smallest values without being worked out: it is a / 2 ^ 1074, rounded, at least where the double is the
-- square of a at least (`root_from`), and at most where it is that at most (`root_to`). Tables of many roots are tested so. Assumes nothing.
use Rattle.std.proofs.Common.{ℕ, zero, suc, ◌+◌, ◌*◌, ◌^◌, ◌<◌, ◌≤◌, Bool, true, false, cond, T, eqb, sym, ◌∙◌, le_trans, le_of_eq, lt_of_le_of_lt, mul-le-mul_right, mul_assoc, mul-le-mul, le_antisymm, mul-pos, lt_of_not-le, mul_left_comm, arith, lit<, pow_pos}
use lib.Ieee.{Float, fin, binary64, round, le}
use lib.Ieee.Fits.{eq→eqb}
use lib.Ieee.Order.{round_mono}
use lib.Ieee.Scale.{finite}
use Rattle.ieee.specs.Double.{nearest}
use Rattle.ieee.specs.Sqrt.{sqrt, halves, root, squared_units}
use Rattle.ieee.proofs.Monotone.{NonNeg, infinite, number, Some, round_nonneg, le_infinite}
use Rattle.ieee.proofs.Root.{root_is, square_lt}

-- a number of smallest values, and how many of them 1 is
abbrev pub L : ℕ
L = 2 ^ 1074

root_lower : (a w : ℕ) → a * a ≤ w → 2 * a ≤ halves w
unfolding halves
root_lower a w h = go (root w) (cond (eqb (root w * root w) w) 0 1) (square_lt a (root w) (lt_of_le_of_lt h (root_is w).1))
  where
    go : (r t : ℕ) → a ≤ r → 2 * a ≤ 2 * r + t
    go r t h = omega arith

root_upper : (a w : ℕ) → w ≤ a * a → halves w ≤ 2 * a
unfolding halves
root_upper a w h = go (eqb (root w * root w) w) (λ n. lt_of_not-le (λ (g : a ≤ root w). n (eq→eqb (le_antisymm (root_is w).0 (le_trans h (mul-le-mul g g))))))
  where
    small : root w ≤ a
    small = square_lt (root w) a (lt_of_le_of_lt (root_is w).0 (lt_of_le_of_lt h (omega arith)))

    go : (b : Bool) → ((T b → ⊥) → root w < a) → 2 * root w + cond b 0 1 ≤ 2 * a
    go true l = let k = small in omega arith
    go false l = let k = l (λ t. t) in omega arith

pub root_from : (x : Float) → NonNeg x → Some x → (a : ℕ) → a * a ≤ squared_units x → T (le (nearest a L) (sqrt x))
unfolding nearest sqrt
root_from x infinite o a h = le_infinite (nearest a L) (round_nonneg binary64 a L)
root_from x (number zero e) o a h = absurd o
root_from x (number (suc m) e) o a h = go L (pow_pos 1074) (root_lower a (squared_units (fin false (suc m) e)) h)
  where
    go : (l : ℕ) → 0 < l → 2 * a ≤ halves (squared_units (fin false (suc m) e))
        → T (le (round binary64 false a l) (round binary64 false (halves (squared_units (fin false (suc m) e))) (2 * l)))
    go l z k = round_mono binary64 a l (halves (squared_units (fin false (suc m) e))) (2 * l) z (mul-pos (lit< tt) z)
        (le_trans (le_of_eq (mul_left_comm a 2 l ∙ sym (mul_assoc 2 a l))) (mul-le-mul_right l k))

pub root_to : (x : Float) → NonNeg x → Some x → T (finite x) → (a : ℕ) → squared_units x ≤ a * a → T (le (sqrt x) (nearest a L))
unfolding nearest sqrt
root_to x infinite o i a h = absurd i
root_to x (number zero e) o i a h = absurd o
root_to x (number (suc m) e) o i a h = go L (pow_pos 1074) (root_upper a (squared_units (fin false (suc m) e)) h)
  where
    go : (l : ℕ) → 0 < l → halves (squared_units (fin false (suc m) e)) ≤ 2 * a
        → T (le (round binary64 false (halves (squared_units (fin false (suc m) e))) (2 * l)) (round binary64 false a l))
    go l z k = round_mono binary64 (halves (squared_units (fin false (suc m) e))) (2 * l) a l (mul-pos (lit< tt) z) z
        (le_trans (mul-le-mul_right l k) (le_of_eq (mul_assoc 2 a l ∙ mul_left_comm 2 a l)))
