-- The stage counts serve every finite r that is not below 0 (`serves`), and every count of every family is permitted (`stage_count_permitted`). Assumes
-- nothing.
use mathlib.Core.Path.{◌≡◌, refl, sym, ap, ◌∙◌, subst}
use mathlib.Core.Logic.{◌⊎◌, inl, inr}
use Prim.Native.Nat.{ℕ, zero, suc, ◌+◌, ◌-◌, ◌*◌, ◌≤◌, ◌<◌}
use native.Mathlib.Nat.{le_trans, le_of_eq, lt_of_lt_of_le, lt_of_not-le, not-le_of_lt, mul_right_comm, mul_assoc, mul-le-mul_left, mul-le-mul_right}
use native.Mathlib.Nat.{le_of_mul-le-mul_right, mul-pos, zero-lt-suc}
use native.Mathlib.Omega.{arith}
use mathlib.Core.Bool.{Bool, true, false, cond, true≢false}
use lib.IntN.{ℤ, pos}
use lib.Dec.{T, ltb, lt→ltb}
use lib.Ieee.{Float, nan, inf, fin, up, down, lt, le}
use lib.Ieee.Fits.{up_pos}
use lib.Ieee.Bits.{is_true}
use lib.Ieee.Positive.{num, den, den_pos}
use lib.Ieee.Scale.{finite}
use Rattle.ieee.specs.Double.{nought}
use Rattle.ieee.specs.Sqrt.{sqrt}
use Rattle.ieee.specs.Whole as Whole
use Rattle.ieee.proofs.Monotone.{NonNeg, infinite, number, le_of_cross}
use Rattle.ieee.proofs.Logic.{le_or_le}
use Rattle.family.specs.declared.Family.{Family}
use Rattle.family.specs.Family.{Orthogonal, Legendre1, Legendre2, Gegenbauer1, Gegenbauer2, made_of, largest_count, permitted, before_limits}
use Rattle.family.specs.Family.{facts_of, radius_for, number_of_stages, limited, stage_count}
use Rattle.family.specs.Reach.{reach_num, reach_den, parts, Serves}
use Rattle.family.proofs.InnerZero.{inner_zero}
use Rattle.family.proofs.Rule.{after, rule_is, more_from, less_to, nearest_nonneg}
use Rattle.family.proofs.Thresholds.{high, deep, past, full, Above, Below, thresholds}
use Rattle.family.proofs.Limits.{limits}

pub stage_count_permitted : (f : Family) (q r : Float) → T (permitted f (stage_count f q r))
unfolding stage_count
stage_count_permitted f q r = (limits f (number_of_stages f q r)).allowed

-- ---- what holds at a double u, carried to r: n / d is r, n' / d' is u, and q / under a bound
regroup : (p under a b : ℕ) → p * a * under * b ≡ p * under * (a * b)
regroup p under a b = ap (λ (x : ℕ). x * b) (mul_right_comm p a under) ∙ mul_assoc (p * under) a b

carry : (p q under n d n' d' : ℕ) → 0 < d' → n * d' ≤ n' * d → p * n' * under ≤ q * d' → p * n * under ≤ q * d
carry p q under n d n' d' D h k = le_of_mul-le-mul_right
    (le_trans (le_of_eq (regroup p under n d')) (le_trans (mul-le-mul_left (p * under) h)
    (le_trans (le_of_eq (sym (regroup p under n' d))) (le_trans (mul-le-mul_right d k) (le_of_eq (mul_right_comm q d' d)))))) D

carry_back : (p q under n d n' d' : ℕ) → 0 < d' → n' * d ≤ n * d' → q * d' ≤ p * n' * under → q * d ≤ p * n * under
carry_back p q under n d n' d' D h k = le_of_mul-le-mul_right
    (le_trans (le_of_eq (mul_right_comm q d d')) (le_trans (mul-le-mul_right d k)
    (le_trans (le_of_eq (regroup p under n' d)) (le_trans (mul-le-mul_left (p * under) h) (le_of_eq (sym (regroup p under n d'))))))) D

split : (x y : Float) → NonNeg x → NonNeg y → T (finite x) → T (finite y) → T (le x y) ⊎ (num y * den x ≤ num x * den y)
split x y infinite q i j = absurd i
split x y (number m e) infinite i j = absurd j
split x y (number m e) (number n d) i j = go (le_or_le (m * up e * down d) (n * up d * down e))
  where
    go : (m * up e * down d ≤ n * up d * down e) ⊎ (n * up d * down e ≤ m * up e * down d)
        → T (le (fin false m e) (fin false n d)) ⊎ (n * up d * down e ≤ m * up e * down d)
    go (inl h) = inl (le_of_cross m e n d h)
    go (inr h) = inr h

high_nonneg : (f : Orthogonal) (k : ℕ) → NonNeg (high f k)
unfolding high
high_nonneg f k = nearest_nonneg _ _

deep_nonneg : (f : Orthogonal) (k : ℕ) → NonNeg (deep f k)
unfolding deep
deep_nonneg f k = nearest_nonneg _ _

-- ---- r is not negative. Where r lies above k's upper threshold, the number before limits passes k; where it lies below the lower one, it does not
module _ (f : Orthogonal) (quotient r : Float) (p : NonNeg r) (i : T (finite r)) where
  abbrev n : ℕ
  n = before_limits (made_of f) quotient r

  covers : (k : ℕ) → T (permitted (made_of f) k) → n ≤ k → (parts - 1) * num r * reach_den f k ≤ parts * reach_num f k * den r
  covers k t h =
      let a = (thresholds f k t).0 in
      go (parts - 1) (parts * reach_num f k) a.near a (split (high f k) r (high_nonneg f k) p a.finite_u i)
    where
      go : (P Q : ℕ) → P * num (high f k) * reach_den f k ≤ Q * den (high f k) → Above f k (high f k) (past f k)
          → T (le (high f k) r) ⊎ (num r * den (high f k) ≤ num (high f k) * den r) → P * num r * reach_den f k ≤ Q * den r
      go P Q z a (inl l) =
          absurd (not-le_of_lt (lt_of_lt_of_le a.count (more_from f quotient (high f k) r (past f k) (high_nonneg f k) p l a.root a.from)) h)
      go P Q z a (inr l) = carry P Q (reach_den f k) (num r) (den r) (num (high f k)) (den (high f k)) (den_pos (high f k)) l z

  needed : (k : ℕ) → T (permitted (made_of f) k) → k < n → parts * reach_num f k * den r ≤ (parts + 1) * num r * reach_den f k
  needed k t h =
      let a = (thresholds f k t).1 in
      go (parts + 1) (parts * reach_num f k) a.near a (split r (deep f k) p (deep_nonneg f k) i a.finite_u)
    where
      go : (P Q : ℕ) → Q * den (deep f k) ≤ P * num (deep f k) * reach_den f k → Below f k (deep f k) (full f k)
          → T (le r (deep f k)) ⊎ (num (deep f k) * den r ≤ num r * den (deep f k)) → Q * den r ≤ P * num r * reach_den f k
      go P Q z a (inl l) =
          absurd (not-le_of_lt h (le_trans (less_to f quotient (deep f k) r (full f k) (deep_nonneg f k) p l a.finite_x a.root a.from) a.count))
      go P Q z a (inr l) = carry_back P Q (reach_den f k) (num r) (den r) (num (deep f k)) (den (deep f k)) (den_pos (deep f k)) l z

  limited_serves : Serves f r (limited (made_of f) (before_limits (made_of f) quotient r))
  limited_serves =
      let l = limits (made_of f) n in
      record {
        allowed = l.allowed;
        reaches = go l.own l.allowed;
        least = λ k t h. needed k t (lt_of_not-le (λ (g : n ≤ k). not-le_of_lt h (l.lowest k t g)));
      }
    where
      go : {s : ℕ} → (s ≡ largest_count (made_of f)) ⊎ (n ≤ s) → T (permitted (made_of f) s)
          → (s ≡ largest_count (made_of f)) ⊎ ((parts - 1) * num r * reach_den f s ≤ parts * reach_num f s * den r)
      go (inl e) t = inl e
      go {s} (inr h) t = inr (covers s t h)

-- ---- −0 counts as 0
rule_zero : (f : Orthogonal) (q : Float) (e : ℤ) → before_limits (made_of f) q (fin true 0 e) ≡ before_limits (made_of f) q nought
rule_zero f q e = rule_is f q (fin true 0 e) ∙ ap (λ (x : Float). after f (sqrt x)) (inner_zero f e) ∙ sym (rule_is f q nought)

-- what serves 0 serves −0
zero_serves : (f : Orthogonal) (e : ℤ) (s : ℕ) → Serves f nought s → Serves f (fin true 0 e) s
zero_serves f e s v = record {
  allowed = v.allowed;
  reaches = inr (go (parts - 1) (up e) (reach_den f s) (parts * reach_num f s * down e));
  least = λ k t h. back (parts * reach_num f k) (parts + 1) (reach_den f k) (v.least k t h);
}
  where
    go : (a u b c : ℕ) → a * (0 * u) * b ≤ c
    go a u b c = omega arith

    back : (q p d : ℕ) → q * 1 ≤ p * (0 * 1) * d → q * down e ≤ p * (0 * up e) * d
    back q p d h = subst (λ (x : ℕ). x * down e ≤ p * (0 * up e) * d) (sym (none q p d h)) (low (down e) (p * (0 * up e) * d))
      where
        none : (q p u : ℕ) → q * 1 ≤ p * (0 * 1) * u → q ≡ 0
        none q p u h = omega arith

        low : (d c : ℕ) → 0 * d ≤ c
        low d c = omega arith

-- ---- the count
negative_below : (m : ℕ) (e : ℤ) → lt (fin true (suc m) e) nought ≡ true
unfolding lt
negative_below m e = is_true (ltb 0 (suc m * up e * 1 + 0 * 1 * down e))
    (lt→ltb 0 (suc m * up e * 1 + 0 * 1 * down e) (some (suc m * up e) (down e) (mul-pos (zero-lt-suc m) (up_pos e))))
  where
    some : (a d : ℕ) → 0 < a → 0 < a * 1 + 0 * 1 * d
    some a d h = omega arith

-- their rules take a NaN and what is negative as 0
pub from_zero : (g : Orthogonal) (r : Float) → radius_for (facts_of (made_of g)).rule r ≡ Whole.max r nought
unfolding made_of facts_of radius_for
from_zero Legendre1 r = refl
from_zero Legendre2 r = refl
from_zero Gegenbauer1 r = refl
from_zero Gegenbauer2 r = refl

not_below : (g : Orthogonal) (q r : Float) → lt r nought ≡ false → T (finite r)
    → stage_count (made_of g) q r ≡ limited (made_of g) (before_limits (made_of g) q r)
unfolding stage_count Whole.max
not_below g q r h i = ap (λ (x : Float). limited (made_of g) (before_limits (made_of g) q x)) (from_zero g r ∙ go r h i)
  where
    go : (r : Float) → lt r nought ≡ false → T (finite r) → Whole.max r nought ≡ r
    go nan h i = absurd i
    go (inf s) h i = absurd i
    go (fin s m e) h i = ap (λ (b : Bool). cond b nought (fin s m e)) h

pub serves : (f : Orthogonal) (q r : Float) → T (finite r) → lt r nought ≡ false → Serves f r (stage_count (made_of f) q r)
serves f q r i h = subst (λ (s : ℕ). Serves f r s) (sym (not_below f q r h i)) (go r i h)
  where
    go : (r : Float) → T (finite r) → lt r nought ≡ false → Serves f r (limited (made_of f) (before_limits (made_of f) q r))
    go nan i h = absurd i
    go (inf s) i h = absurd i
    go (fin false m e) i h = limited_serves f q (fin false m e) (number m e) tt
    go (fin true zero e) i h = subst (λ (k : ℕ). Serves f (fin true 0 e) (limited (made_of f) k)) (sym (rule_zero f q e))
        (zero_serves f e (limited (made_of f) (before_limits (made_of f) q nought)) (limited_serves f q nought (number 0 (pos 0)) tt))
    go (fin true (suc m) e) i h = absurd (true≢false (sym (negative_below m e) ∙ h))
