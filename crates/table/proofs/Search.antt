-- The smallest count whose threshold is at least r (`smallest`), found by halving where the thresholds are positive and rise (`found`): for every r, a NaN and
-- the infinities too. And what makes a count the smallest (`is_smallest`) and where it lies (`smallest_from`, `smallest_to`), whether they rise or not.
-- Assumes nothing.
use mathlib.Core.Path.{◌≡◌, subst}
use mathlib.Core.Logic.{inl, inr}
use mathlib.Core.Bool.{Bool, true, false, not, cond}
use Prim.Native.Nat.{ℕ, zero, suc, ◌+◌, ◌-◌, ◌≤◌, ◌<◌}
use native.Mathlib.Nat.{eq-or-lt_of_le, le_trans}
use native.Mathlib.Omega.{arith}
use lib.Dec.{T, not_T}
use lib.Ieee.{Float, le}
use lib.Ieee.Bits.{is_true, is_false}
use lib.Ieee.Positive.{positive}
use Rattle.ieee.proofs.Logic.{yes, no}
use Rattle.table.specs.Smallest.{smallest}
use Rattle.table.proofs.Order.{le_next}

-- ---- of the n counts from a on

pub is_smallest : (t : ℕ → Float) (r : Float) (n a s : ℕ) → a ≤ s → s ≤ a + n → ((i : ℕ) → a ≤ i → i < s → T (not (le r (t i))))
    → (s < a + n → T (le r (t s))) → smallest t r n a ≡ s
unfolding smallest
is_smallest t r zero a s l h below here = omega arith
is_smallest t r (suc n) a s l h below here = elim (eq-or-lt_of_le l) [
  | inl e ↦ rw (is_true (le r (t a)) (subst (λ (i : ℕ). T (le r (t i))) (back e) (here (more e)))) e
  | inr m ↦ rw (is_false (le r (t a)) (below a (omega arith) m))
      (is_smallest t r n (suc a) s m (omega arith) (λ i u v. below i (omega arith) v) (λ v. here (omega arith)))
]
  where
    back : a ≡ s → s ≡ a
    back e = omega arith

    more : a ≡ s → s < a + suc n
    more e = omega arith

pub smallest_from : (t : ℕ → Float) (r : Float) (n a : ℕ) → a ≤ smallest t r n a
unfolding smallest
smallest_from t r zero a = omega arith
smallest_from t r (suc n) a = go (le r (t a)) (smallest t r n (suc a)) (smallest_from t r n (suc a))
  where
    go : (b : Bool) (s : ℕ) → suc a ≤ s → a ≤ cond b a s
    go true s h = omega arith
    go false s h = omega arith

pub smallest_to : (t : ℕ → Float) (r : Float) (n a : ℕ) → smallest t r n a ≤ a + n
unfolding smallest
smallest_to t r zero a = omega arith
smallest_to t r (suc n) a = go (le r (t a)) (smallest t r n (suc a)) (smallest_to t r n (suc a))
  where
    go : (b : Bool) (s : ℕ) → s ≤ suc a + n → cond b a s ≤ a + suc n
    go true s h = omega arith
    go false s h = omega arith

-- ---- the search: the answer is from low to high

pub record Bracket (t : ℕ → Float) (r : Float) (a n low high : ℕ) : Type 0 where
  pub start : a ≤ low
  pub ordered : low ≤ high
  pub end : high ≤ a + n
  pub below : (i : ℕ) → a ≤ i → i < low → T (not (le r (t i)))
  pub above : (i : ℕ) → high ≤ i → i < a + n → T (le r (t i))

module _ (t : ℕ → Float) (r : Float) (a n : ℕ) (some : (i : ℕ) → a ≤ i → i < a + n → T (positive (t i)))
    (rises : (i : ℕ) → a ≤ i → suc i < a + n → T (le (t i) (t (suc i)))) where
  reaches : (k i : ℕ) → a ≤ i → k + i < a + n → T (le r (t i)) → T (le r (t (k + i)))
  reaches zero i l h p = let e : 0 + i ≡ i = omega arith in rw e p
  reaches (suc k) i l h p =
      let e : suc k + i ≡ suc (k + i) = omega arith in
      rw e (le_next r (t (k + i)) (t (suc (k + i))) (some (k + i) (omega arith) (omega arith)) (some (suc (k + i)) (omega arith) (omega arith))
      (reaches k i l (omega arith) p) (rises (k + i) (omega arith) (omega arith)))

  from : (i j : ℕ) → a ≤ i → i ≤ j → j < a + n → T (le r (t i)) → T (le r (t j))
  from i j l m h p = let e : j - i + i ≡ j = omega arith in subst (λ (x : ℕ). T (le r (t x))) e (reaches (j - i) i l (omega arith) p)

  pub bracket_all : Bracket t r a n a (a + n)
  bracket_all = record {
    start = omega arith;
    ordered = omega arith;
    end = omega arith;
    below = λ i l h. absurd (none i l h);
    above = λ i l h. absurd (none_left i l h);
  }
    where
      none : (i : ℕ) → a ≤ i → i < a → ⊥
      none i l h = omega arith

      none_left : (i : ℕ) → a + n ≤ i → i < a + n → ⊥
      none_left i l h = omega arith

  pub bracket_lower : (low high m : ℕ) → Bracket t r a n low high → low ≤ m → m < high → le r (t m) ≡ true → Bracket t r a n low m
  bracket_lower low high m b l h p = record {
    start = b.start;
    ordered = l;
    end = omega (arith, b.end);
    below = b.below;
    above = λ i u v. from m i (omega (arith, b.start)) u v (yes p);
  }

  pub bracket_higher : (low high m : ℕ) → Bracket t r a n low high → low ≤ m → m < high → le r (t m) ≡ false → Bracket t r a n (m + 1) high
  bracket_higher low high m b l h p = record {
    start = omega (arith, b.start);
    ordered = omega arith;
    end = b.end;
    below = λ i u v. not_T (le r (t i)) (λ q. no p (from i m u (omega arith) (omega (arith, b.end)) q));
    above = b.above;
  }

  pub found : (low high : ℕ) → Bracket t r a n low high → high ≤ low → smallest t r n a ≡ low
  found low high b h = is_smallest t r n a low b.start (le_trans b.ordered b.end) b.below (λ v. b.above low h v)
