-- The code counts in u64: RKC's number before limits stays at 2 ^ 64 - 1 where the definition's is 2 ^ 64, and the limits give the largest count for both.
-- Assumes nothing.
use mathlib.Core.Path.{◌≡◌, sym, ap, ◌∙◌}
use mathlib.Core.Logic.{inl, inr}
use Prim.Native.Nat.{ℕ, suc, ◌-◌, ◌^◌, ◌≤◌, ◌<◌, min}
use native.Mathlib.Nat.{le_trans, lt_of_lt_of_le, min-eq_left, min-eq_right}
use native.Mathlib.Omega.{arith}
use mathlib.Core.Bool.{true, false}
use lib.Dec.{ltb, lt→ltb, lit≤}
use lib.Ieee.{Float, nan, inf, fin, to_unsigned}
use lib.Ieee.Bits.{is_true}
use Rattle.ieee.proofs.Logic.{le_or_le}
use Rattle.family.specs.declared.Family.{Family}
use Rattle.family.specs.Family.{largest_count, limited}
use Rattle.family.proofs.Range.{largest_to}
use Rattle.family.proofs.Limits.{limited_largest}

cast_small : (x : Float) → to_unsigned 64 x ≤ 2 ^ 64 - 1
unfolding to_unsigned
cast_small nan = omega arith
cast_small (inf true) = omega arith
cast_small (inf false) = omega arith
cast_small (fin true m e) = omega arith
cast_small (fin false m e) = omega arith

pub cast_kept : (x : Float) → to_unsigned 64 x ≡ min (to_unsigned 64 x) (2 ^ 64 - 1)
cast_kept x = omega (arith, cast_small x)

largest_below : (f : Family) → largest_count f < 2 ^ 64 - 1
largest_below f = le_trans (succ_le (largest_to f)) (lit≤ tt)
  where
    succ_le : {a b : ℕ} → a ≤ b → a < suc b
    succ_le h = omega arith

largest_small : (f : Family) → largest_count f ≤ 2 ^ 64 - 1
largest_small f = le_trans (largest_to f) (lit≤ tt)

pub limited_saturated : (f : Family) (m : ℕ) → limited f (min m (2 ^ 64 - 1)) ≡ limited f m
limited_saturated f m = elim (le_or_le m (2 ^ 64 - 1)) [
  | inl h ↦ ap (limited f) (min-eq_left h)
  | inr h ↦ ap (limited f) (min-eq_right h) ∙ limited_largest f (2 ^ 64 - 1) (largest_small f) ∙ sym (limited_largest f m (le_trans (largest_small f) h))
]

pub exceeds_saturated : (f : Family) (m : ℕ) → ltb (largest_count f) (min m (2 ^ 64 - 1)) ≡ ltb (largest_count f) m
exceeds_saturated f m = elim (le_or_le m (2 ^ 64 - 1)) [
  | inl h ↦ ap (ltb (largest_count f)) (min-eq_left h)
  | inr h ↦ ap (ltb (largest_count f)) (min-eq_right h) ∙ is_true _ (lt→ltb (largest_count f) (2 ^ 64 - 1) (largest_below f))
      ∙ sym (is_true _ (lt→ltb (largest_count f) m (lt_of_lt_of_le (largest_below f) h)))
]
