-- The entries rise strictly, and are above 0. Computed once for the whole table. Assumes nothing.
use mathlib.Core.Path.{sym, subst}
use mathlib.Core.Logic.{inl, inr}
use Prim.Native.Nat.{ℕ, suc, ◌≤◌}
use native.Mathlib.Nat.{eq-or-lt_of_le}
use mathlib.Core.Bool.{Bool, ◌&&◌}
use native.Mathlib.Omega.{arith}
use lib.Dec.{T}
use lib.Ieee.{lt, of_bits}
use lib.Ieee.Fits.{and_l, and_r}
use lib.Ieee.Positive.{positive}
use Rattle.ieee.proofs.Every.{every, among}
use Rattle.rkmc2_threshold.specs.Table.{threshold}

test : ℕ → Bool
test s = positive (threshold s) && lt (threshold s) (threshold (suc s))

passes : T (every test 996 3)
unfolding every test threshold of_bits lt
passes = tt

passes_at : (s : ℕ) → 3 ≤ s → s ≤ 998 → T (positive (threshold s) && lt (threshold s) (threshold (suc s)))
unfolding test
passes_at s l h = among test 996 3 s passes l (omega arith)

pub rises : (s : ℕ) → 3 ≤ s → s ≤ 998 → T (lt (threshold s) (threshold (suc s)))
rises s l h = and_r (positive (threshold s)) (lt (threshold s) (threshold (suc s))) (passes_at s l h)

last_above_zero : T (positive (threshold 999))
unfolding threshold of_bits
last_above_zero = tt

pub above_zero : (s : ℕ) → 3 ≤ s → s ≤ 999 → T (positive (threshold s))
above_zero s l h = elim (eq-or-lt_of_le h) [
  | inl e ↦ subst (λ (i : ℕ). T (positive (threshold i))) (sym e) last_above_zero
  | inr m ↦ and_l (positive (threshold s)) (lt (threshold s) (threshold (suc s))) (passes_at s l (omega arith))
]
