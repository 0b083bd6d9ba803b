-- Every entry is above 0. Computed once for the whole table. Assumes nothing.
use Prim.Native.Nat.{ℕ, ◌≤◌}
use mathlib.Core.Bool.{Bool}
use native.Mathlib.Omega.{arith}
use lib.Dec.{T}
use lib.Ieee.{lt, of_bits}
use Rattle.ieee.specs.Double.{nought}
use Rattle.ieee.proofs.Every.{every, among}
use Rattle.rkmc2_omega_one.specs.Table.{omega_one}

test : ℕ → Bool
test s = lt nought (omega_one s)

passes : T (every test 998 3)
unfolding every test omega_one of_bits lt
passes = tt

pub above_zero : (s : ℕ) → 3 ≤ s → s ≤ 1000 → T (lt nought (omega_one s))
unfolding test
above_zero s l h = among test 998 3 s passes l (omega arith)
