-- Every entry is at least 1. Computed once for the whole table. Assumes nothing.
use Prim.Native.Nat.{ℕ, ◌≤◌}
use mathlib.Core.Bool.{Bool}
use native.Mathlib.Omega.{arith}
use lib.Dec.{T}
use lib.Ieee.{le, of_bits}
use Rattle.ieee.specs.Double.{one}
use Rattle.ieee.proofs.Every.{every, among}
use Rattle.rkmc2_omega_zero.specs.Table.{omega_zero}

test : ℕ → Bool
test s = le one (omega_zero s)

passes : T (every test 998 3)
unfolding every test omega_zero of_bits le
passes = tt

pub at_least_one : (s : ℕ) → 3 ≤ s → s ≤ 1000 → T (le one (omega_zero s))
unfolding test
at_least_one s l h = among test 998 3 s passes l (omega arith)
