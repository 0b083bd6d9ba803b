-- A day's total tells its minutes above: `minutes_told`, by a test over every number of minutes that a day can have. Assumes nothing.
-- ⊘ is an operation on doubles: it rounds.
use mathlib.Core.Path.{◌≡◌, refl}
use mathlib.Core.Bool.{Bool, true, false}
use Prim.Native.Nat.{ℕ, ◌≤◌}
use native.Mathlib.Omega.{arith}
use borrow.Author.Tests.{ltb-true, ltb-false, eqb-true}
use lib.Dec.{T, ltb, eqb}
use lib.Ieee.{add, mul, div, to_unsigned}
use lib.Ieee.Bits.{is_true}
use Rattle.ieee.specs.Double.{◌⊘◌, double}
use Rattle.ieee.proofs.Every.{every, among}
use Rattle.sheet.specs.Text.{minutes_a_day}
use Rattle.accounts.specs.Accounts.{minutes_of}

unfoldable tells : ℕ → Bool
tells k = eqb (minutes_of (double k ⊘ double 60)) k

-- 0 to 479, 480 to 959 and 960 to 1440
first_third : T (every tells 480 0)
unfolding every tells minutes_of double add mul div to_unsigned
first_third = tt

second_third : T (every tells 480 480)
unfolding every tells minutes_of double add mul div to_unsigned
second_third = tt

third_third : T (every tells 481 960)
unfolding every tells minutes_of double add mul div to_unsigned
third_third = tt

pub minutes_told : (k : ℕ) → k ≤ minutes_a_day → minutes_of (double k ⊘ double 60) ≡ k
unfolding tells
minutes_told k h = eqb-true _ k (is_true (tells k) (go (ltb k 480) refl (ltb k 960) refl))
  where
    go : (a : Bool) → ltb k 480 ≡ a → (b : Bool) → ltb k 960 ≡ b → T (tells k)
    go true d b e = among tells 480 0 k first_third (omega arith) (omega (arith, ltb-true k 480 d))
    go false d true e = among tells 480 480 k second_third (omega (arith, ltb-false k 480 d)) (omega (arith, ltb-true k 960 e))
    go false d false e = among tells 481 960 k third_third (omega (arith, ltb-false k 960 e)) (omega arith)
