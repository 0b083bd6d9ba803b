-- Norms by computation: as bits, over the divisor that stands before each list. The bits are those of the same operations in Python.
use mathlib.Core.Path.{◌≡◌, refl}
use mathlib.Core.Bool.{true}
use mathlib.Core.List.{List, [], ◌∷◌}
use Prim.Native.Nat.{ℕ, ◌*◌, ◌^◌}
use lib.Count.{count_trailing_zeros}
use lib.ListN.{replicate}
use lib.Ieee.{Float, nan, inf, binary64, to_bits, add, mul, div, neg, eq, of_int, round, sum, units, odd, size, span, climb}
use Rattle.ieee.specs.Double.{double, nearest, square, one}
use Rattle.ieee.specs.Sqrt.{root_below, root, halves, root_units, sqrt}
use Rattle.norm.specs.Norm.{sum_of_squares, all_finite, overflows, lowered, raised, root_over, root_of_squares}

-- 10 ^ k
abbrev ten_to : ℕ → Float
ten_to k = nearest (10 ^ k) 1

unfoldable bits : Float → List Float → ℕ
bits divisor xs = to_bits binary64 (root_of_squares divisor xs)

-- one hot sensor; 3 and 4 times 2 ^ 600; one among small ones, twice; three whose sum from the other end rounds to another double; two whose squares are
-- doubles and whose sum of squares is not; one by the first sum; two and four whose last product overflows; two over 2, whose root before the division would
-- be no double; three over 3, where that root would round to another double; an infinity; a NaN
pub cases : List ℕ
cases =
    bits one (ten_to 200 ∷ [])
    ∷ bits one (nearest (3 * 2 ^ 600) 1 ∷ nearest (4 * 2 ^ 600) 1 ∷ [])
    ∷ bits one (ten_to 160 ∷ one ∷ neg (nearest 5 2) ∷ [])
    ∷ bits one (ten_to 300 ∷ nearest 1 (10 ^ 300) ∷ ten_to 10 ∷ [])
    ∷ bits one (ten_to 200 ∷ nearest (2 * 10 ^ 200) 1 ∷ ten_to 199 ∷ [])
    ∷ bits one (replicate 2 (ten_to 154))
    ∷ bits one (ten_to 154 ∷ [])
    ∷ bits one (replicate 2 (nearest (17 * 10 ^ 307) 1))
    ∷ bits one (replicate 4 (nearest (2 ^ 1023) 1))
    ∷ bits (double 2) (replicate 2 (nearest (17 * 10 ^ 307) 1))
    ∷ bits (double 3) (ten_to 200 ∷ neg (ten_to 200) ∷ ten_to 200 ∷ [])
    ∷ bits one (inf true ∷ one ∷ [])
    ∷ bits one (nan ∷ ten_to 200 ∷ [])
    ∷ []

pub by_computation : cases
    ≡ 0x6974e718d7d7625a
    ∷ 0x6594000000000000
    ∷ 0x6126c2d4256ffcc3
    ∷ 0x7e37e43c8800759c
    ∷ 0x698764b026c7482b
    ∷ 0x5ff0e0551a9edea1
    ∷ 0x5fe7dddf6b095ff1
    ∷ 0x7ff0000000000000
    ∷ 0x7ff0000000000000
    ∷ 0x7fee42d130773b76
    ∷ 0x6974e718d7d7625a
    ∷ 0x7ff0000000000000
    ∷ 0x7ff8000000000000
    ∷ []
unfolding cases bits root_of_squares sum_of_squares all_finite overflows lowered raised root_over to_bits add mul div neg eq of_int round sum units odd size span
    climb count_trailing_zeros root_below root halves root_units sqrt double nearest square
by_computation = refl
