-- What is proved of a norm that is not finite. Document 02, CR 4: "The norm is then infinite only if an entry is not finite or that last product overflows."
use Rattle.std.specs.Prelude.{◌≡◌, true, false, List, [], ◌∷◌, map, T, pos, Float}
use Rattle.std.specs.Float.{inf, fin, binary64}
use Rattle.std.specs.Float.Ieee.{fits, le}
use Rattle.std.specs.Float.Ieee.Scale.{finite}
use Rattle.norm.specs.Norm.{sum_of_squares, overflows, lowered, raised, root_over}

-- every entry is a double: binary64 holds it
abbrev pub Doubles : List Float → Type 0
Doubles [] = Unit {0}
Doubles (x ∷ xs) = T (fits binary64 x) × Doubles xs

-- the sum of the lowered entries
abbrev pub second_sum : List Float → Float
second_sum xs = sum_of_squares (map lowered xs)

-- The last product overflows: the first sum does, though every entry is finite; the second sum and its root are finite; and the root is 2^504 at least, so that
-- its product with 2^520 is 2^1024 at least, which no double is.
pub record LastProductOverflows (divisor : Float) (xs : List Float) : Type 0 where
  pub first_sum_overflows : overflows xs ≡ true
  pub second_sum_finite : T (finite (second_sum xs))
  pub root_finite : T (finite (root_over divisor (second_sum xs)))
  pub root_from : T (le (fin false 1 (pos 504)) (root_over divisor (second_sum xs)))
  pub product_infinite : raised (root_over divisor (second_sum xs)) ≡ inf false
