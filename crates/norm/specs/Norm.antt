-- The root of a sum of squares over a divisor: `vector_norm` of workspace.rs, with the divisor 1, and what `scaled_error_norm` of driver.rs takes of the errors
-- over their tolerances, with n. Document 01, "workspace.rs: norms and the power iteration"; document 02, CR 4. ⊕ ⊗ ⊘ are operations on doubles: they round.
use Rattle.std.specs.Prelude.{Bool, true, false, cond, ◌&&◌, pos, negsuc, Float}
use mathlib.Core.List.{List, [], ◌∷◌, foldl, map}
use Rattle.std.specs.Float.{inf, fin}
use Rattle.std.specs.Float.Ieee.{eq}
use Rattle.std.specs.Float.Ieee.Scale.{finite}
use Rattle.ieee.specs.Double.{◌⊕◌, ◌⊗◌, ◌⊘◌, nought, one, square}
use Rattle.ieee.specs.Sqrt.{sqrt}

-- sums run in index order, from +0.0
unfoldable pub sum_of_squares : List Float → Float
sum_of_squares xs = foldl (λ t x. t ⊕ square x) nought xs

-- `finite`
unfoldable pub all_finite : List Float → Bool
all_finite [] = true
all_finite (x ∷ xs) = finite x && all_finite xs

-- document 02, CR 4: "When the sum is infinite and every entry is finite,
unfoldable pub overflows : List Float → Bool
overflows xs = eq (sum_of_squares xs) (inf false) && all_finite xs

-- each entry is multiplied by 2^-520 before squaring (`fin s m e` is m × 2^e, and `negsuc 519` is -520)
unfoldable pub lowered : Float → Float
lowered x = x ⊗ fin false 1 (negsuc 519)

-- and the root by 2^520 after."
unfoldable pub raised : Float → Float
raised x = x ⊗ fin false 1 (pos 520)

-- the root of a sum over a divisor
unfoldable pub root_over : Float → Float → Float
root_over divisor sum = sqrt (sum ⊘ divisor)

unfoldable pub root_of_squares : Float → List Float → Float
root_of_squares divisor xs =
    cond (overflows xs)
    (raised (root_over divisor (sum_of_squares (map lowered xs))))
    (root_over divisor (sum_of_squares xs))

-- `vector_norm` (x / 1 is x, for every double)
unfoldable pub vector_norm : List Float → Float
vector_norm xs = root_of_squares one xs
