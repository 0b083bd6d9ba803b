-- The radius and the scaled radius are never below 0: norms, the perturbation and the products made of them have no minus sign, where they are numbers.
-- ⊕ ⊗ ⊘ are operations on doubles: they round.
use mathlib.Core.Path.{◌≡◌, refl}
use mathlib.Core.Bool.{Bool, true, false, cond}
use mathlib.Core.List.{List, [], ◌∷◌, foldl, map}
use Prim.Native.Nat.{ℕ, zero, suc, ◌+◌, ◌*◌, ◌^◌}
use native.Mathlib.Omega.{arith}
use lib.Dec.{eqb}
use borrow.Author.Tests.{le-ltb}
use lib.IntN.{pos}
use lib.Ieee.{Float, nan, inf, fin, binary64, low, up, down, round, sum, add, mul, div, lt, is_nan}
use Rattle.ieee.specs.Double.{◌⊕◌, ◌⊗◌, ◌⊘◌, nearest, nought, one, square, root_epsilon}
use Rattle.ieee.specs.Sqrt.{halves, root_units, in_units, sqrt}
use Rattle.ieee.specs.Whole.{abs, max}
use Rattle.ieee.proofs.Monotone.{NonNeg, infinite, number, round_nonneg}
use Rattle.norm.specs.Norm.{sum_of_squares, overflows, lowered, raised, root_over, root_of_squares}
use Rattle.workspace.specs.Vectors.{Vectors, vector_norm, eigenvector, state}
use Rattle.workspace.specs.Kernel.{perturbation_of, radius_of, scaled}

pub data Plus : Float → Type 0 where
  no_number : Plus nan
  unsigned : {x : Float} → NonNeg x → Plus x

rounded : (a b : ℕ) → Plus (round binary64 false a b)
rounded a b = unsigned (round_nonneg binary64 a b)

either : {x y : Float} (t : Bool) → Plus x → Plus y → Plus (cond t x y)
either true p q = p
either false p q = q

pub not_below : (x : Float) → Plus x → lt x nought ≡ false
unfolding lt
not_below x no_number = refl
not_below x (unsigned infinite) = refl
not_below x (unsigned (number m e)) = le-ltb (m * up e * 1) (0 * 1 * down e) (omega arith)

-- ---- the operations

plus : (x y : Float) → Plus x → Plus y → Plus (x ⊕ y)
unfolding add sum
plus x y no_number q = no_number
plus x y (unsigned infinite) no_number = no_number
plus x y (unsigned infinite) (unsigned infinite) = unsigned infinite
plus x y (unsigned infinite) (unsigned (number n d)) = unsigned infinite
plus x y (unsigned (number m e)) no_number = no_number
plus x y (unsigned (number m e)) (unsigned infinite) = unsigned infinite
plus x y (unsigned (number m e)) (unsigned (number n d)) = rounded (m * up e * down d + n * up d * down e) (down e * down d)

times : (x y : Float) → Plus x → Plus y → Plus (x ⊗ y)
unfolding mul
times x y no_number q = no_number
times x y (unsigned infinite) no_number = no_number
times x y (unsigned infinite) (unsigned infinite) = unsigned infinite
times x y (unsigned infinite) (unsigned (number n d)) = either (eqb n 0) no_number (unsigned infinite)
times x y (unsigned (number m e)) no_number = no_number
times x y (unsigned (number m e)) (unsigned infinite) = either (eqb m 0) no_number (unsigned infinite)
times x y (unsigned (number m e)) (unsigned (number n d)) = rounded (m * up e * (n * up d)) (down e * down d)

over : (x y : Float) → Plus x → Plus y → Plus (x ⊘ y)
unfolding div
over x y no_number q = no_number
over x y (unsigned infinite) no_number = no_number
over x y (unsigned infinite) (unsigned infinite) = no_number
over x y (unsigned infinite) (unsigned (number n d)) = unsigned infinite
over x y (unsigned (number m e)) no_number = no_number
over x y (unsigned (number m e)) (unsigned infinite) = unsigned (number 0 (pos 0))
over x y (unsigned (number m e)) (unsigned (number n d)) =
    either (eqb n 0) (either (eqb m 0) no_number (unsigned infinite)) (rounded (m * up e * down d) (n * up d * down e))

squared : (x : Float) → Plus (square x)
unfolding mul square
squared nan = no_number
squared (inf true) = unsigned infinite
squared (inf false) = unsigned infinite
squared (fin true m e) = rounded (m * up e * (m * up e)) (down e * down e)
squared (fin false m e) = rounded (m * up e * (m * up e)) (down e * down e)

rooted : (x : Float) → Plus x → Plus (sqrt x)
unfolding sqrt root_units
rooted x no_number = no_number
rooted x (unsigned infinite) = unsigned infinite
rooted x (unsigned (number zero e)) = unsigned (number 0 e)
rooted x (unsigned (number (suc m) e)) = rounded (halves (in_units (fin false (suc m) e) * 2 ^ low binary64)) (2 * 2 ^ low binary64)

sized : (x : Float) → Plus (abs x)
unfolding abs
sized nan = no_number
sized (inf s) = unsigned infinite
sized (fin s m e) = unsigned (number m e)

larger : (x y : Float) → Plus x → Plus y → Plus (max x y)
unfolding max
larger x y p q = either (is_nan x) q (either (lt x y) q p)

-- ---- norms, the perturbation and the radius

summed : (t : Float) (xs : List Float) → Plus t → Plus (foldl (λ t x. t ⊕ square x) t xs)
summed t [] p = p
summed t (x ∷ xs) p = summed (t ⊕ square x) xs (plus t (square x) p (squared x))

over_one : (xs : List Float) → Plus (root_over one (sum_of_squares xs))
unfolding root_over sum_of_squares
over_one xs = rooted _ (over _ one (summed nought xs (unsigned (number 0 (pos 0)))) (unsigned (number 1 (pos 0))))

norm_plus : (xs : List Float) → Plus (vector_norm xs)
unfolding vector_norm root_of_squares raised
norm_plus xs = either (overflows xs) (times _ _ (over_one (map lowered xs)) (unsigned (number 1 (pos 520)))) (over_one xs)

pub perturbation_plus : (v : Vectors) → Plus (perturbation_of v)
unfolding perturbation_of root_epsilon nearest
perturbation_plus v = times (nearest 1 (2 ^ 26)) _ (rounded 1 (2 ^ 26)) (larger (vector_norm (v state)) one (norm_plus (v state)) (unsigned (number 1 (pos 0))))

pub radius_plus : (π : Float) (v : Vectors) → Plus π → Plus (radius_of π v)
unfolding radius_of
radius_plus π v p = over (vector_norm (v eigenvector)) π (norm_plus (v eigenvector)) p

pub scaled_plus : (step radius : Float) → Plus radius → Plus (scaled step radius)
unfolding scaled nearest
scaled_plus step radius p = times (abs step) (nearest 12 10 ⊗ radius) (sized step) (times (nearest 12 10) radius (rounded 12 10) p)
