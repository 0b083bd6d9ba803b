-- Doubles: lib.Ieee's operators at binary64, each rounded once and nothing fused, and the constants of the kernel. Document 01, "Rust forms that cannot come
-- along". ⊕ ⊖ ⊗ ⊘ are operations on doubles: they round.
use Rattle.std.specs.Prelude.{ℕ, ◌^◌, false, pos, negsuc, Float}
use Rattle.std.specs.Float.{fin, binary64}
use Rattle.std.specs.Float.Ieee.{add, sub, mul, div, of_int, round}

infixl 60 ◌⊕◌
infixl 60 ◌⊖◌
infixl 70 ◌⊗◌
infixl 70 ◌⊘◌
abbrev pub ◌⊕◌ : Float → Float → Float
x ⊕ y = add binary64 x y

abbrev pub ◌⊖◌ : Float → Float → Float
x ⊖ y = sub binary64 x y

abbrev pub ◌⊗◌ : Float → Float → Float
x ⊗ y = mul binary64 x y

abbrev pub ◌⊘◌ : Float → Float → Float
x ⊘ y = div binary64 x y

-- the kernel's constants, written out: `double 2` below is the same double, at many times the cost in a test over a table
abbrev pub nought : Float
nought = fin false 0 (pos 0)

abbrev pub half : Float
half = fin false 1 (negsuc 0)

abbrev pub one : Float
one = fin false 1 (pos 0)

abbrev pub two : Float
two = fin false 1 (pos 1)

abbrev pub three : Float
three = fin false 3 (pos 0)

abbrev pub four : Float
four = fin false 1 (pos 2)

abbrev pub five : Float
five = fin false 5 (pos 0)

abbrev pub six : Float
six = fin false 3 (pos 1)

abbrev pub eight : Float
eight = fin false 1 (pos 3)

abbrev pub nine : Float
nine = fin false 9 (pos 0)

abbrev pub ten : Float
ten = fin false 5 (pos 1)

abbrev pub twelve : Float
twelve = fin false 3 (pos 2)

abbrev pub thirteen : Float
thirteen = fin false 13 (pos 0)

abbrev pub twenty_five : Float
twenty_five = fin false 25 (pos 0)

-- a whole number `as f64`, and the double nearest to m / n, which is what Rust reads in a decimal
unfoldable pub double : ℕ → Float
unfolding of_int
double n = of_int binary64 (pos n)

unfoldable pub nearest : ℕ → ℕ → Float
unfolding round
nearest m n = round binary64 false m n

-- `powi(2)`
unfoldable pub square : Float → Float
unfolding mul
square x = x ⊗ x

-- f64::MIN_POSITIVE, and the root of f64::EPSILON
unfoldable pub min_positive : Float
min_positive = nearest 1 (2 ^ 1022)

unfoldable pub root_epsilon : Float
root_epsilon = nearest 1 (2 ^ 26)
