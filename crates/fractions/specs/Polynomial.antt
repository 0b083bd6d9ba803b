-- Polynomials: the list of the coefficients, from the constant on. Sums and multiples are those of lists. ⊕ ⊗ are operations on fractions: they are exact.
use Rattle.std.specs.Prelude.{List, [], ◌∷◌, pos}
use Rattle.fractions.specs.Frac.{Frac, ◌⊕◌, ◌⊗◌, int}

unfoldable pub eval : List Frac → Frac → Frac
eval [] z = int (pos 0)
eval (a ∷ p) z = a ⊕ z ⊗ eval p z

-- the variable times a polynomial
unfoldable pub times_variable : List Frac → List Frac
times_variable p = int (pos 0) ∷ p
