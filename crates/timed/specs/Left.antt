-- What the loops that bench/ measures leave, over the definitions of ieee and workspace. ⊕ is an operation on doubles: it rounds.
use Rattle.std.specs.Prelude.{◌≡◌, ℕ, ◌*◌, ◌≤◌, min, length, take, drop, Float}
use mathlib.Core.List.{List, ◌++◌, map, foldl}
use Rattle.ieee.specs.Double.{◌⊕◌, nought, two}
use Rattle.ieee.specs.Sqrt.{sqrt}
use Rattle.coefficients.specs.declared.Coefficients.{Coefficients}
use Rattle.workspace.specs.Vectors.{Vectors, Becomes}

-- the roots of xs over the front of out, as far as both go
unfoldable pub roots_over : List Float → List Float → List Float
roots_over xs out = let n = min (length out) (length xs) in take n (map sqrt xs) ++ drop n out

-- from 2 on, each root waits for the one before
unfoldable pub root_chain : List Float → Float
root_chain xs = foldl (λ a x. sqrt (a ⊕ x)) two xs

-- the coefficients of a row, which makes no use of a time
abbrev pub weights : Float → Float → Float → Float → Coefficients
weights mu nu mu~ gamma~ = record { mu = mu; nu = nu; mu_tilde = mu~; gamma_tilde = gamma~; theta = nought }

-- n is small enough, and the area has the vectors
abbrev pub Holds : ℕ → List Float → Type 0
Holds n area = (n ≤ 512) × (11 * n ≤ length area)

-- and d is as long as each of them
abbrev pub Takes : ℕ → List Float → List Float → Type 0
Takes n area d = (n ≤ 512) × (11 * n ≤ length area) × (length d ≡ n)

-- from area l to area m: a step of the vectors where its lengths are fit for it, and nothing where they are not
pub record Steps (fit : Type 0) (n : ℕ) (l m : List Float) (f : Vectors → Vectors) : Type 0 where
  pub stepped : fit → Becomes n l m f
  pub left : (fit → ⊥) → m ≡ l
