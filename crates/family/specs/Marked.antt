-- The marked cases of the stage counts, r to s, with r as a fraction. Document 01, "family.rs: stage counts"; RKG's by document 02, CR 5.
use Rattle.std.specs.Prelude.{List, [], ◌∷◌, ℕ, Bool, true, ◌&&◌, eqb}
use Rattle.ieee.specs.Double.{nearest, nought}
use Rattle.family.specs.declared.Family.{Family}
use Rattle.family.specs.declared.Family.TheVariants.{RKC, RKL1, RKL2, RKG1, RKG2}
use Rattle.family.specs.Family.{stage_count}

pub record Case : Type 0 where
  pub family : Family
  pub numerator : ℕ
  pub denominator : ℕ
  pub count : ℕ

abbrev pub case : Family → ℕ → ℕ → ℕ → Case
case f m n s = record { family = f; numerator = m; denominator = n; count = s }

unfoldable pub marked : List Case
marked =
    case RKC 0 1 2 ∷ case RKC 50 1 9 ∷ case RKC 1000000 1 200
    ∷ case RKL1 12 1 3 ∷ case RKL1 25 2 5 ∷ case RKL1 39800 1 199
    ∷ case RKL2 5 1 3 ∷ case RKL2 11 2 5
    ∷ case RKG1 5 1 2 ∷ case RKG1 7 1 3
    ∷ case RKG2 2 1 3 ∷ case RKG2 12 1 5 ∷ []

-- without a history, which none of these families reads
unfoldable pub right : Case → Bool
right c = eqb (stage_count c.family nought (nearest c.numerator c.denominator)) c.count

unfoldable pub all_right : List Case → Bool
all_right [] = true
all_right (c ∷ l) = right c && all_right l
