-- How far s stages reach, and what is claimed of the stage counts of RKL1, RKL2, RKG1 and RKG2. Document 01, "family.rs: stage counts", demand 3, and
-- document 02, CR 5: RKG's reach.
use Rattle.std.specs.Prelude.{◌≡◌, ◌⊎◌, ℕ, ◌+◌, ◌-◌, ◌*◌, ◌^◌, ◌≤◌, ◌<◌, nat_abs, T, Float}
use Rattle.std.specs.Float.Ieee.Positive.{num, den}
use Rattle.fractions.specs.Frac.{Frac, frac}
use Rattle.family.specs.Family.{Orthogonal, Legendre1, Legendre2, Gegenbauer1, Gegenbauer2, made_of, permitted, largest_count}

unfoldable pub reach : Orthogonal → ℕ → Frac
reach Legendre1 s = frac (s * (s + 1)) 1
reach Legendre2 s = frac ((s - 1) * (s + 2)) 2
reach Gegenbauer1 s = frac (s * (s + 3)) 2
reach Gegenbauer2 s = frac ((s - 1) * (s + 4)) 3

-- its parts, in whole numbers
unfoldable pub reach_num : Orthogonal → ℕ → ℕ
reach_num f s = nat_abs (reach f s).num

unfoldable pub reach_den : Orthogonal → ℕ → ℕ
reach_den f s = (reach f s).den

-- a reach and r are compared up to one part in 2 ^ 49 of r
unfoldable pub parts : ℕ
parts = 2 ^ 49

-- s serves the scaled radius r, which is num r / den r: s is permitted; it is the largest, or it reaches r but for r / 2 ^ 49; and no smaller permitted count
-- reaches farther than r and r / 2 ^ 49 more. In whole numbers.
pub record Serves (f : Orthogonal) (r : Float) (s : ℕ) : Type 0 where
  pub allowed : T (permitted (made_of f) s)
  pub reaches : (s ≡ largest_count (made_of f)) ⊎ ((parts - 1) * num r * reach_den f s ≤ parts * reach_num f s * den r)
  pub least : (k : ℕ) → T (permitted (made_of f) k) → k < s → parts * reach_num f k * den r ≤ (parts + 1) * num r * reach_den f k
