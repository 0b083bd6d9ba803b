-- An area of zeros with the starting temperature as its kept state is the area of the outset, and there is room for it. Assumes nothing.
use mathlib.Core.Path.{◌≡◌}
use mathlib.Core.List.{List}
use Prim.Native.Nat.{ℕ, ◌*◌, ◌≤◌}
use native.Mathlib.Omega.{arith}
use lib.ListN.{length, replicate}
use lib.Ieee.{Float}
use Rattle.ieee.specs.Double.{nought}
use Rattle.family.specs.declared.Family.{Family}
use Rattle.family.specs.Family.{family_of}
use Rattle.workspace.specs.Vectors.{◌with◌≔◌, vector_count, unpack, state}
use Rattle.workspace.proofs.Areas.{at_most_twelve, packed}
use Rattle.heat_sink.specs.declared.Inverter.{Inverter}
use Rattle.inverter.specs.Day.{area_size, largest_area, first_area}

-- the room for it is enough, whatever the family
pub has_room : (f : Family) {k : ℕ} (n : ℕ) → k ≡ vector_count f → n ≤ 512 → k * n ≤ largest_area
has_room f n e h = omega (arith, at_most_twelve f n e)

pub outset_area : (m : Inverter) (area : List Float) → length area ≡ area_size m
    → unpack m.n area ≡ (unpack m.n (replicate (area_size m) nought) with state ≔ replicate m.n m.initial) → area ≡ first_area m
unfolding first_area
outset_area m area l e = packed (family_of m.family) m.n area l e
