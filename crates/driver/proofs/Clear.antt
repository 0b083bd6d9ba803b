-- What a call knows that the code has found no cause for: no test fails, each passes, and, from test 3, how long the area and the vector it brings are. From
-- there, for any list that begins with the three tests of family, n and lengths.
use mathlib.Core.Path.{◌≡◌, sym}
use mathlib.Core.Bool.{Bool, ◌&&◌}
use mathlib.Core.List.{List, ◌∷◌}
use Prim.Native.Nat.{ℕ, ◌*◌}
use lib.ListN.{length}
use lib.Ieee.{Float}
use Rattle.family.specs.Family.{known, family_of}
use Rattle.workspace.specs.Vectors.{vector_count}
use Rattle.driver.specs.Calls.{Test, ◌∶◌, admitted, first_failing, sized, whole_area, as_long}
use Rattle.driver.proofs.Ladder.{Passing, each_passes}
use Rattle.driver.proofs.Sizes.{area_long, both_long}

pub record Clear (f n : ℕ) (area : List Float) (tests : List Test) : Type 0 where
  pub none : first_failing tests ≡ admitted
  pub passing : Passing tests
  pub long : length area ≡ vector_count (family_of f) * n

-- and the vector that the call brings
pub record Brings (f n : ℕ) (area v : List Float) (tests : List Test) : Type 0 where
  pub none : first_failing tests ≡ admitted
  pub passing : Passing tests
  pub long : length area ≡ vector_count (family_of f) * n
  pub brought : length v ≡ n

abbrev from_three : ℕ → ℕ → Bool → List Test → List Test
from_three f n lengths more = 1 ∶ known f ∷ 2 ∶ sized n ∷ 3 ∶ lengths ∷ more

module _ (f n : ℕ) (area : List Float) where
  pub clear : (more : List Test) → admitted ≡ first_failing (from_three f n (whole_area f n area) more)
      → Clear f n area (from_three f n (whole_area f n area) more)
  clear more e =
      let ts = from_three f n (whole_area f n area) more in
      let none = sym e in
      let p = each_passes ts none in
      record { none = none; passing = p; long = area_long f n area p.1.1.0 }

  pub brings : (v : List Float) (more : List Test) → admitted ≡ first_failing (from_three f n (whole_area f n area && as_long n v) more)
      → Brings f n area v (from_three f n (whole_area f n area && as_long n v) more)
  brings v more e =
      let ts = from_three f n (whole_area f n area && as_long n v) more in
      let none = sym e in
      let p = each_passes ts none in
      let l = both_long f n area v p.1.1.0 in
      record { none = none; passing = p; long = l.0; brought = l.1 }
