-- Lengths, from the tests of them.
use mathlib.Core.Path.{◌≡◌}
use mathlib.Core.Bool.{Bool, true, ◌&&◌}
use mathlib.Core.List.{List}
use Prim.Native.Nat.{ℕ, ◌*◌, ◌≤◌}
use borrow.Author.Tests.{leb-true, eqb-true}
use lib.Dec.{leb}
use lib.ListN.{length}
use lib.Ieee.{Float}
pub use Rattle.ieee.proofs.Logic.{both}
use Rattle.family.specs.Family.{family_of}
use Rattle.workspace.specs.Vectors.{vector_count}
use Rattle.driver.specs.Calls.{sized, whole_area, as_long}

-- tests put all at once
pub three : (a b c : Bool) → ((a && b) && c) ≡ true → (a ≡ true) × (b ≡ true) × (c ≡ true)
three a b c e = let t = both (a && b) c e in let u = both a b t.0 in (u.0, u.1, t.1)

pub four : (a b c d : Bool) → (((a && b) && c) && d) ≡ true → (a ≡ true) × (b ≡ true) × (c ≡ true) × (d ≡ true)
four a b c d e = let t = both ((a && b) && c) d e in let u = three a b c t.0 in (u.0, u.1, u.2, t.1)

pub most : (n : ℕ) → sized n ≡ true → n ≤ 512
unfolding sized
most n e = leb-true n 512 (both (leb 1 n) (leb n 512) e).1

pub area_long : (f n : ℕ) (area : List Float) → whole_area f n area ≡ true → length area ≡ vector_count (family_of f) * n
unfolding whole_area
area_long f n area e = eqb-true (length area) (vector_count (family_of f) * n) e

-- the area's and the brought vector's
pub both_long : (f n : ℕ) (area v : List Float) → (whole_area f n area && as_long n v) ≡ true → (length area ≡ vector_count (family_of f) * n) × (length v ≡ n)
unfolding as_long
both_long f n area v e = let t = both (whole_area f n area) (as_long n v) e in (area_long f n area t.0, eqb-true (length v) n t.1)
