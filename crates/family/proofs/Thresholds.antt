-- Two doubles for each permitted k, a little above its reach and a little below: the count of the one is above k, and that of the other is not. A test over all
-- k, by computation. The root is not worked out: `nearest a L` is a bound of it, by the square of a.
use Prim.Native.Nat.{ℕ, ◌+◌, ◌-◌, ◌*◌, ◌/◌, ◌^◌, ◌≤◌, ◌<◌}
use native.Mathlib.Omega.{arith}
use mathlib.Core.Bool.{Bool, true, false, ◌&&◌, cond}
use lib.Dec.{T, ltb, leb, leb→le, ltb→lt}
use lib.Ieee.{Float, add, sub, mul, div, le, to_unsigned}
use lib.Ieee.Fits.{and_l, and_r}
use lib.Ieee.Positive.{num, den}
use lib.Ieee.Scale.{finite}
use Rattle.fractions.specs.Frac.{frac, ◌over◌}
use Rattle.ieee.specs.Double.{nearest}
use Rattle.ieee.specs.Sqrt.{squared_units}
use Rattle.ieee.specs.Whole.{ceil}
use Rattle.ieee.proofs.Every.{every, among}
use Rattle.ieee.proofs.RootBounds.{L}
use Rattle.family.specs.Family.{Orthogonal, Legendre1, Legendre2, Gegenbauer1, Gegenbauer2, made_of, smallest_count, largest_count, odd_only, permitted}
use Rattle.family.specs.Family.{facts_of}
use Rattle.family.specs.Reach.{reach, reach_num, reach_den, parts}
use Rattle.family.proofs.Rule.{offset, slope, shift, shifted, inner, after}
use Rattle.family.proofs.Range.{permitted_says}

-- the reach of k, by 14 in 2 ^ 53 more, or less
unfoldable pub high : Orthogonal → ℕ → Float
high f k = nearest (reach_num f k * (2 ^ 53 + 14)) (reach_den f k * 2 ^ 53)

unfoldable pub deep : Orthogonal → ℕ → Float
deep f k = nearest (reach_num f k * (2 ^ 53 - 14)) (reach_den f k * 2 ^ 53)

-- in smallest values: the root at the reach of k, as it is, and a little more
unfoldable pub full : Orthogonal → ℕ → ℕ
full f k = (2 * k + shift f) * L

unfoldable pub past : Orthogonal → ℕ → ℕ
past f k = let m = (2 * k + shift f) * L in m + m / 2 ^ 52

unfoldable good_above : Orthogonal → ℕ → Float → ℕ → Bool
good_above f k u a = let y = nearest a L in finite u && leb (a * a) (squared_units (inner f u)) && le (shifted f) y && ltb k (after f y)
    && leb ((parts - 1) * num u * reach_den f k) (parts * reach_num f k * den u)

unfoldable good_below : Orthogonal → ℕ → Float → ℕ → Bool
good_below f k u a = let x = inner f u in let y = nearest a L in finite u && finite x && leb (squared_units x) (a * a) && le (shifted f) y && leb (after f y) k
    && leb (parts * reach_num f k * den u) ((parts + 1) * num u * reach_den f k)

-- what they say
pub record Above (f : Orthogonal) (k : ℕ) (u : Float) (a : ℕ) : Type 0 where
  pub finite_u : T (finite u)
  pub root : a * a ≤ squared_units (inner f u)
  pub from : T (le (shifted f) (nearest a L))
  pub count : k < after f (nearest a L)
  pub near : (parts - 1) * num u * reach_den f k ≤ parts * reach_num f k * den u

pub record Below (f : Orthogonal) (k : ℕ) (u : Float) (a : ℕ) : Type 0 where
  pub finite_u : T (finite u)
  pub finite_x : T (finite (inner f u))
  pub root : squared_units (inner f u) ≤ a * a
  pub from : T (le (shifted f) (nearest a L))
  pub count : after f (nearest a L) ≤ k
  pub near : parts * reach_num f k * den u ≤ (parts + 1) * num u * reach_den f k

above_says : (f : Orthogonal) (k : ℕ) (u : Float) (a : ℕ) → T (good_above f k u a) → Above f k u a
unfolding good_above
above_says f k u a t =
    let a₁ = finite u in
    let a₂ = leb (a * a) (squared_units (inner f u)) in
    let a₃ = le (shifted f) (nearest a L) in
    let a₄ = ltb k (after f (nearest a L)) in
    let a₅ = leb ((parts - 1) * num u * reach_den f k) (parts * reach_num f k * den u) in
    let t₄ = and_l (a₁ && a₂ && a₃ && a₄) a₅ t in
    let t₃ = and_l (a₁ && a₂ && a₃) a₄ t₄ in
    let t₂ = and_l (a₁ && a₂) a₃ t₃ in
    record {
      finite_u = and_l a₁ a₂ t₂;
      root = leb→le (a * a) (squared_units (inner f u)) (and_r a₁ a₂ t₂);
      from = and_r (a₁ && a₂) a₃ t₃;
      count = ltb→lt k (after f (nearest a L)) (and_r (a₁ && a₂ && a₃) a₄ t₄);
      near = leb→le ((parts - 1) * num u * reach_den f k) (parts * reach_num f k * den u) (and_r (a₁ && a₂ && a₃ && a₄) a₅ t);
    }

below_says : (f : Orthogonal) (k : ℕ) (u : Float) (a : ℕ) → T (good_below f k u a) → Below f k u a
unfolding good_below
below_says f k u a t =
    let a₁ = finite u in
    let a₂ = finite (inner f u) in
    let a₃ = leb (squared_units (inner f u)) (a * a) in
    let a₄ = le (shifted f) (nearest a L) in
    let a₅ = leb (after f (nearest a L)) k in
    let a₆ = leb (parts * reach_num f k * den u) ((parts + 1) * num u * reach_den f k) in
    let t₅ = and_l (a₁ && a₂ && a₃ && a₄ && a₅) a₆ t in
    let t₄ = and_l (a₁ && a₂ && a₃ && a₄) a₅ t₅ in
    let t₃ = and_l (a₁ && a₂ && a₃) a₄ t₄ in
    let t₂ = and_l (a₁ && a₂) a₃ t₃ in
    record {
      finite_u = and_l a₁ a₂ t₂;
      finite_x = and_r a₁ a₂ t₂;
      root = leb→le (squared_units (inner f u)) (a * a) (and_r (a₁ && a₂) a₃ t₃);
      from = and_r (a₁ && a₂ && a₃) a₄ t₄;
      count = leb→le (after f (nearest a L)) k (and_r (a₁ && a₂ && a₃ && a₄) a₅ t₅);
      near = leb→le (parts * reach_num f k * den u) ((parts + 1) * num u * reach_den f k) (and_r (a₁ && a₂ && a₃ && a₄ && a₅) a₆ t);
    }

unfoldable good : Orthogonal → ℕ → Bool
good f k = good_above f k (high f k) (past f k) && good_below f k (deep f k) (full f k)

unfoldable permitted_good : Orthogonal → ℕ → Bool
permitted_good f k = cond (permitted (made_of f) k) (good f k) true

-- the test over the numbers from the smallest count to the largest
unfoldable all_good : Orthogonal → Bool
all_good f = every (permitted_good f) (largest_count (made_of f) + 1 - smallest_count (made_of f)) (smallest_count (made_of f))

test_Legendre1 : T (all_good Legendre1)
unfolding all_good every permitted_good permitted made_of smallest_count largest_count odd_only good good_above good_below high deep past full reach frac ◌over◌
    reach_num reach_den parts inner after offset slope shift shifted nearest add sub mul div le ceil to_unsigned facts_of
test_Legendre1 = tt

test_Legendre2 : T (all_good Legendre2)
unfolding all_good every permitted_good permitted made_of smallest_count largest_count odd_only good good_above good_below high deep past full reach frac ◌over◌
    reach_num reach_den parts inner after offset slope shift shifted nearest add sub mul div le ceil to_unsigned facts_of
test_Legendre2 = tt

test_Gegenbauer1 : T (all_good Gegenbauer1)
unfolding all_good every permitted_good permitted made_of smallest_count largest_count odd_only good good_above good_below high deep past full reach frac ◌over◌
    reach_num reach_den parts inner after offset slope shift shifted nearest add sub mul div le ceil to_unsigned facts_of
test_Gegenbauer1 = tt

test_Gegenbauer2 : T (all_good Gegenbauer2)
unfolding all_good every permitted_good permitted made_of smallest_count largest_count odd_only good good_above good_below high deep past full reach frac ◌over◌
    reach_num reach_den parts inner after offset slope shift shifted nearest add sub mul div le ceil to_unsigned facts_of
test_Gegenbauer2 = tt

test : (f : Orthogonal) → T (all_good f)
test Legendre1 = test_Legendre1
test Legendre2 = test_Legendre2
test Gegenbauer1 = test_Gegenbauer1
test Gegenbauer2 = test_Gegenbauer2

-- ---- what it says
good_if : (f : Orthogonal) (k : ℕ) → T (permitted (made_of f) k) → T (permitted_good f k) → T (good f k)
unfolding permitted_good
good_if f k = go (permitted (made_of f) k)
  where
    go : (b : Bool) → T b → T (cond b (good f k) true) → T (good f k)
    go true p t = t
    go false p t = absurd p

pub thresholds : (f : Orthogonal) (k : ℕ) → T (permitted (made_of f) k) → Above f k (high f k) (past f k) × Below f k (deep f k) (full f k)
unfolding good all_good
thresholds f k p =
    let r = permitted_says (made_of f) k p in
    let t = good_if f k p (among (permitted_good f) (largest_count (made_of f) + 1 - smallest_count (made_of f)) (smallest_count (made_of f)) k (test f)
    r.from (omega arith)) in (
      above_says f k (high f k) (past f k) (and_l (good_above f k (high f k) (past f k)) (good_below f k (deep f k) (full f k)) t),
      below_says f k (deep f k) (full f k) (and_r (good_above f k (high f k) (past f k)) (good_below f k (deep f k) (full f k)) t),
    )
