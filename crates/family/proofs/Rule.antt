-- The stage rule of the four families as ⌈(√(offset + slope · r) − shift) / 2⌉: `inner`, the root, `after`. (The rule multiplies by 0.5; that it is this one,
-- `rule_is` has from `Divided`.) Each step keeps the order of the doubles that are not negative, so a bound of the count at one double is a bound of it at
-- another (`more_from`, `less_to`). Assumes nothing.
-- ⊕ ⊖ ⊗ ⊘ are operations on doubles: they round.
use mathlib.Core.Path.{◌≡◌, refl, sym, ◌∙◌, subst}
use mathlib.Core.Bool.{false}
use Prim.Native.Nat.{ℕ, suc, ◌*◌, ◌≤◌}
use lib.IntN.{ℤ, pos}
use lib.Dec.{T}
use lib.Ieee.{Float, fin, binary64, add, mul, le, to_unsigned}
use lib.Ieee.Scale.{finite}
use Rattle.ieee.specs.Double.{◌⊕◌, ◌⊖◌, ◌⊗◌, ◌⊘◌, nearest, nought, one, two, three, four, eight, nine, twelve, twenty_five}
use Rattle.ieee.specs.Sqrt.{sqrt, squared_units}
use Rattle.ieee.specs.Whole.{ceil}
use Rattle.ieee.proofs.Monotone.{NonNeg, number, least, Some, some_from, times_mono, times_nonneg, plus_mono, plus_nonneg, minus_mono, minus_nonneg}
use Rattle.ieee.proofs.Monotone.{div_by_mono, div_by_nonneg, sqrt_mono, sqrt_nonneg, ceil_mono, ceil_nonneg, round_nonneg, le_both}
use Rattle.ieee.proofs.Casts.{cast_mono}
use Rattle.ieee.proofs.RootBounds.{L, root_from, root_to}
use Rattle.family.specs.Family.{Orthogonal, Legendre1, Legendre2, Gegenbauer1, Gegenbauer2, made_of, before_limits, facts_of}
use Rattle.family.specs.Divided.{by_division}
use Rattle.family.proofs.Divided.{rule_divided}

-- ---- the rule's parameters
unfoldable pub offset : Orthogonal → Float
offset Legendre1 = one
offset Legendre2 = nine
offset Gegenbauer1 = nine
offset Gegenbauer2 = twenty_five

unfoldable pub slope : Orthogonal → Float
slope Legendre1 = four
slope Legendre2 = eight
slope Gegenbauer1 = eight
slope Gegenbauer2 = twelve

unfoldable pub shift : Orthogonal → ℕ
shift Legendre1 = 1
shift Legendre2 = 1
shift Gegenbauer1 = 3
shift Gegenbauer2 = 3

-- (and as a double)
unfoldable pub shifted : Orthogonal → Float
shifted Legendre1 = one
shifted Legendre2 = one
shifted Gegenbauer1 = three
shifted Gegenbauer2 = three

unfoldable pub inner : Orthogonal → Float → Float
inner f r = offset f ⊕ slope f ⊗ r

unfoldable pub after : Orthogonal → Float → ℕ
after f y = to_unsigned 64 (ceil ((y ⊖ shifted f) ⊘ two))

divided_is : (f : Orthogonal) (q r : Float) → by_division (facts_of (made_of f)).rule q r ≡ after f (sqrt (inner f r))
unfolding made_of inner after offset slope shifted by_division facts_of
divided_is Legendre1 q r = refl
divided_is Legendre2 q r = refl
divided_is Gegenbauer1 q r = refl
divided_is Gegenbauer2 q r = refl

pub rule_is : (f : Orthogonal) (q r : Float) → before_limits (made_of f) q r ≡ after f (sqrt (inner f r))
unfolding before_limits
rule_is f q r = rule_divided (facts_of (made_of f)).rule q r ∙ divided_is f q r

-- ---- inner
module _ (n : ℕ) (d : ℤ) (n' : ℕ) (d' : ℤ) where
  abbrev line : Float → Float
  line r = fin false n d ⊕ fin false (suc n') d' ⊗ r

  line_nonneg : (r : Float) → NonNeg r → NonNeg (line r)
  line_nonneg r p = plus_nonneg n d (fin false (suc n') d' ⊗ r) (times_nonneg n' d' r p)

  line_mono : (r r' : Float) → NonNeg r → NonNeg r' → T (le r r') → T (le (line r) (line r'))
  line_mono r r' p p' h = plus_mono n d (fin false (suc n') d' ⊗ r) (fin false (suc n') d' ⊗ r') (times_nonneg n' d' r p) (times_nonneg n' d' r' p')
      (times_mono n' d' r r' p p' h)

pub inner_nonneg : (f : Orthogonal) (r : Float) → NonNeg r → NonNeg (inner f r)
unfolding inner offset slope
inner_nonneg Legendre1 = line_nonneg 1 (pos 0) 0 (pos 2)
inner_nonneg Legendre2 = line_nonneg 9 (pos 0) 0 (pos 3)
inner_nonneg Gegenbauer1 = line_nonneg 9 (pos 0) 0 (pos 3)
inner_nonneg Gegenbauer2 = line_nonneg 25 (pos 0) 2 (pos 2)

inner_mono : (f : Orthogonal) (r r' : Float) → NonNeg r → NonNeg r' → T (le r r') → T (le (inner f r) (inner f r'))
unfolding inner offset slope
inner_mono Legendre1 = line_mono 1 (pos 0) 0 (pos 2)
inner_mono Legendre2 = line_mono 9 (pos 0) 0 (pos 3)
inner_mono Gegenbauer1 = line_mono 9 (pos 0) 0 (pos 3)
inner_mono Gegenbauer2 = line_mono 25 (pos 0) 2 (pos 2)

one_first : (f : Orthogonal) → T (le one (inner f nought))
unfolding inner offset slope le add mul
one_first Legendre1 = tt
one_first Legendre2 = tt
one_first Gegenbauer1 = tt
one_first Gegenbauer2 = tt

inner_some : (f : Orthogonal) (r : Float) → NonNeg r → Some (inner f r)
inner_some f r p =
    let z = number 0 (pos 0) in
    some_from (inner f r) (inner_nonneg f r p) (le_both one (inner f nought) (inner f r) (number 1 (pos 0)) (inner_nonneg f nought z) (inner_nonneg f r p)
    (one_first f) (inner_mono f nought r z p (least r p)))

pub nearest_nonneg : (a b : ℕ) → NonNeg (nearest a b)
unfolding nearest
nearest_nonneg a b = round_nonneg binary64 a b

-- ---- after
module _ (n : ℕ) (d : ℤ) where
  abbrev less : Float → Float
  less y = (y ⊖ fin false n d) ⊘ two

  less_nonneg : (y : Float) → NonNeg y → T (le (fin false n d) y) → NonNeg (less y)
  less_nonneg y q k = div_by_nonneg 0 (pos 1) (y ⊖ fin false n d) (minus_nonneg n d y q k)

  last_mono : (x y : Float) → NonNeg x → NonNeg y → T (le (fin false n d) x) → T (le (fin false n d) y) → T (le x y)
      → to_unsigned 64 (ceil (less x)) ≤ to_unsigned 64 (ceil (less y))
  last_mono x y p q l k h =
      let c = ceil_mono (less x) (less y) (less_nonneg x p l) (less_nonneg y q k)
      (div_by_mono 0 (pos 1) (x ⊖ fin false n d) (y ⊖ fin false n d) (minus_nonneg n d x p l) (minus_nonneg n d y q k) (minus_mono n d x y p q l k h)) in
      cast_mono (ceil (less x)) (ceil (less y)) (ceil_nonneg (less x) (less_nonneg x p l)) (ceil_nonneg (less y) (less_nonneg y q k)) c

after_mono : (f : Orthogonal) (x y : Float) → NonNeg x → NonNeg y → T (le (shifted f) x) → T (le (shifted f) y) → T (le x y) → after f x ≤ after f y
unfolding after shifted
after_mono Legendre1 = last_mono 1 (pos 0)
after_mono Legendre2 = last_mono 1 (pos 0)
after_mono Gegenbauer1 = last_mono 3 (pos 0)
after_mono Gegenbauer2 = last_mono 3 (pos 0)

-- ---- the root of `inner` is the shift at least
shift_first : (f : Orthogonal) → T (le (shifted f) (sqrt (inner f nought)))
unfolding inner offset slope shifted le sqrt add mul
shift_first Legendre1 = tt
shift_first Legendre2 = tt
shift_first Gegenbauer1 = tt
shift_first Gegenbauer2 = tt

shift_nonneg : (f : Orthogonal) → NonNeg (shifted f)
unfolding shifted
shift_nonneg Legendre1 = number 1 (pos 0)
shift_nonneg Legendre2 = number 1 (pos 0)
shift_nonneg Gegenbauer1 = number 3 (pos 0)
shift_nonneg Gegenbauer2 = number 3 (pos 0)

from_shift : (f : Orthogonal) (r : Float) → NonNeg r → T (le (shifted f) (sqrt (inner f r)))
from_shift f r p =
    let z = number 0 (pos 0) in
    let n = inner_nonneg f nought z in
    let o = inner_some f nought z in
    let n' = inner_nonneg f r p in
    let o' = inner_some f r p in
    le_both (shifted f) (sqrt (inner f nought)) (sqrt (inner f r)) (shift_nonneg f) (sqrt_nonneg (inner f nought) n o) (sqrt_nonneg (inner f r) n' o')
    (shift_first f)
    (sqrt_mono (inner f nought) (inner f r) n n' o o' (inner_mono f nought r z p (least r p)))

-- ---- the count at one double, u, bounds it at another, r. a / L is a bound of the root at u
pub more_from : (f : Orthogonal) (quotient u r : Float) (a : ℕ) → NonNeg u → NonNeg r → T (le u r) → a * a ≤ squared_units (inner f u)
    → T (le (shifted f) (nearest a L)) → after f (nearest a L) ≤ before_limits (made_of f) quotient r
more_from f quotient u r a p q h w l =
    let n = inner_nonneg f u p in
    let o = inner_some f u p in
    let n' = inner_nonneg f r q in
    let o' = inner_some f r q in
    let s = sqrt_nonneg (inner f u) n o in
    let s' = sqrt_nonneg (inner f r) n' o' in
    subst (λ (z : ℕ). after f (nearest a L) ≤ z) (sym (rule_is f quotient r))
    (after_mono f (nearest a L) (sqrt (inner f r)) (nearest_nonneg a L) s' l (from_shift f r q)
    (le_both (nearest a L) (sqrt (inner f u)) (sqrt (inner f r)) (nearest_nonneg a L) s s' (root_from (inner f u) n o a w)
    (sqrt_mono (inner f u) (inner f r) n n' o o' (inner_mono f u r p q h))))

pub less_to : (f : Orthogonal) (quotient u r : Float) (a : ℕ) → NonNeg u → NonNeg r → T (le r u) → T (finite (inner f u)) → squared_units (inner f u) ≤ a * a
    → T (le (shifted f) (nearest a L)) → before_limits (made_of f) quotient r ≤ after f (nearest a L)
less_to f quotient u r a p q h i w l =
    let n = inner_nonneg f u p in
    let o = inner_some f u p in
    let n' = inner_nonneg f r q in
    let o' = inner_some f r q in
    let s = sqrt_nonneg (inner f u) n o in
    let s' = sqrt_nonneg (inner f r) n' o' in
    subst (λ (z : ℕ). z ≤ after f (nearest a L)) (sym (rule_is f quotient r))
    (after_mono f (sqrt (inner f r)) (nearest a L) s' (nearest_nonneg a L) (from_shift f r q) l
    (le_both (sqrt (inner f r)) (sqrt (inner f u)) (nearest a L) s' s (nearest_nonneg a L)
    (sqrt_mono (inner f r) (inner f u) n' n o' o (inner_mono f r u q p h)) (root_to (inner f u) n o i a w)))
