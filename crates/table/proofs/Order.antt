-- The order of doubles as the search over a table needs it: what is at most a positive double is at most every positive double that is no smaller. x may be
-- any double, a NaN or an infinity too. Assumes nothing.
use mathlib.Core.Path.{◌≡◌}
use mathlib.Core.Logic.{inl, inr}
use mathlib.Core.Bool.{Bool, true, false, ◌&&◌, ◌||◌}
use Prim.Native.Nat.{ℕ, ◌+◌, ◌*◌}
use native.Mathlib.Nat.{eq-zero-or-pos}
use native.Mathlib.Omega.{arith}
use lib.IntN.{ℤ}
use lib.Dec.{T, ltb, eqb, lt→ltb}
use lib.Ieee.{Float, nan, inf, fin, up, down, lt, eq, le}
use lib.Ieee.Fits.{down_pos}
use lib.Ieee.Positive.{positive, through}
use Rattle.ieee.proofs.Monotone.{cross, le_of_cross}

or_left : (a b : Bool) → T a → T (a || b)
or_left true b t = tt
or_left false b t = absurd t

pub le_of_less : (x y : Float) → T (lt x y) → T (le x y)
unfolding le
le_of_less x y h = or_left (lt x y) (eq x y) h

-- a sign of minus, so -0 too
le_of_minus : (m : ℕ) (e : ℤ) (n : ℕ) (d : ℤ) → T (le (fin true m e) (fin false n d))
unfolding le
le_of_minus m e n d = go (m * up e * down d) (n * up d * down e)
  where
    go : (a b : ℕ) → T (ltb 0 (a + b) || (eqb a b && (false || eqb a 0)))
    go a b = elim (eq-zero-or-pos (a + b)) [
      | inl z ↦ let p : a ≡ 0 = omega arith in let q : b ≡ 0 = omega arith in rw (p, q) tt
      | inr p ↦ or_left (ltb 0 (a + b)) (eqb a b && (false || eqb a 0)) (lt→ltb 0 (a + b) p)
    ]

pub le_next : (x y z : Float) → T (positive y) → T (positive z) → T (le x y) → T (le y z) → T (le x z)
le_next x nan z p q h k = absurd p
le_next x (inf s) z p q h k = absurd p
le_next x (fin true n d) z p q h k = absurd p
le_next x (fin false n d) nan p q h k = absurd q
le_next x (fin false n d) (inf s) p q h k = absurd q
le_next x (fin false n d) (fin true o c) p q h k = absurd q
le_next nan (fin false n d) (fin false o c) p q h k = absurd (unfold le in h)
le_next (inf true) (fin false n d) (fin false o c) p q h k = unfold le in tt
le_next (inf false) (fin false n d) (fin false o c) p q h k = absurd (unfold le in h)
le_next (fin true m e) (fin false n d) (fin false o c) p q h k = le_of_minus m e o c
le_next (fin false m e) (fin false n d) (fin false o c) p q h k = le_of_cross m e o c
    (through (m * up e) (n * up d) (o * up c) (down e) (down d) (down c) (down_pos d) (cross m e n d h) (cross n d o c k))
