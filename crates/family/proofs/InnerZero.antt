-- −0 counts as 0 under the root of every orthogonal family's rule. Assumes nothing. ⊕ ⊗ are operations on doubles: they round.
use mathlib.Core.Path.{◌≡◌, ap}
use Prim.Native.Nat.{ℕ, ◌*◌}
use native.Mathlib.Nat.{mul-pos}
use native.Mathlib.Omega.{arith}
use mathlib.Core.Bool.{true, false}
use lib.IntN.{ℤ, pos}
use lib.Ieee.{Float, fin, up, down, add, mul}
use lib.Ieee.Fits.{down_pos}
use Rattle.ieee.specs.Double.{◌⊕◌, ◌⊗◌, nought}
use Rattle.ieee.proofs.Value.{round_none}
use Rattle.family.specs.Family.{Orthogonal, Legendre1, Legendre2, Gegenbauer1, Gegenbauer2}
use Rattle.family.proofs.Rule.{offset, slope, inner}

minus_zero : (n : ℕ) (d : ℤ) (e : ℤ) → fin false n d ⊗ fin true 0 e ≡ fin true 0 (pos 0)
unfolding mul
minus_zero n d e = round_none true (n * up d * (0 * up e)) (down d * down e) (mul-pos (down_pos d) (down_pos e)) (flat (n * up d) (up e))
  where
    flat : (a u : ℕ) → a * (0 * u) ≡ 0
    flat a u = omega arith

pub inner_zero : (f : Orthogonal) (e : ℤ) → inner f (fin true 0 e) ≡ inner f nought
unfolding inner offset slope add mul
inner_zero Legendre1 e = ap (λ (z : Float). fin false 1 (pos 0) ⊕ z) (minus_zero 1 (pos 2) e)
inner_zero Legendre2 e = ap (λ (z : Float). fin false 9 (pos 0) ⊕ z) (minus_zero 1 (pos 3) e)
inner_zero Gegenbauer1 e = ap (λ (z : Float). fin false 9 (pos 0) ⊕ z) (minus_zero 1 (pos 3) e)
inner_zero Gegenbauer2 e = ap (λ (z : Float). fin false 25 (pos 0) ⊕ z) (minus_zero 3 (pos 2) e)
