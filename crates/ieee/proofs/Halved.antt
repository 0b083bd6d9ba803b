-- A double times 0.5 is that double divided by 2, for every double: NaN, infinities, zeros of both signs and subnormals too. Both are the rounding of one
-- fraction. Assumes nothing. ⊗ ⊘ are operations on doubles: they round.
use Rattle.std.proofs.Common.{◌≡◌, ℕ, ◌*◌, false, refl, ap, mul_comm}
use lib.Ieee.{Float, nan, inf, fin, binary64, up, down, unlike, round, mul, div}
use Rattle.ieee.specs.Double.{◌⊗◌, ◌⊘◌, half, two}

pub halved : (x : Float) → x ⊗ half ≡ x ⊘ two
unfolding mul div
halved nan = refl
halved (inf s) = refl
halved (fin s m e) = ap (λ (d : ℕ). round binary64 (unlike s false) (m * up e * 1) d) (mul_comm (down e) 2)
