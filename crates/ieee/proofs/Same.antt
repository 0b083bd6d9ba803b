-- What std's methods of a double give is what the definitions here say. Assumes nothing.
use Rattle.std.proofs.Common.{◌≡◌, ℕ, ◌+◌, ◌-◌, ◌*◌, ◌/◌, ◌<◌, T, false, true, refl, ap, arith}
use lib.Ieee.{Float, nan, inf, fin, binary64, up, down, round, is_nan}
use lib.Ieee.Fits.{down_pos}
use lib.Ieee.Scale.{finite}
use Rattle.std.specs.Float.{float_is_finite, float_with_sign, round_with}
use Rattle.std.specs.Float as std
use Rattle.ieee.specs.Whole as whole

pub finite_same : (x : Float) → float_is_finite x ≡ finite x
unfolding float_is_finite
finite_same nan = refl
finite_same (inf s) = refl
finite_same (fin s m e) = refl

pub abs_same : (x : Float) → float_with_sign false x ≡ whole.abs x
unfolding float_with_sign whole.abs
abs_same nan = refl
abs_same (inf s) = refl
abs_same (fin s m e) = refl

-- the next whole number from n / d on, in two orders
over_same : (n d : ℕ) → 0 < d → n + d - 1 ≡ n + (d - 1)
over_same n d h = omega arith

pub floor_same : (x : Float) → std.floor binary64 x ≡ whole.floor x
unfolding round_with whole.floor
floor_same nan = refl
floor_same (inf s) = refl
floor_same (fin false m e) = refl
floor_same (fin true m e) = ap (λ (a : ℕ). round binary64 true (a / down e) 1) (over_same (m * up e) (down e) (down_pos e))

pub ceil_same : (x : Float) → std.ceil binary64 x ≡ whole.ceil x
unfolding round_with whole.ceil
ceil_same nan = refl
ceil_same (inf s) = refl
ceil_same (fin false m e) = ap (λ (a : ℕ). round binary64 false (a / down e) 1) (over_same (m * up e) (down e) (down_pos e))
ceil_same (fin true m e) = refl

pub nan_is : (x : Float) → T (is_nan x) → nan ≡ x
unfolding is_nan
nan_is nan t = refl
nan_is (inf s) t = absurd t
nan_is (fin s m e) t = absurd t
