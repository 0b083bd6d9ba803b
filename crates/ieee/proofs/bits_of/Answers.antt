-- What is a NaN is the only one.
use Rattle.std.proofs.Common.{◌≡◌, sym, ap, ◌∙◌}
use lib.Ieee.{Float, nan, binary64, to_bits}
use Rattle.ieee.proofs.Logic.{yes}
use Rattle.ieee.proofs.Same.{nan_is}
use Rattle.ieee.proofs.bits_of.Goals as goal

pattern : (x : Float) → nan ≡ x → 0x7ff8000000000000 ≡ to_bits binary64 x
unfolding to_bits
pattern x e = ap (to_bits binary64) e

pub returns-then-is_nan : goal.returns-then-is_nan
returns-then-is_nan c = pattern c.args.x (nan_is c.args.x (yes (sym c.is_nan.ensures.value ∙ c.if-is_nan.true)))
