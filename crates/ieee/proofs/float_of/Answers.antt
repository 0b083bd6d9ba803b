-- The patterns of NaN are those whose lower 63 bits are above those of infinity.
use Rattle.std.proofs.Common.{Bool, not, T, sym, ◌∙◌, subst, le-ltb, lt-ltb}
use lib.Ieee.{binary64, of_bits}
use lib.Ieee.Bits.{nan_bits_above, nan_bits_is}
use Rattle.ieee.proofs.Same.{nan_is}
use Rattle.ieee.proofs.float_of.Goals as goal

pub float_from_bits-result : goal.float_from_bits-result
float_from_bits-result c =
    subst (λ (b : Bool). T (not b)) (sym (nan_bits_above binary64 c.args.bits ∙ le-ltb _ _ c.if-bits-gt9218868437227405312.false)) tt

pub returns-then-bits-gt9218868437227405312 : goal.returns-then-bits-gt9218868437227405312
unfolding of_bits
returns-then-bits-gt9218868437227405312 c =
    let b = c.args.bits in
    nan_is (of_bits binary64 b) (subst T (sym (sym (nan_bits_is binary64 b) ∙ nan_bits_above binary64 b ∙ lt-ltb _ _ c.if-bits-gt9218868437227405312.true)) tt)
