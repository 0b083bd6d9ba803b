-- No pattern that it makes a double of is a NaN's.
use Rattle.std.proofs.Common.{Bool, T, not, sym, ◌∙◌, subst, arith}
use lib.Ieee.{binary64}
use lib.Ieee.Fits.{mul-fits}
use Rattle.ieee.proofs.Cases.{low_bits, cut_lt, cut_bits}
use Rattle.ieee.proofs.guess.Goals as goal

pub float_from_bits-y0 : goal.float_from_bits-y0
float_from_bits-y0 c = low_bits _ (omega arith)

pub overflow_mul-h : goal.overflow_mul-h
overflow_mul-h c = record { fits = cut_lt _ (mul-fits binary64 _ _) }

pub float_from_bits-h : goal.float_from_bits-h
float_from_bits-h c = cut_bits _ (mul-fits binary64 _ _) (subst (λ (b : Bool). T (not b)) (sym (sym c.is_nan.ensures.value ∙ c.if-is_nan.false)) tt)
