-- Two values of the format with the same bits are one value.
use Rattle.std.proofs.Common.{◌≡◌, T, sym, ap, ◌∙◌, eq-eqb, eqb-true, rules}
use lib.Ieee.{Float, binary64, fits, of_bits, to_bits}
use lib.Ieee.Bits.{of_bits-to_bits}
use Rattle.stored.proofs.same.Goals as goal

one_value : (x y : Float) → T (fits binary64 x) → T (fits binary64 y) → to_bits binary64 x ≡ to_bits binary64 y → x ≡ y
one_value x y p q e = sym (of_bits-to_bits binary64 x p) ∙ ap (of_bits binary64) e ∙ of_bits-to_bits binary64 y q

pub returns : goal.returns
returns c = let w = c.well_formed in (
  λ t. one_value c.args.x c.args.y (search rules) (search rules) (sym c.bits_of.ensures ∙ eqb-true _ _ t ∙ c.bits_of-2.ensures),
  λ t. eq-eqb _ _ (c.bits_of.ensures ∙ ap (to_bits binary64) t ∙ sym c.bits_of-2.ensures),
)
