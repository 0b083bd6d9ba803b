-- TSRKC2's two constants, which the code has by their bits. Assumes nothing.
use Rattle.std.proofs.Common.{◌≡◌, refl}
use lib.Ieee.{binary64, of_bits}
use Rattle.coefficients.specs.Rows.{t_star}
use Rattle.ieee.specs.Double.{nearest}

pub t_star_bits : of_bits binary64 0x3ff199999999999a ≡ t_star
unfolding of_bits nearest
t_star_bits = refl

pub ruleset stars = (t_star_bits)
