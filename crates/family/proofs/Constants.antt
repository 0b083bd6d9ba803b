-- The doubles that the code writes in decimal, which it has by their bits. Assumes nothing.
use Rattle.std.proofs.Common.{◌≡◌, refl}
use lib.Ieee.{binary64, of_bits}
use Rattle.ieee.specs.Double.{nearest, nought, half, one, two, three, four, six, eight, nine, ten, twelve, thirteen, twenty_five}

pub nought_bits : of_bits binary64 0 ≡ nought
unfolding of_bits
nought_bits = refl

pub half_bits : of_bits binary64 0x3fe0000000000000 ≡ half
unfolding of_bits
half_bits = refl

pub one_bits : of_bits binary64 0x3ff0000000000000 ≡ one
unfolding of_bits
one_bits = refl

pub two_bits : of_bits binary64 0x4000000000000000 ≡ two
unfolding of_bits
two_bits = refl

pub three_bits : of_bits binary64 0x4008000000000000 ≡ three
unfolding of_bits
three_bits = refl

pub four_bits : of_bits binary64 0x4010000000000000 ≡ four
unfolding of_bits
four_bits = refl

pub six_bits : of_bits binary64 0x4018000000000000 ≡ six
unfolding of_bits
six_bits = refl

pub eight_bits : of_bits binary64 0x4020000000000000 ≡ eight
unfolding of_bits
eight_bits = refl

pub nine_bits : of_bits binary64 0x4022000000000000 ≡ nine
unfolding of_bits
nine_bits = refl

pub ten_bits : of_bits binary64 0x4024000000000000 ≡ ten
unfolding of_bits
ten_bits = refl

pub twelve_bits : of_bits binary64 0x4028000000000000 ≡ twelve
unfolding of_bits
twelve_bits = refl

pub thirteen_bits : of_bits binary64 0x402a000000000000 ≡ thirteen
unfolding of_bits
thirteen_bits = refl

pub twenty_five_bits : of_bits binary64 0x4039000000000000 ≡ twenty_five
unfolding of_bits
twenty_five_bits = refl

pub ruleset constants = (
  nought_bits,
  half_bits,
  one_bits,
  two_bits,
  three_bits,
  four_bits,
  six_bits,
  eight_bits,
  nine_bits,
  ten_bits,
  twelve_bits,
  thirteen_bits,
  twenty_five_bits,
)

-- the rules' factors
pub rkc_slope : of_bits binary64 0x3ff8a3d70a3d70a4 ≡ nearest 154 100
unfolding of_bits nearest
rkc_slope = refl

pub tsrkc2_slope : of_bits binary64 4605018734763878405 ≡ nearest 759782816506459 1000000000000000
unfolding of_bits nearest
tsrkc2_slope = refl

pub tsrkc2_bend : of_bits binary64 4603567164031160453 ≡ nearest 598626091572911 1000000000000000
unfolding of_bits nearest
tsrkc2_bend = refl

pub ruleset factors = (rkc_slope, tsrkc2_slope, tsrkc2_bend)
