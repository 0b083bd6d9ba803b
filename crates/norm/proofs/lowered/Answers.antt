-- The constant is 2 ^ -520.
use Rattle.std.proofs.Common.{refl}
use Rattle.std.specs.Float.Ieee.{of_bits}
use Rattle.norm.specs.Norm.{lowered}
use Rattle.norm.proofs.lowered.Goals as goal

pub returns : goal.returns
unfolding of_bits lowered
returns c = refl
