-- The constant is 2 ^ 520.
use Rattle.std.proofs.Common.{ap}
use Rattle.std.specs.Float.Ieee.{of_bits}
use Rattle.norm.specs.Norm.{raised}
use Rattle.norm.proofs.raised_root_of.Goals as goal

pub returns : goal.returns
unfolding of_bits raised
returns c = ap raised c.root_of.ensures
