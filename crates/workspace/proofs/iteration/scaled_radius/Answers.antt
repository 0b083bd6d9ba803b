use lib.Ieee.{of_bits, round}
use Rattle.ieee.specs.Double.{nearest}
use Rattle.workspace.specs.Kernel.{scaled}
use Rattle.workspace.proofs.iteration.scaled_radius.Goals as goal

pub returns : goal.returns
unfolding scaled nearest of_bits round
returns c = rw c.abs.ensures
