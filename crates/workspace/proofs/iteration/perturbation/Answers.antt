use lib.Ieee.{of_bits}
use Rattle.ieee.specs.Double.{root_epsilon, nearest}
use Rattle.workspace.specs.Kernel.{perturbation_of}
use Rattle.workspace.proofs.iteration.perturbation.Goals as goal

pub returns : goal.returns
unfolding perturbation_of root_epsilon nearest of_bits
returns c = rw (c.max.ensures, c.norm_of.ensures)
