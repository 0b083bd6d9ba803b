use lib.Ieee.{of_bits}
use Rattle.workspace.specs.Kernel.{error_in}
use Rattle.workspace.proofs.error.error_at.Goals as goal

pub returns-in-BothDerivatives : goal.returns-in-BothDerivatives
unfolding error_in of_bits
returns-in-BothDerivatives c = rw c.in-BothDerivatives.is

pub returns-in-FirstDerivative : goal.returns-in-FirstDerivative
unfolding error_in
returns-in-FirstDerivative c = rw c.in-FirstDerivative.is

pub returns-in-LastDerivative : goal.returns-in-LastDerivative
unfolding error_in
returns-in-LastDerivative c = rw c.in-LastDerivative.is
