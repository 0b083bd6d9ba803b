use Rattle.std.proofs.Common.{⊎_elim}
use lib.Ieee.{of_bits}
use Rattle.workspace.specs.Kernel.{divisor_in}
use Rattle.workspace.proofs.error.divisor.Goals as goal

pub returns-in-FirstDerivative : goal.returns-in-FirstDerivative
unfolding divisor_in
returns-in-FirstDerivative c = rw (c.double_of.ensures, c.in-FirstDerivative.is)

pub returns-in-BothDerivatives : goal.returns-in-BothDerivatives
unfolding divisor_in of_bits
returns-in-BothDerivatives c = ⊎_elim (λ e. rw e) (λ p. rw p.1) c.in-BothDerivatives.is
