use Rattle.std.proofs.Common.{ap}
use lib.Ieee.{of_bits}
use Rattle.family.specs.declared.Facts.{Facts}
use Rattle.workspace.specs.Kernel.{error_norm}
use Rattle.workspace.proofs.error.error_norm.Goals as goal

pub returns-then-arguments : goal.returns-then-arguments
unfolding error_norm
returns-then-arguments c = rw (
  c.divisor.ensures,
  ap (λ (f : Facts). f.error) c.facts-form.ensures,
  c.scaled_error_norm-scaled.ensures,
  c.if-arguments.true,
)

pub returns-else-arguments : goal.returns-else-arguments
unfolding error_norm of_bits
returns-else-arguments c = rw c.if-arguments.false
