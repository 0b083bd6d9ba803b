-- The time and the step finite, the step not 0.
use lib.Ieee.{of_bits, eq, ne}
use Rattle.std.proofs.Common.{arith}
use Rattle.std.proofs.lemmas.Grind.{common_steps}
use Rattle.driver.specs.Calls.{good_times}
use Rattle.driver.proofs.checks.good_times.Goals as goal

pub returns-then-is_finite-2 : goal.returns-then-is_finite-2
unfolding good_times of_bits eq ne
returns-then-is_finite-2 c = grind (arith, common_steps)
