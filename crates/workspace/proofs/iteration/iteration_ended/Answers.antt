use Rattle.std.proofs.Common.{lt-ltb, le-ltb, arith}
use Rattle.ieee.specs.Double.{nearest}
use lib.Ieee.{of_bits, round}
use Rattle.workspace.specs.Kernel.{ended}
use Rattle.workspace.proofs.iteration.iteration_ended.Goals as goal

pub returns-then-radius : goal.returns-then-radius
unfolding ended of_bits
returns-then-radius c = rw c.if-radius.true

pub returns-then-repeated : goal.returns-then-repeated
unfolding ended nearest of_bits round
returns-then-repeated c = rw (c.max.ensures, c.abs.ensures, c.if-radius.false, lt-ltb 1 c.args.pass (omega arith))

pub returns-else-repeated : goal.returns-else-repeated
unfolding ended of_bits
returns-else-repeated c = rw (c.if-radius.false, le-ltb 1 c.args.pass (omega arith))
