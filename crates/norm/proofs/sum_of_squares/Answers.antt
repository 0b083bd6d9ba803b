use Rattle.std.proofs.Common.{refl, arith}
use Rattle.std.specs.Float.Ieee.{of_bits}
use Rattle.norm.specs.Norm as spec
use Rattle.norm.proofs.Sums.{next_sum}
use Rattle.norm.proofs.sum_of_squares.Goals as goal

pub loop-i-init : goal.loop-i-init
unfolding of_bits spec.sum_of_squares
loop-i-init g c = λ xs long given. refl

pub loop-i-preserved : goal.loop-i-preserved
loop-i-preserved g c = λ xs long given. next_sum xs c.loop-i.i (omega arith) (c.loop-i.invariant xs long given) (given c.loop-i.i (omega arith) _ c.entry-x.ensures)
