use Rattle.std.proofs.Common.{refl, [], ◌∷◌, arith}
use Rattle.workspace.specs.Kernel.{turned}
use Rattle.workspace.proofs.Areas.{becomes_then}
use Rattle.workspace.proofs.Columns.{begin, turn, finish}
use Rattle.workspace.proofs.iteration.turn.Goals as goal

pub loop-i-init : goal.loop-i-init
loop-i-init c = begin _ _ _ refl (omega arith)

pub loop-i-preserved : goal.loop-i-preserved
loop-i-preserved c = turn (_ ∷ []) c.loop-i.invariant (omega arith) (refl, tt)

pub returns : goal.returns
unfolding turned
returns c = becomes_then c.put_vector.ensures (finish c.loop-i.invariant (omega arith))
