use Rattle.std.proofs.Common.{refl, arith}
use Rattle.workspace.proofs.Front.{front_start, front_turn, front_end}
use Rattle.workspace.proofs.area.copy_into.Goals as goal

pub loop-i-init : goal.loop-i-init
loop-i-init c = front_start _ _ c.requires

pub loop-i-preserved : goal.loop-i-preserved
loop-i-preserved c = front_turn _ c.loop-i.invariant (omega arith) refl

pub returns : goal.returns
returns c = front_end c.loop-i.invariant (omega arith)
