use Rattle.std.proofs.Common.{arith}
use Rattle.workspace.proofs.Fours.{moved_start, moved_next}
use Rattle.workspace.proofs.stages.move_rest.Goals as goal

pub loop-i-init : goal.loop-i-init
loop-i-init g c = λ h m. moved_start _ _ _ _ _

pub loop-i-preserved : goal.loop-i-preserved
loop-i-preserved g c = λ h m. moved_next _ _ _ _ _ 1 _ _ _ (omega arith) (omega arith) (c.loop-i.invariant h m) (c.move_one.ensures h m)
