use Rattle.std.proofs.Common.{refl, [], ◌∷◌, arith}
use Rattle.workspace.specs.Kernel.{combined_entry}
use Rattle.workspace.proofs.Columns.{begin, turn, finish}
use Rattle.workspace.proofs.stages.combine.Goals as goal

pub loop-i-init : goal.loop-i-init
loop-i-init c = begin _ _ _ refl (omega arith)

pub loop-i-preserved : goal.loop-i-preserved
unfolding combined_entry
loop-i-preserved c = turn (_ ∷ []) c.loop-i.invariant (omega arith) (refl, tt)

pub returns : goal.returns
returns c = finish c.loop-i.invariant (omega arith)
