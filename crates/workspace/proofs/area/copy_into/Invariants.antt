use Rattle.workspace.proofs.Front.{Front}
use Rattle.workspace.proofs.area.copy_into.Given as goal

abbrev pub invariant-loop-i : goal.invariant-loop-i
invariant-loop-i l = Front l.from l.fn.to l.to l.i
