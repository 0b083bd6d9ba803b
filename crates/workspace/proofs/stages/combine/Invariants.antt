use Rattle.std.proofs.Common.{[], ◌∷◌}
use Rattle.workspace.specs.Vectors.{candidate}
use Rattle.workspace.specs.Kernel.{combined_entry}
use Rattle.workspace.proofs.Columns.{Working}
use Rattle.workspace.proofs.stages.combine.Given as goal

abbrev pub invariant-loop-i : goal.invariant-loop-i
invariant-loop-i l = Working l.n ((candidate, combined_entry l.step l.w) ∷ []) l.fn.area l.area l.i
