use mathlib.Core.List.{[], ◌∷◌}
use Rattle.workspace.specs.Vectors.{candidate}
use Rattle.workspace.specs.Kernel.{mixed_entry}
use Rattle.workspace.proofs.Columns.{Working}
use Rattle.workspace.proofs.stages.mix.Given as goal

abbrev pub invariant-loop-i : goal.invariant-loop-i
invariant-loop-i l = Working l.n ((candidate, mixed_entry l.fn.older l.gain) ∷ []) l.fn.area l.area l.i
