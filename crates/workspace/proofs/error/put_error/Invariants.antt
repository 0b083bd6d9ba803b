use Rattle.std.proofs.Common.{[], ◌∷◌}
use Rattle.workspace.specs.Vectors.{derivative}
use Rattle.workspace.specs.Kernel.{error_in}
use Rattle.workspace.proofs.Columns.{Working}
use Rattle.workspace.proofs.error.put_error.Given as goal

abbrev pub invariant-loop-i : goal.invariant-loop-i
invariant-loop-i l = Working l.n ((derivative, error_in l.form l.step) ∷ []) l.fn.area l.area l.i
