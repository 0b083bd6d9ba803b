use Rattle.std.proofs.Common.{[], ◌∷◌}
use Rattle.ieee.specs.Double.{◌⊕◌, ◌⊗◌}
use Rattle.workspace.specs.Vectors.{perturbed_state, state, eigenvector}
use Rattle.workspace.proofs.Columns.{Working}
use Rattle.workspace.proofs.iteration.perturb.Given as goal

abbrev pub invariant-loop-i : goal.invariant-loop-i
invariant-loop-i l = Working l.n ((perturbed_state, λ x. x state ⊕ l.scale ⊗ x eigenvector) ∷ []) l.fn.area l.area l.i
