use Rattle.std.proofs.Common.{[], ◌∷◌}
use Rattle.ieee.specs.Double.{◌⊖◌}
use Rattle.workspace.specs.Vectors.{eigenvector, perturbed_derivative, first_derivative}
use Rattle.workspace.proofs.Columns.{Working}
use Rattle.workspace.proofs.iteration.turn.Given as goal

abbrev pub invariant-loop-i : goal.invariant-loop-i
invariant-loop-i l = Working l.n ((eigenvector, λ x. x perturbed_derivative ⊖ x first_derivative) ∷ []) l.initial.area l.area l.i
