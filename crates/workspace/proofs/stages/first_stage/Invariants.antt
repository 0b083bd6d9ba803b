use Rattle.std.proofs.Common.{[], ◌∷◌}
use Rattle.ieee.specs.Double.{◌⊕◌, ◌⊗◌}
use Rattle.workspace.specs.Vectors.{state, previous_one, previous_two, first_derivative}
use Rattle.workspace.proofs.Columns.{Working}
use Rattle.workspace.proofs.stages.first_stage.Given as goal

abbrev pub invariant-loop-i : goal.invariant-loop-i
invariant-loop-i l = Working l.n ((previous_two, λ x. x state) ∷ (previous_one, λ x. x state ⊕ l.step ⊗ l.mu_tilde ⊗ x first_derivative) ∷ []) l.fn.area l.area l.i
