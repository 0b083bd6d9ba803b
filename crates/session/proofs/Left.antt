-- The perturbation and the scaled radius that are left stand where the state and the eigenvector do. ⊗ ⊘ are operations on doubles: they round.
use mathlib.Core.Path.{◌≡◌, sym, ap, ◌∙◌}
use mathlib.Core.List.{List}
use lib.Ieee.{Float}
use Rattle.ieee.specs.Double.{◌⊗◌, ◌⊘◌, root_epsilon, one}
use Rattle.ieee.specs.Whole.{max}
use Rattle.workspace.specs.declared.Arguments.{Arguments}
use Rattle.workspace.specs.Vectors.{Vectors, vector_norm, eigenvector, state}
use Rattle.workspace.specs.Kernel.{perturbation_of, radius_of, scaled}
use Rattle.session.specs.Concluded.{radius_left}
use Rattle.session.proofs.Outcomes.{BothStay}

-- the perturbation is told by the state, and r by the state and the eigenvector
pub perturbation_same : (v w : Vectors) → w state ≡ v state → perturbation_of v ≡ perturbation_of w
unfolding perturbation_of
perturbation_same v w e = ap (λ (y : List Float). root_epsilon ⊗ max (vector_norm y) one) (sym e)

pub left_same : (a : Arguments) (v w : Vectors) → BothStay v w → radius_left a v ≡ radius_left a w
unfolding radius_left radius_of
left_same a v w b =
    ap (λ (p : Float). scaled a.step (vector_norm (v eigenvector) ⊘ p)) (perturbation_same v w b.state_stays)
    ∙ ap (λ (y : List Float). scaled a.step (vector_norm y ⊘ perturbation_of w)) (sym b.eigenvector_stays)
