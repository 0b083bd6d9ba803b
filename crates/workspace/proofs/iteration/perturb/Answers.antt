use Rattle.std.proofs.Common.{refl, ap, [], ◌∷◌, Float, arith}
use lib.Ieee.{of_bits}
use Rattle.ieee.specs.Double.{◌⊕◌, ◌⊗◌, ◌⊘◌, min_positive, nearest}
use Rattle.workspace.specs.Vectors.{unpack, ◌with◌≔◌, each, perturbed_state, state, eigenvector}
use Rattle.workspace.specs.Kernel.{perturbed_by}
use Rattle.workspace.proofs.Areas.{becomes_as}
use Rattle.workspace.proofs.Columns.{begin, turn, finish}
use Rattle.workspace.proofs.iteration.perturb.Goals as goal

pub loop-i-init : goal.loop-i-init
loop-i-init c = begin _ _ _ refl (omega arith)

pub loop-i-preserved : goal.loop-i-preserved
loop-i-preserved c = turn (_ ∷ []) c.loop-i.invariant (omega arith) (refl, tt)

pub returns : goal.returns
unfolding perturbed_by min_positive nearest of_bits
returns c =
    let a = c.args in
    let v = unpack a.n a.area.now in
    becomes_as (finish c.loop-i.invariant (omega arith))
    (ap (λ (m : Float). v with perturbed_state ≔ each a.n v (λ x. x state ⊕ a.perturbation ⊘ m ⊗ x eigenvector)) c.max.ensures)
