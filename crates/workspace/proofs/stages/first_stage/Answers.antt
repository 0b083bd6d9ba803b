use Rattle.std.proofs.Common.{refl, ap, List, [], ◌∷◌, Float, arith}
use Rattle.ieee.specs.Double.{◌⊕◌, ◌⊗◌}
use Rattle.workspace.specs.Vectors.{unpack, ◌with◌≔◌, each, state, previous_one, previous_two, first_derivative}
use Rattle.workspace.specs.Kernel.{first_stage}
use Rattle.workspace.proofs.Areas.{long_at, becomes_as}
use Rattle.workspace.proofs.Lists.{each_same}
use Rattle.workspace.proofs.Columns.{begin, turn, finish}
use Rattle.workspace.proofs.stages.first_stage.Goals as goal

pub loop-i-init : goal.loop-i-init
loop-i-init c = begin _ _ _ refl (omega arith)

pub loop-i-preserved : goal.loop-i-preserved
loop-i-preserved c = turn (_ ∷ _ ∷ []) c.loop-i.invariant (omega arith) (refl, (refl, tt))

pub returns : goal.returns
unfolding first_stage
returns c =
    let a = c.args in
    let v = unpack a.n a.area.now in
    becomes_as (finish c.loop-i.invariant (omega arith))
    (ap (λ (x : List Float). v with previous_two ≔ x with previous_one ≔ each a.n v (λ y. y state ⊕ a.step ⊗ a.mu_tilde ⊗ y first_derivative))
    (each_same a.n v state (long_at a.n a.area.now state (omega arith))))
