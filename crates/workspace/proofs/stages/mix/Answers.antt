use mathlib.Core.Path.{refl, ap}
use mathlib.Core.List.{[], ◌∷◌}
use Prim.Native.Nat.{ℕ, ◌+◌, ◌*◌}
use lib.ListN.{get_or}
use lib.Ieee.{nan, of_bits}
use Rattle.ieee.specs.Double.{◌⊕◌, ◌⊖◌, ◌⊗◌, one}
use Rattle.workspace.specs.Vectors.{number, next_stage}
use Rattle.workspace.proofs.Parts.{cast}
use Rattle.workspace.specs.Kernel.{mixed_entry}
use Rattle.workspace.proofs.Columns.{begin, turn, finish}
use native.Mathlib.Omega.{arith}
use Rattle.workspace.proofs.stages.mix.Goals as goal

pub loop-i-init : goal.loop-i-init
loop-i-init c = begin _ _ _ refl (omega arith)

pub loop-i-preserved : goal.loop-i-preserved
unfolding mixed_entry of_bits
loop-i-preserved c =
    let a = c.args in
    let l = c.loop-i in
    turn (_ ∷ []) l.invariant (omega arith)
    (ap (λ (k : ℕ). (one ⊖ a.gain) ⊗ get_or l.area (k * a.n + l.i) nan ⊕ a.gain ⊗ get_or l.area (number next_stage * a.n + l.i) nan) (cast a.older), tt)

pub returns : goal.returns
returns c = finish c.loop-i.invariant (omega arith)
