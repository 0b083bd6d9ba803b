use Rattle.std.proofs.Common.{◌≡◌, subst, ℕ, ◌+◌, ◌-◌, ◌*◌, arith}
use Rattle.workspace.specs.Reads.{Moved}
use Rattle.workspace.proofs.Fours.{moved_start, moved_next}
use Rattle.workspace.proofs.stages.move_fours.Goals as goal

pub loop-k-init : goal.loop-k-init
loop-k-init g c = λ h m. moved_start _ _ _ _ _

pub loop-k-preserved : goal.loop-k-preserved
loop-k-preserved g c = λ h m.
    let k = c.loop-k.k in
    subst (λ (j : ℕ). Moved c.args.n h c.args.derivative.now 0 (j - 0) c.args.ten.now c.move_four.new.ten) (let e : 4 * k + 4 ≡ 4 * (k + 1) = omega arith in e)
    (moved_next _ _ _ 0 (4 * k) 4 _ _ _ (omega arith) (omega arith) (c.loop-k.invariant h m) (c.move_four.ensures h m))
