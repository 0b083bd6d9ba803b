use Rattle.std.proofs.Common.{refl, sym, ap, ◌∙◌, [], ◌∷◌, Float, arith}
use Rattle.workspace.specs.Vectors.{column, derivative}
use Rattle.workspace.specs.Reads.{Reads}
use Rattle.workspace.proofs.Columns.{with_at}
use Rattle.workspace.proofs.Taking.{begin_taking, turn_taking, finish_taking}
use Rattle.workspace.proofs.stages.row_in.Goals as goal

pub loop-i-init : goal.loop-i-init
loop-i-init g c = λ h m. begin_taking _ _ _ _ 10 _ refl (omega arith)

pub loop-i-preserved : goal.loop-i-preserved
unfolding Reads
loop-i-preserved g c = λ h m.
    let r = c.entries_at-x.ensures in
    let l = c.loop-i in
    turn_taking _ _ _ _ _ (_ ∷ []) (l.invariant h m) (omega arith) r.3
    (m _ _ _ c.entry.ensures r ∙ ap (λ (s : Float). h (with_at derivative s (column c.args.n l.ten l.i))) (sym r.3), tt)

pub returns : goal.returns
returns g c = λ h m. finish_taking _ _ _ _ c.requires.derivative_len (c.loop-i.invariant h m) (omega arith)
