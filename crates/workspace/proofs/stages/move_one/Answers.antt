use Rattle.std.proofs.Common.{arith}
use Rattle.workspace.specs.Reads.{Reads}
use Rattle.workspace.proofs.Fours.{moved_one}
use Rattle.workspace.proofs.stages.move_one.Goals as goal

pub returns : goal.returns
unfolding Reads
returns g c = λ h m.
    let x = c.args in
    let r = c.entries_at-x.ensures in
    moved_one x.n x.i h x.derivative.now x.ten.now _ _ _ _ (omega arith) (omega arith) r.3 r.1 r.0 (m _ _ _ c.entry-next.ensures r)
