use Rattle.std.proofs.Common.{arith}
use Rattle.workspace.proofs.Fours.{moved_four}
use Rattle.workspace.proofs.stages.move_four.Goals as goal

pub returns : goal.returns
returns g c = λ h m.
    let x = c.args in
    let ra = c.entries_at-a.ensures in
    let rb = c.entries_at-b.ensures in
    let rc = c.entries_at-c.ensures in
    let rd = c.entries_at-d.ensures in
    moved_four x.n x.i h x.derivative.now x.ten.now _ _ _ _ _ _ _ _ _ _ _ _ (omega arith) ra rb rc rd
    (m _ _ _ c.entry.ensures ra) (m _ _ _ c.entry-2.ensures rb) (m _ _ _ c.entry-3.ensures rc) (m _ _ _ c.entry-4.ensures rd)
    c.put_four.ensures c.put_four-2.ensures c.put_four-3.ensures c.put_four-4.ensures
