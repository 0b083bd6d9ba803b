-- The chunks keep their size.
use Rattle.std.proofs.Common.{arith}
use Rattle.doubles.proofs.each_record.Goals as goal

pub loop-record-preserved : goal.loop-record-preserved
loop-record-preserved g c = (omega (arith, c.next.ensures.steps.0, c.loop-record.iterator), tt)
