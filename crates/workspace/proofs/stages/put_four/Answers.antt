use Rattle.std.proofs.Common.{arith}
use Rattle.workspace.proofs.Fours.{put_law}
use Rattle.workspace.proofs.stages.put_four.Goals as goal

pub returns : goal.returns
returns c = put_law c.args.v.now c.args.p c.args.x (omega arith)
