-- `ask_stage_by_theta` meets its contract: what it writes is the stage's, and what it does not write stands.
use Rattle.std.proofs.Common.{arith}
use Rattle.lent.proofs.Cells.{moved}
use Rattle.lent.proofs.ask_stage_by_theta.Goals as goal

pub returns : goal.returns
returns c =
    let a = c.args in
    moved a.time a.stage a.theta c.without_figures-answer.ensures a.wholes.now a.doubles.now (omega arith) (omega arith)
