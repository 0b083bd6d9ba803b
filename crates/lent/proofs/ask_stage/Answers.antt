-- What it writes is the stage's, and what it does not write stands.
use Rattle.std.proofs.Common.{arith}
use Rattle.lent.proofs.Cells.{placed}
use Rattle.lent.proofs.ask_stage.Goals as goal

pub returns : goal.returns
returns c =
    let a = c.args in
    placed a.time a.staging c.without_figures-answer.ensures a.wholes.now a.doubles.now (omega arith) (omega arith)
