-- The phase is the candidate's, and all else stands.
use Rattle.std.proofs.Common.{arith}
use Rattle.lent.proofs.Cells.{ended}
use Rattle.lent.proofs.ask_candidate.Goals as goal

pub returns : goal.returns
returns c =
    let a = c.args in
    ended a.time c.without_figures-answer.ensures a.wholes.now a.doubles.now (omega arith)
