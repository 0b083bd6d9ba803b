-- By the test of a stage's reply: what it hands back written out.
use Rattle.driver.proofs.Ladder.{passes}
use Rattle.driver.proofs.Going.{has_one, never_finished, comes}
use Rattle.driver.proofs.reply.Goals as goal

pub counted-requires-clause-evaluations_bound : goal.counted-requires-clause-evaluations_bound
counted-requires-clause-evaluations_bound c =
    let a = c.args in
    has_one a.«record» a.counters a.area.now a.derivative.now (passes c.stage_taken.ensures c.if-not-stage_taken.false)

pub counted-requires-clause-finished_attempts_bound : goal.counted-requires-clause-finished_attempts_bound
counted-requires-clause-finished_attempts_bound c = λ e. absurd (never_finished _ _ c.outcome_of.ensures e)

pub returns : goal.returns
returns c = comes c.reply_in_stages-staged.ensures c.outcome_of.ensures c.counted.ensures
