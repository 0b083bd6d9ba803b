-- By whether the stage is the last, and by the test of the candidate.
use Rattle.std.proofs.Common.{refl}
use Rattle.workspace.specs.Vectors.{unpack}
use Rattle.driver.specs.Calls.{at_stage, ask_stage}
use Rattle.driver.specs.Promises.{outcome_of}
use Rattle.driver.proofs.Ladder.{same_answer}
use Rattle.driver.proofs.Steps.{handed_on, stages_on, stages_end, candidate_asked, candidate_refused}
use Rattle.driver.proofs.replies.take_stage.Goals as goal

pub returns-then-j-s : goal.returns-then-j-s
unfolding outcome_of ask_stage at_stage
returns-then-j-s c =
    let a = c.args in
    let r = a.«record» in
    let both = c.row_and_recurrence-advance.ensures in
    handed_on (c.onward.ensures r _ refl both.after_value)
    (stages_on r (unpack r.n a.area.now) a.derivative.now c.setting-setting.ensures both.row_value
    c.if-j-s.true c.row_and_exchange.ensures.vectors both.after_value refl
    (record { answer = same_answer refl; kept = refl; vectors = refl }))

pub returns-then-finite_vector : goal.returns-then-finite_vector
returns-then-finite_vector c =
    let a = c.args in
    let r = a.«record» in
    stages_end r (unpack r.n a.area.now) a.derivative.now c.setting-setting.ensures c.row_and_recurrence-advance.ensures.row_value
    c.if-j-s.false c.row.ensures.vectors c.keep_candidate.ensures.vectors
    (candidate_asked r _ c.finite_vector.ensures c.if-finite_vector.true)

pub returns : goal.returns
returns c =
    let a = c.args in
    let r = a.«record» in
    stages_end r (unpack r.n a.area.now) a.derivative.now c.setting-setting.ensures c.row_and_recurrence-advance.ensures.row_value
    c.if-j-s.false c.row.ensures.vectors c.keep_candidate.ensures.vectors
    (candidate_refused r _ c.finite_vector.ensures c.if-finite_vector.false)
