-- Turned away with the refusal found (Ladder); without one (Clear) the derivative is spoiled or taken, and counted.
use Rattle.std.proofs.Common.{refl, sym, ◌∙◌, arith}
use Rattle.family.specs.Family.{family_of}
use Rattle.workspace.proofs.Areas.{whole}
use Rattle.workspace.specs.Vectors.{unpack}
use Rattle.driver.specs.Answers.{case_number}
use Rattle.driver.specs.Calls.{reply_tests, reply, awaiting, pending, in_range}
use Rattle.driver.proofs.Clear.{brings}
use Rattle.driver.proofs.Counting.{evaluations_room, attempts_room, finishing, spoils, settles}
use Rattle.driver.proofs.Going.{elsewhere}
use Rattle.driver.proofs.Ladder.{fails, passes, refused_meets, admitted_meets}
use Rattle.driver.proofs.Sizes.{both}
use Rattle.driver.proofs.reply_elsewhere.Goals as goal

pub returns-in-Err : goal.returns-in-Err
unfolding reply
returns-in-Err c = refused_meets _ _ _ c.in-Err.ensures (rw (c.with.ensures, c.refused.ensures))

pub counted-requires-clause-evaluations_bound : goal.counted-requires-clause-evaluations_bound
unfolding reply_tests
counted-requires-clause-evaluations_bound c =
    let l = brings _ _ _ _ _ c.in_default.ensures in
    evaluations_room _ _ l.passing.1.1.1.1.0

pub counted-requires-clause-finished_attempts_bound : goal.counted-requires-clause-finished_attempts_bound
unfolding case_number
counted-requires-clause-finished_attempts_bound c = rw c.refused-then-not-all_finite.ensures (λ e. omega arith)

pub returns-then-not-all_finite : goal.returns-then-not-all_finite
unfolding reply reply_tests
returns-then-not-all_finite c =
    let l = brings _ _ _ _ _ c.in_default.ensures in
    admitted_meets _ _ l.none (spoils _ _ (fails c.all_finite.ensures c.if-not-all_finite.true)
    (rw (c.counted.ensures, c.refused-then-not-all_finite.ensures, c.in_phase-empty.ensures)))

pub replied-requires-clause-record_in_bounds : goal.replied-requires-clause-record_in_bounds
unfolding reply_tests
replied-requires-clause-record_in_bounds c =
    let l = brings _ _ _ _ _ c.in_default.ensures in
    whole _ _ _ l.long

pub replied-requires-clause-derivative_len : goal.replied-requires-clause-derivative_len
unfolding reply_tests
replied-requires-clause-derivative_len c = (brings _ _ _ _ _ c.in_default.ensures).brought

pub replied-requires-clause-record_value : goal.replied-requires-clause-record_value
unfolding reply_tests awaiting
replied-requires-clause-record_value c =
    let a = c.args in
    let r = a.«record» in
    let l = brings _ _ _ _ _ c.in_default.ensures in
    (both (pending r.phase) (in_range r.phase r) l.passing.1.1.1.0).1

pub replied-requires-clause-record_value_2 : goal.replied-requires-clause-record_value_2
unfolding reply_tests
replied-requires-clause-record_value_2 c =
    let a = c.args in
    let r = a.«record» in
    let l = brings _ _ _ _ _ c.in_default.ensures in
    elsewhere r a.counters a.area.now a.derivative.now c.requires l.passing (passes c.all_finite.ensures c.if-not-all_finite.false)

pub counted-requires-2-clause-evaluations_bound : goal.counted-requires-2-clause-evaluations_bound
unfolding reply_tests
counted-requires-2-clause-evaluations_bound c =
    let l = brings _ _ _ _ _ c.in_default.ensures in
    evaluations_room _ _ l.passing.1.1.1.1.0

pub counted-requires-2-clause-finished_attempts_bound : goal.counted-requires-2-clause-finished_attempts_bound
unfolding reply_tests
counted-requires-2-clause-finished_attempts_bound c =
    let a = c.args in
    let r = a.«record» in
    let l = brings _ _ _ _ _ c.in_default.ensures in
    let v = unpack r.n a.area.now in
    λ e. attempts_room r.phase a.counters l.passing.1.1.1.1.0 (finishing r.phase r v a.derivative.now (sym c.replied.ensures.answer.same_case ∙ e))

pub returns : goal.returns
unfolding reply reply_tests
returns c =
    let a = c.args in
    let r = a.«record» in
    let l = brings _ _ _ _ _ c.in_default.ensures in
    rw c.counted-2.ensures (admitted_meets _ _ l.none
    (settles _ (family_of r.family) r.n _ (passes c.all_finite.ensures c.if-not-all_finite.false) (cc (l.long, c.replied.auto.area))
    c.replied.ensures refl))
