use Rattle.std.proofs.Common.{arith}
use Rattle.driver.specs.Calls.{Held, reply}
use Rattle.driver.proofs.Going.{has_one}
use Rattle.lent.specs.Lent.{place_of}
use Rattle.capi.specs.Promises.{counting}
use Rattle.capi.proofs.Promised.{meets_in_stages, at_place}
use Rattle.capi.proofs.lent_reply_in_stages.Goals as goal

pub reply_in_stages-staged-requires : goal.reply_in_stages-staged-requires
reply_in_stages-staged-requires c =
    let a = c.args in
    at_place a.wholes.now a.doubles.now (counting a.evaluations.now a.finished_attempts) a.area.now a.derivative.now
    c.read-kept.ensures c.requires

pub overflow_add-evaluations : goal.overflow_add-evaluations
overflow_add-evaluations c =
    let a = c.args in
    omega (arith, has_one (place_of a.wholes.now) (counting a.evaluations.now a.finished_attempts) a.area.now a.derivative.now c.requires)

pub returns : goal.returns
returns c =
    let a = c.args in
    meets_in_stages (λ (h : Held). reply h a.derivative.now) c.read-kept.ensures c.reply_in_stages-staged.ensures c.leave_staged.ensures
