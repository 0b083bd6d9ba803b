use Rattle.driver.specs.Calls.{Held, start}
use Rattle.capi.proofs.Promised.{keeps_lent}
use Rattle.capi.proofs.stabilized_start.Goals as goal

pub returns : goal.returns
returns c =
    let a = c.args in
    keeps_lent _ (λ (h : Held). start h a.family a.n a.state.now a.time) c.read-kept.ensures c.start-next.ensures c.leave.ensures
