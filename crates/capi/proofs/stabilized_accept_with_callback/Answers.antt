use Rattle.driver.specs.Calls.{Held, accept_with_callback}
use Rattle.capi.proofs.Promised.{keeps_lent}
use Rattle.capi.proofs.stabilized_accept_with_callback.Goals as goal

pub returns : goal.returns
returns c =
    let a = c.args in
    keeps_lent _ (λ (h : Held). accept_with_callback h a.state.now a.time)
    c.read-kept.ensures c.accept_with_callback-next.ensures c.leave.ensures
