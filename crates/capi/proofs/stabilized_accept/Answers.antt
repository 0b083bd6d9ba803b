use Rattle.driver.specs.Calls.{accept}
use Rattle.capi.proofs.Promised.{keeps_lent}
use Rattle.capi.proofs.stabilized_accept.Goals as goal

pub returns : goal.returns
returns c = keeps_lent _ accept c.read-kept.ensures c.accept-next.ensures c.leave.ensures
