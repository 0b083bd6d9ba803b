use Rattle.driver.specs.Calls.{abandon}
use Rattle.capi.proofs.Promised.{keeps_lent}
use Rattle.capi.proofs.stabilized_abandon.Goals as goal

pub returns : goal.returns
returns c = keeps_lent _ abandon c.read-kept.ensures c.abandon-next.ensures c.leave.ensures
