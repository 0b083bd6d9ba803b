use Rattle.workspace.specs.declared.Arguments.{Arguments as Brought}
use Rattle.driver.specs.Calls.{Held, attempt}
use Rattle.capi.proofs.Promised.{keeps_lent, bringing}
use Rattle.capi.proofs.stabilized_attempt.Goals as goal

pub returns : goal.returns
returns c =
    let k = c.brought-arguments in
    bringing (λ (b : Brought) (h : Held). attempt h b) k.ensures
    (keeps_lent _ (λ (h : Held). attempt h k.result) c.read-kept.ensures c.attempt-next.ensures c.leave_with.ensures)
