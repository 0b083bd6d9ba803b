use Rattle.std.proofs.Common.{ap, ◌∙◌}
use Rattle.driver.specs.declared.Next.{Next}
use Rattle.driver.specs.Calls.{Held, reply}
use Rattle.capi.specs.Promises.{counting}
use Rattle.lent.specs.Lent.{lent}
use Rattle.lent.specs.Numbers.{in_numbers, handed_back}
use Rattle.capi.proofs.Promised.{meets_lent, at_place}
use Rattle.capi.proofs.lent_reply_elsewhere.Goals as goal

pub reply_elsewhere-replied-requires : goal.reply_elsewhere-replied-requires
reply_elsewhere-replied-requires c =
    let a = c.args in
    at_place a.wholes.now a.doubles.now (counting a.evaluations.now a.finished_attempts.now) a.area.now a.derivative.now
    c.read-kept.ensures c.requires

pub returns : goal.returns
returns c =
    let a = c.args in
    let before = lent a.wholes.now a.doubles.now in
    let handed = ap (λ (x : Next). handed_back before before.arguments.adaptive (in_numbers x.answer) x.«record») c.next.ensures in
    meets_lent _ (λ (h : Held). reply h a.derivative.now) c.read-kept.ensures c.reply_elsewhere-replied.ensures (c.leave.ensures ∙ handed)
