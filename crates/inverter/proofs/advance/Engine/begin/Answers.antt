-- `inverter::advance::Engine::begin` meets its contract: the definition's test, and then the contract of the call. Assumes nothing.
use Rattle.std.proofs.Common.{sym, ap, ◌∙◌, List}
use lib.Ieee.{Float}
use Rattle.workspace.specs.Vectors.{unpack, state}
use Rattle.driver.specs.Calls.{start}
use Rattle.driver.specs.Promises.{holding}
use Rattle.driver.specs.declared.Replied.{Replied}
use Rattle.inverter.specs.Day.{given}
use Rattle.inverter.proofs.Said.{met}
use Rattle.inverter.proofs.Calls.{accepted, started}
use Rattle.inverter.proofs.advance.Engine.begin.Goals as goal

pub returns-then-may_accept-clause-answer : goal.returns-then-may_accept-clause-answer
returns-then-may_accept-clause-answer c =
    let e = c.args.self.now in
    let h = holding c.args.«record» c.args.counters e.area.now in
    ap (λ (r : Replied). given r c.accept.new.area) c.with.ensures
    ∙ met (c.accept.ensures c.args.counters)
    ∙ accepted e.inverter c.args.inputs.minute h (sym c.may_accept.ensures ∙ c.if-may_accept.true)

pub returns-clause-answer : goal.returns-clause-answer
returns-clause-answer c =
    let e = c.args.self.now in
    let m = e.inverter in
    let h = holding c.args.«record» c.args.counters e.area.now in
    let y = c.copy_from_slice.ensures.after ∙ c.vector.ensures.value in
    ap (λ (r : Replied). given r c.start.new.area) c.with-2.ensures
    ∙ met (c.start.ensures c.args.counters)
    ∙ ap (λ (y : List Float). start h m.family m.n y c.time.result) y
    ∙ ap (λ (t : Float). start h m.family m.n (unpack m.n e.area.now state) t) c.time.ensures
    ∙ started m c.args.inputs.minute h (sym c.may_accept.ensures ∙ c.if-may_accept.false)
