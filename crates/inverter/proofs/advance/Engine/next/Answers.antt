-- `inverter::advance::Engine::next` meets its contract, answer by answer, by the contract of the call. Assumes nothing.
use Rattle.std.proofs.Common.{◌≡◌, sym, ap, ◌∙◌, List}
use lib.Ieee.{Float}
use Rattle.workspace.specs.declared.Arguments.{Arguments}
use Prim.Native.Nat.{◌<◌}
use native.Mathlib.Omega.{arith}
use Rattle.workspace.specs.declared.Vector.{Vector}
use Rattle.workspace.specs.Vectors.{number, named, unpack}
use Rattle.workspace.proofs.Areas.{number_named}
use Rattle.driver.specs.declared.Replied.{Replied}
use Rattle.driver.specs.Calls.{reply, attempt}
use Rattle.driver.specs.Promises.{holding}
use Rattle.heat_sink.specs.Model.{rates}
use Rattle.inverter.specs.Day.{given}
use Rattle.inverter.proofs.Said.{met}
use Rattle.inverter.proofs.Calls.{asked_vector, next_reply, next_attempt, next_stays, no_call_else}
use Rattle.inverter.proofs.advance.Engine.next.Goals as goal

pub vector-point-requires-clause-v_bound : goal.vector-point-requires-clause-v_bound
vector-point-requires-clause-v_bound c =
    let k : c.in-Evaluate.k < 11 = asked_vector c.in-Evaluate.is c.requires in
    let e : number c.from.result ≡ c.in-Evaluate.k = ap number c.from.ensures ∙ number_named c.in-Evaluate.k (omega arith) in
    omega arith

pub returns-in-Evaluate-clause-answer : goal.returns-in-Evaluate-clause-answer
returns-in-Evaluate-clause-answer c =
    let e = c.args.self.now in
    let m = e.inverter in
    let i = c.args.inputs in
    let h = holding c.args.reply.«record» c.args.reply.counters e.area.now in
    let v = c.in-Evaluate.k in
    met c.reply.ensures
    ∙ ap (λ (d : List Float). reply h d) c.rates.ensures
    ∙ ap (λ (y : List Float). reply h (rates m y c.reading_at.result)) c.vector-point.ensures.value
    ∙ ap (λ (b : Vector). reply h (rates m (unpack m.n h.area b) c.reading_at.result)) c.from.ensures
    ∙ ap (λ (x : Float). reply h (rates m (unpack m.n h.area (named v)) x)) c.reading_at.ensures
    ∙ next_reply m i.minute i.reading i.upcoming h c.in-Evaluate.is

pub returns-in-Ready-clause-answer : goal.returns-in-Ready-clause-answer
returns-in-Ready-clause-answer c =
    let e = c.args.self.now in
    let i = c.args.inputs in
    let h = holding c.args.reply.«record» c.args.reply.counters e.area.now in
    ap (λ (r : Replied). given r c.attempt.new.area) c.with.ensures
    ∙ met (c.attempt.ensures c.args.reply.counters)
    ∙ ap (λ (a : Arguments). attempt h a) c.arguments.ensures
    ∙ next_attempt e.inverter i.minute i.reading i.upcoming h c.in-Ready.is

pub returns-in_default-clause-answer : goal.returns-in_default-clause-answer
returns-in_default-clause-answer c =
    let e = c.args.self.now in
    let i = c.args.inputs in
    let none = no_call_else c.args.reply.answer c.in_default.not-Evaluate c.in_default.not-Ready in
    sym (next_stays e.inverter i.minute i.reading i.upcoming (given c.args.reply e.area.now) none)
