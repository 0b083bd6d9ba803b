-- `inverter::advance::Engine::pass` meets its contract, by those of the calls and the invariant. Assumes nothing.
use Rattle.std.proofs.Common.{◌≡◌, ℕ, ◌+◌, ◌-◌, refl, sym, ap, ◌∙◌, arith}
use mathlib.Core.Path.{subst}
use Rattle.driver.specs.Promises.{holding}
use Rattle.heat_sink.specs.declared.Inverter.{Inverter}
use Rattle.inverter.specs.Day.{given, next, driven, passed, most_calls}
use Rattle.inverter.proofs.Calls.{driven_stays, driven_none, driven_turn}
use Rattle.inverter.proofs.Ends.{Follows, asked_below, begun_follows, turn_follows}
use Rattle.inverter.proofs.advance.Engine.pass.Goals as goal

pub loop-call-init : goal.loop-call-init
loop-call-init c =
    let b = c.begin-reply in
    let f = begun_follows c.args.self.now.inverter c.args.inputs.minute (holding c.args.«record» c.args.counters c.args.self.now.area.now) in
    record { inverter = b.ensures.inverter; follows = subst (Follows most_calls) (sym b.ensures.answer) f; rest = refl }

pub returns-then-asks_no_call : goal.returns-then-asks_no_call
unfolding passed
returns-then-asks_no_call c =
    let l = c.loop-call in
    let m = c.args.self.now.inverter in
    let i = c.args.inputs in
    let none = sym c.asks_no_call.ensures ∙ c.if-asks_no_call.true in
    record {
      inverter = l.invariant.inverter;
      answer = sym
          (ap (driven m i.minute i.reading i.upcoming most_calls) (sym c.begin-reply.ensures.answer)
          ∙ l.invariant.rest
          ∙ driven_stays m i.minute i.reading i.upcoming (most_calls - l._call) (given l.reply l.self.area.now) none);
    }

pub next-reply-requires : goal.next-reply-requires
next-reply-requires c = asked_below _ _ _ c.loop-call.invariant.follows

pub loop-call-preserved : goal.loop-call-preserved
loop-call-preserved c =
    let l = c.loop-call in
    let m = c.args.self.now.inverter in
    let i = c.args.inputs in
    let n = c.next-reply in
    let r = given l.reply l.self.area.now in
    let e = n.ensures.answer ∙ ap (λ (k : Inverter). next k i.minute i.reading i.upcoming r) l.invariant.inverter in
    record {
      inverter = n.ensures.inverter ∙ l.invariant.inverter;
      follows = subst (Follows (most_calls - (l._call + 1))) (sym e) (turn_follows m i.minute i.reading i.upcoming most_calls l._call r (omega arith) l.invariant.follows);
      rest = l.invariant.rest
          ∙ driven_turn m i.minute i.reading i.upcoming most_calls l._call r (omega arith)
          ∙ ap (driven m i.minute i.reading i.upcoming (most_calls - (l._call + 1))) (sym e);
    }

pub returns : goal.returns
unfolding passed
returns c =
    let l = c.loop-call in
    let m = c.args.self.now.inverter in
    let i = c.args.inputs in
    let r = given l.reply l.self.area.now in
    let z : most_calls - l._call ≡ 0 = omega arith in
    record {
      inverter = l.invariant.inverter;
      answer = sym
          (ap (driven m i.minute i.reading i.upcoming most_calls) (sym c.begin-reply.ensures.answer)
          ∙ l.invariant.rest
          ∙ ap (λ (k : ℕ). driven m i.minute i.reading i.upcoming k r) z
          ∙ driven_none m i.minute i.reading i.upcoming r);
    }
