-- `inverter::minutes::run` meets its contract, by those of the calls and the invariant. Assumes nothing.
use Rattle.std.proofs.Common.{◌+◌, ◌≤◌, [], get_or, refl, sym, ap, ◌∙◌, arith}
use mathlib.Core.Path.{subst}
use lib.ListN.{length-set}
use Rattle.std.specs.Float.{nan}
use Rattle.heat_sink.specs.declared.Inverter.{Inverter}
use Rattle.driver.specs.Promises.{holding}
use Rattle.inverter.specs.declared.Count.{Count}
use Rattle.inverter.specs.declared.Minute.{Minute}
use Rattle.inverter.specs.Day.{given, no_count, minutes, SoFar, so_far, run, total, whole_minute, junction, minute_counted}
use Rattle.inverter.proofs.Run.{above_most, refused_most, minute_turn, minutes_end}
use Rattle.inverter.proofs.minutes.run.Goals as goal

pub loop-i-init : goal.loop-i-init
unfolding no_count
loop-i-init c =
    let e = c.new-count.ensures in
    let g = c.args.engine.now in
    record {
      inverter = refl;
      long = omega arith;
      above = subst (λ (t : Count). t.above ≤ 0) (sym e) (omega arith);
      refused = subst (λ (t : Count). t.refused ≤ 0) (sym e) (omega arith);
      rest = ap (λ (t : Count). run g.inverter 0 c.args.readings.now (so_far t g.area.now (minutes [] [] [] [] []))) (sym e);
    }

pub loop-i-preserved : goal.loop-i-preserved
loop-i-preserved c =
    let m = c.args.engine.now.inverter in
    let readings = c.args.readings.now in
    let l = c.loop-i in
    let p = c.take-end in
    let x = c.junction-temperature in
    let after = c.upcoming.result in
    let here = get_or readings l.i nan in
    let before = holding l.count.«record» l.count.counters l.engine.area.now in
    let end = given p.result p.new.self.area.now in
    let same = p.ensures.inverter ∙ l.invariant.inverter in
    let e = p.ensures.answer ∙ ap (λ (k : Inverter). whole_minute k l.i here after before) l.invariant.inverter in
    let j = x.ensures ∙ ap (λ (k : Inverter). junction k p.result.«record».phase p.new.self.area.now) same in
    let t = c.with-count.ensures ∙ ap (λ (k : Inverter). minute_counted k p.result x.result l.count) same in
    record {
      inverter = same;
      long = omega (arith, length-set {A = Minute});
      above = subst (λ (n : Count). n.above ≤ l.i + 1) (sym t) (above_most m p.result x.result l.count l.i l.invariant.above);
      refused = subst (λ (n : Count). n.refused ≤ l.i + 1) (sym t) (refused_most m p.result x.result l.count l.i l.invariant.refused);
      rest = l.invariant.rest
          ∙ minute_turn m readings l.i l.count l.engine.area.now l.minutes end (omega arith) (omega arith) c.upcoming.ensures e j c.told.ensures t;
    }

pub returns : goal.returns
returns c =
    let m = c.args.engine.now.inverter in
    let l = c.loop-i in
    let e = l.invariant.rest ∙ minutes_end m c.args.readings.now l.i l.count l.engine.area.now l.minutes (omega arith) (omega arith) in
    record { totals = c.total.ensures ∙ sym (ap total e); lists = sym (ap (λ (t : SoFar). t.lists) e) }
