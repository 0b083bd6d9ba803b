-- Beside the loop over the minutes: those still to come, after what is counted so far, give the same.
use Rattle.std.proofs.Common.{◌≡◌, ◌≤◌, length, take, drop}
use Rattle.inverter.specs.Day.{columns, so_far, outset, run}
use Rattle.inverter.proofs.minutes.run.Given as goal

abbrev pub invariant-loop-i : goal.invariant-loop-i
invariant-loop-i l = record {
  inverter : l.engine.inverter ≡ l.fn.engine.inverter;
  long : length l.minutes ≡ 1440;
  above : l.count.above ≤ l.i;
  refused : l.count.refused ≤ l.i;
  rest : run l.fn.engine.inverter 0 l.readings (outset l.fn.engine.area.now)
      ≡ run l.fn.engine.inverter l.i (drop l.i l.readings) (so_far l.count l.engine.area.now (columns (take l.i l.minutes)));
}
