-- Beside the loop over the calls: those still to be made give the same, and no more of them can follow.
use Rattle.std.proofs.Common.{◌≡◌, ◌-◌}
use Rattle.inverter.specs.Day.{given, driven, most_calls}
use Rattle.inverter.proofs.Ends.{Follows}
use Rattle.inverter.proofs.advance.Engine.pass.Given as goal

abbrev pub invariant-loop-call : goal.invariant-loop-call
invariant-loop-call l = record {
  inverter : l.self.inverter ≡ l.fn.self.inverter;
  follows : Follows (most_calls - l._call) (given l.reply l.self.area.now);
  rest : driven l.fn.self.inverter l.inputs.minute l.inputs.reading l.inputs.upcoming most_calls (given l.initial.reply l.initial.self.area.now)
      ≡ driven l.fn.self.inverter l.inputs.minute l.inputs.reading l.inputs.upcoming (most_calls - l._call) (given l.reply l.self.area.now);
}
