-- The lines still to be read, after the readings so far, give the same.
use Rattle.std.proofs.Common.{◌≡◌, [], ◌+◌, ◌-◌, length, take}
use Rattle.sheet.specs.Text.{lines_from}
use Rattle.sheet.proofs.read_lines.Given as goal

abbrev pub invariant-loop-i : goal.invariant-loop-i
invariant-loop-i l = record {
  text : l.fields.text ≡ l.fn.fields.text;
  long : length l.readings ≡ length l.fn.readings;
  rest : lines_from l.fn.fields.text.now (length l.fn.readings) l.fn.fields.at 2 []
      ≡ lines_from l.fn.fields.text.now (length l.fn.readings - l.i) l.fields.at (l.i + 2) (take l.i l.readings);
}
