-- Over the minutes: the lines of those so far stand on the page, each of at most 76 bytes.
use Rattle.std.proofs.Common.{◌≡◌, ◌*◌, ◌≤◌, length}
use Rattle.daily.proofs.Writing.{told_lines}
use Rattle.daily.proofs.lines.put_each_minute.Given as goal

abbrev pub invariant-loop-minute : goal.invariant-loop-minute
invariant-loop-minute l = record {
  text : l.page ≡ told_lines l.minutes l.minute-index;
  room : length l.page ≤ 76 * l.minute-index;
}
