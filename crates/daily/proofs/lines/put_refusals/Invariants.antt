-- Over the minutes: the lines of those so far that are refused stand on the page, each of at most 62 bytes.
use Rattle.std.proofs.Common.{◌≡◌, ◌+◌, ◌*◌, ◌≤◌, ◌++◌, length}
use Rattle.daily.proofs.Writing.{refused_told}
use Rattle.daily.proofs.lines.put_refusals.Given as goal

abbrev pub invariant-loop-i : goal.invariant-loop-i
invariant-loop-i l = record {
  text : l.page ≡ l.fn.page ++ refused_told l.minutes l.i;
  room : length l.page ≤ length l.fn.page + 62 * l.i;
}
