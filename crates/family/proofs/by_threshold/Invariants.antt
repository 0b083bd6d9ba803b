-- The count stays from low to high, and their distance falls.
use Rattle.std.proofs.Common.{◌-◌, ◌≤◌}
use Rattle.family.proofs.ByThreshold.{Between}
use Rattle.family.proofs.by_threshold.Given as goal

abbrev pub invariant-loop-low : goal.invariant-loop-low
invariant-loop-low l = record { to : l.high ≤ 1000; between : Between l.r l.low l.high }

abbrev pub decreases-loop-low : goal.decreases-loop-low
decreases-loop-low l = l.high - l.low
