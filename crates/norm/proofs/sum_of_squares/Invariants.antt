-- t is the sum over the first i entries
use Rattle.std.proofs.Common.{◌≡◌, List, Float, length, take}
use Rattle.norm.specs.Norm as spec
use Rattle.norm.specs.Entries.{Gives}
use Rattle.norm.proofs.sum_of_squares.Given as goal

abbrev pub invariant-loop-i : goal.invariant-loop-i
invariant-loop-i g l = (xs : List Float) → length xs ≡ l.n → Gives (goal.F-post g l.entry) xs → l.t ≡ spec.sum_of_squares (take l.i xs)
