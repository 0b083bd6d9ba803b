-- `others` is 0 exactly where the first i entries are finite
use Rattle.std.proofs.Common.{◌≡◌, ◌≤◌, List, Float, length, take, nat_eq}
use Rattle.norm.specs.Norm as spec
use Rattle.norm.specs.Entries.{Gives}
use Rattle.norm.proofs.every_finite.Given as goal

abbrev pub invariant-loop-i : goal.invariant-loop-i
invariant-loop-i g l =
    (l.others ≤ l.i)
    × ((xs : List Float) → length xs ≡ l.n → Gives (goal.F-post g l.entry) xs → nat_eq l.others 0 ≡ spec.all_finite (take l.i xs))
