-- From the last digit on: what was on the page stands, and the digits still to come, of what is left of n, and then those that
-- stand behind them are the whole.
use Rattle.std.proofs.Common.{◌≡◌, ◌+◌, ◌-◌, ◌++◌, length, take, drop}
use Rattle.page.specs.Page.{digits}
use Rattle.page.proofs.Page.put_digits.Given as goal

abbrev pub invariant-loop-i : goal.invariant-loop-i
invariant-loop-i g l = (l.self-inside.end ≡ l.initial.self-inside.end)
    × (length l.self-inside.bytes ≡ length l.initial.self-inside.bytes)
    × (take l.self-inside.end l.self-inside.bytes ≡ take l.initial.self-inside.end l.initial.self-inside.bytes)
    × (digits l.base l.k l.n ≡ digits l.base l.i l.rest ++ take (l.k - l.i) (drop (l.self-inside.end + l.i) l.self-inside.bytes))
