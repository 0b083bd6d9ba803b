-- Each of the first i words stands at its place.
use Rattle.std.proofs.Common.{◌≡◌, ℕ, ◌<◌, length, get_or}
use Rattle.stored.specs.Stored.{word}
use Rattle.stored.proofs.words.Given as goal

abbrev pub invariant-loop-i : goal.invariant-loop-i
invariant-loop-i g l = (length l.words ≡ g.row.N) × ((k : ℕ) → k < l.i → get_or l.words k 0 ≡ word l.s k)
