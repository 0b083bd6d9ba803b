-- a is the chain of the roots so far
use Rattle.std.proofs.Common.{◌≡◌, take}
use Rattle.timed.specs.Left.{root_chain}
use Rattle.timed.proofs.chain.Given as goal

abbrev pub invariant-loop-y : goal.invariant-loop-y
invariant-loop-y g l = l.a ≡ root_chain (take l.y-index l.x)
