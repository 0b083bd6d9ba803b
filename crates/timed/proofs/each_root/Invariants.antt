-- the first i roots are written
use Rattle.timed.proofs.Roots.{Rooted}
use Rattle.timed.proofs.each_root.Given as goal

abbrev pub invariant-loop-i : goal.invariant-loop-i
invariant-loop-i g l = Rooted l.x l.fn.out l.out l.i
