use Prim.Native.Nat.{◌-◌}
use lib.Ieee.{Float}
use Rattle.workspace.specs.declared.Vector.{Vector}
use Rattle.workspace.specs.Reads.{Makes, Moved}
use Rattle.workspace.proofs.stages.move_rest.Given as goal

abbrev pub invariant-loop-i : goal.invariant-loop-i
invariant-loop-i g l = (h : (Vector → Float) → Float) → Makes (goal.F-post g l.entry) h → Moved l.n h l.derivative l.from (l.i - l.from) l.fn.ten l.ten
