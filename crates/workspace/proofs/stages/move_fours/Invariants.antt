use Prim.Native.Nat.{◌-◌, ◌*◌}
use lib.Ieee.{Float}
use Rattle.workspace.specs.declared.Vector.{Vector}
use Rattle.workspace.specs.Reads.{Makes, Moved}
use Rattle.workspace.proofs.stages.move_fours.Given as goal

abbrev pub invariant-loop-k : goal.invariant-loop-k
invariant-loop-k g l = (h : (Vector → Float) → Float) → Makes (goal.F-post g l.entry) h → Moved l.n h l.derivative 0 (4 * l.k - 0) l.fn.ten l.ten
