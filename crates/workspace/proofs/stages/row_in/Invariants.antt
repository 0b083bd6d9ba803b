use mathlib.Core.List.{[], ◌∷◌}
use lib.Ieee.{Float}
use Rattle.workspace.specs.declared.Vector.{Vector}
use Rattle.workspace.specs.Vectors.{derivative, next_stage}
use Rattle.workspace.specs.Reads.{Makes}
use Rattle.workspace.proofs.Taking.{Taking}
use Rattle.workspace.proofs.stages.row_in.Given as goal

abbrev pub invariant-loop-i : goal.invariant-loop-i
invariant-loop-i g l = (h : (Vector → Float) → Float) → Makes (goal.F-post g l.entry) h → Taking derivative l.derivative l.n l.fn.ten ((next_stage, h) ∷ []) l.ten l.i
