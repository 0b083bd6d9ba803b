-- A loop behind tests ran: the lengths are fit.
use mathlib.Core.List.{List}
use Prim.Native.Nat.{ℕ}
use lib.Ieee.{Float}
use Rattle.workspace.specs.Vectors.{Vectors, Becomes}
use Rattle.timed.specs.Left.{Steps}

module _ {fit : Type 0} {n : ℕ} {l : List Float} {f : Vectors → Vectors} where
  pub ran : {m : List Float} → fit → Becomes n l m f → Steps fit n l m f
  ran h B = record { stepped = λ g. B; left = λ none. absurd (none h) }
