use mathlib.Core.Path.{◌≡◌, ◌∙◌, sym}
use Prim.Native.Nat.{◌<◌}
use native.Mathlib.Omega.{arith}
use borrow.Author.Rules.{rules}
use lib.Ieee.{Float}
use Rattle.workspace.specs.declared.Vector.{Vector}
use Rattle.workspace.specs.Vectors.{unpack, column, each}
use Rattle.workspace.specs.Kernel.{scaled_error, scaled_error_norm}
use Rattle.workspace.proofs.Areas.{length_each}
use Rattle.workspace.proofs.Columns.{each_column}
use Rattle.workspace.proofs.error.scaled_error_norm.Goals as goal

pub returns : goal.returns
unfolding scaled_error_norm
returns c =
    let a = c.args in
    let l = a.area.now in
    let g : (Vector → Float) → Float = scaled_error a.arguments in
    let long = length_each a.n (unpack a.n l) g in
    c.root_of_squares.ensures (each a.n (unpack a.n l) g) long
    (λ i h x p. let k : i < a.n = omega arith in
    let e : x ≡ g (column a.n l i) = search rules in
    e ∙ sym (each_column a.n l g i k))
    ∙ search rules
