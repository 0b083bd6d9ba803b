-- The phase is empty, and all else stands.
use Rattle.std.proofs.Common.{ℕ, ap, ◌∙◌, arith}
use Rattle.ieee.specs.Double.{nought}
use Rattle.driver.specs.Calls.{no_figures}
use Rattle.lent.specs.Numbers.{told}
use lib.Ieee.{of_bits}
use Rattle.lent.proofs.Cells.{emptied}
use Rattle.lent.proofs.refuse_candidate.Goals as goal

pub returns : goal.returns
unfolding of_bits
returns c =
    let a = c.args in
    emptied (c.without_figures-answer.ensures ∙ ap (λ (k : ℕ). told 4 k nought no_figures) c.from.ensures) a.wholes.now a.doubles.now (omega arith)
