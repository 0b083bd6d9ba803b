use Rattle.std.proofs.Common.{ap, ◌*◌, arith, length-take-le}
use Rattle.family.specs.declared.Facts.{Facts}
use Rattle.family.specs.Family.{facts_of, kind}
use Rattle.workspace.specs.Vectors.{Vectors}
use Rattle.workspace.specs.Kernel.{with_row_in}
use Rattle.workspace.proofs.Parts.{ten}
use Rattle.workspace.proofs.Rows.{row_beside}
use Rattle.workspace.proofs.stages.row.Goals as goal

pub returns : goal.returns
returns c =
    let x = c.args in
    let d = x.derivative.now in
    let form = (facts_of (kind x.setting)).row in
    let f : Vectors → Vectors = λ w. with_row_in form x.n x.step x.c w d in
    ten x.n x.area.now (omega arith) c.row_by.new.ten (omega (arith, length-take-le (10 * x.n) x.area.now (omega arith))) f (row_beside form x.n x.step x.c d)
    (rw (← ap (λ (y : Facts). y.row) c.facts-form.ensures) c.row_by.ensures)
