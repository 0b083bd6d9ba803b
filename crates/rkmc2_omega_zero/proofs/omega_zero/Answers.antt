-- The rows of the code are those of the bits, by computation.
use Rattle.std.specs.Prelude.{min}
use Rattle.std.proofs.Common.{◌∙◌}
use Rattle.table.proofs.Rows.{read_by_bits}
use Rattle.rkmc2_omega_zero.specs.Table.{bits, omega_zero}
use Rattle.rkmc2_omega_zero.proofs.omega_zero.Goals as goal

pub returns : goal.returns
unfolding omega_zero
returns c = c.entry.ensures ∙ read_by_bits bits (min c.args.s 1000)
