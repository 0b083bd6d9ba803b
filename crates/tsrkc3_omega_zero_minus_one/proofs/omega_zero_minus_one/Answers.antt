-- The rows of the code are those of the bits, by computation.
use Rattle.std.specs.Prelude.{min}
use Rattle.std.proofs.Common.{◌∙◌}
use Rattle.table.proofs.Rows.{read_by_bits}
use Rattle.tsrkc3_omega_zero_minus_one.specs.Table.{bits, omega_zero_minus_one}
use Rattle.tsrkc3_omega_zero_minus_one.proofs.omega_zero_minus_one.Goals as goal

pub returns : goal.returns
unfolding omega_zero_minus_one
returns c = c.entry.ensures ∙ read_by_bits bits (min c.args.s 1000)
