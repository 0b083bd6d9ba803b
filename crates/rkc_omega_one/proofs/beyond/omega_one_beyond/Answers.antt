-- The rows of the code are those of the bits, by computation.
use Rattle.std.specs.Prelude.{min}
use Rattle.std.proofs.Common.{◌∙◌}
use Rattle.table.proofs.Rows.{read_by_bits}
use Rattle.rkc_omega_one.specs.Beyond.{bits, omega_one_beyond}
use Rattle.rkc_omega_one.proofs.beyond.omega_one_beyond.Goals as goal

pub returns : goal.returns
unfolding omega_one_beyond
returns c = c.entry.ensures ∙ read_by_bits bits (min c.args.s 800)
