-- The rows of the code are those of the bits, by computation.
use Rattle.std.specs.Prelude.{min}
use Rattle.std.proofs.Common.{◌∙◌}
use Rattle.table.proofs.Rows.{read_by_bits}
use Rattle.rkmc2_threshold.specs.Table.{bits, threshold}
use Rattle.rkmc2_threshold.proofs.threshold.Goals as goal

pub returns : goal.returns
unfolding threshold
returns c = c.entry.ensures ∙ read_by_bits bits (min c.args.s 999)
