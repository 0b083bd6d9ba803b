-- The rows of the code are those of the bits, by computation.
use Rattle.std.specs.Prelude.{min}
use Rattle.std.proofs.Common.{◌∙◌}
use Rattle.table.proofs.Rows.{read_by_bits}
use Rattle.tsrkc3_sinh_degree_minus_one.specs.Table.{bits, sinh_degree_minus_one}
use Rattle.tsrkc3_sinh_degree_minus_one.proofs.sinh_degree_minus_one.Goals as goal

pub returns : goal.returns
unfolding sinh_degree_minus_one
returns c = c.entry.ensures ∙ read_by_bits bits (min c.args.s 1000)
