-- The rows of the code are those of the bits, by computation.
use Rattle.std.specs.Prelude.{min}
use Rattle.std.proofs.Common.{◌∙◌}
use Rattle.table.proofs.Rows.{read_by_bits}
use Rattle.tsrkc3_sinh_degree_minus_two.specs.Table.{bits, sinh_degree_minus_two}
use Rattle.tsrkc3_sinh_degree_minus_two.proofs.sinh_degree_minus_two.Goals as goal

pub returns : goal.returns
unfolding sinh_degree_minus_two
returns c = c.entry.ensures ∙ read_by_bits bits (min c.args.s 1000)
