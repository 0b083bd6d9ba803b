-- With n at most 512 the product fits, whatever the family.
use Rattle.workspace.proofs.Areas.{at_most_twelve}
use Rattle.std.proofs.Common.{arith}
use Rattle.driver.proofs.checks.whole_area.Goals as goal

pub overflow_mul-result : goal.overflow_mul-result
overflow_mul-result c = omega (arith, at_most_twelve _ c.args.n c.vector_count.ensures, c.requires)
