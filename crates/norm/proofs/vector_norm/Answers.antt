use Rattle.std.proofs.Common.{refl, rules}
use Rattle.std.specs.Float.Ieee.{of_bits}
use Rattle.norm.specs.Norm.{vector_norm}
use Rattle.norm.proofs.vector_norm.Goals as goal

pub returns : goal.returns
unfolding of_bits vector_norm
returns c = c.root_of_squares.ensures c.args.v.now refl (λ i h x p. search rules)
