use Rattle.std.proofs.Common.{◌∙◌, sym, ap, arith, map}
use lib.ListN.{length-map}
use Rattle.norm.specs.Norm.{lowered}
use Rattle.norm.proofs.Sums.{lowered_at}
use Rattle.norm.proofs.sum_of_lowered.Goals as goal

pub returns : goal.returns
returns g c = λ xs long given.
    c.sum_of_squares.ensures (map lowered xs) (length-map xs lowered ∙ long) (λ i h x p.
    p.2 ∙ ap lowered (given i (omega (arith, length-map xs lowered)) p.0 p.1) ∙ sym (lowered_at xs i))
