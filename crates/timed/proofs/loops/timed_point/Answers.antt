use Rattle.std.proofs.Common.{ap, rules, Float}
use Rattle.workspace.specs.Vectors.{unpack}
use Rattle.workspace.specs.Kernel.{perturbed, perturbed_by}
use Rattle.workspace.proofs.Areas.{becomes_as}
use Rattle.timed.proofs.Stepping.{ran}
use Rattle.timed.proofs.loops.timed_point.Goals as goal

pub returns-then-holds : goal.returns-then-holds
unfolding perturbed
returns-then-holds c =
    let a = c.args in
    ran (search rules) (becomes_as c.perturb.ensures (ap (λ (m : Float). perturbed_by a.n a.perturbation m (unpack a.n a.area.now)) c.direction_norm-norm.ensures))
