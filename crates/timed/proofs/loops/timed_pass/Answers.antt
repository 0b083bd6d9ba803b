use Rattle.std.proofs.Common.{ap, rules, Float}
use Rattle.workspace.specs.Vectors.{unpack}
use Rattle.workspace.specs.Kernel.{perturbed, perturbed_by}
use Rattle.workspace.proofs.Areas.{becomes_as, becomes_then}
use Rattle.timed.proofs.Stepping.{ran}
use Rattle.timed.proofs.loops.timed_pass.Goals as goal

pub returns-then-takes : goal.returns-then-takes
unfolding perturbed
returns-then-takes c =
    let a = c.args in
    ran (search rules)
    (becomes_then {g = perturbed a.n a.perturbation} c.turn.ensures
    (becomes_as c.perturb.ensures (ap (λ (m : Float). perturbed_by a.n a.perturbation m (unpack a.n c.turn.new.area)) c.direction_norm-norm.ensures)))
