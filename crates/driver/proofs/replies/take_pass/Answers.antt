-- By whether the pass is the last. ⊘ is an operation on doubles: it rounds.
use Rattle.std.proofs.Common.{ap, Float}
use Rattle.ieee.specs.Double.{◌⊘◌}
use Rattle.workspace.specs.Vectors.{unpack}
use Rattle.workspace.specs.Kernel.{radius_of}
use Rattle.driver.specs.declared.Record.{Record}
use Rattle.driver.specs.Calls.{at_pass}
use Rattle.driver.proofs.Steps.{iterated, iterates, measured}
use Rattle.driver.proofs.replies.take_pass.Goals as goal

pub returns-then-last_pass : goal.returns-then-last_pass
unfolding radius_of
returns-then-last_pass c =
    let a = c.args in
    let r = a.«record» in
    iterated r (unpack r.n a.area.now) a.derivative.now _ _
    c.turn.ensures.vectors
    (ap (λ (m : Float). m ⊘ r.iteration.perturbation) c.direction_norm-norm.ensures)
    c.last_pass.ensures c.if-last_pass.true
    c.scaled_radius-scaled_radius.ensures c.begin_stages.ensures

pub returns : goal.returns
unfolding at_pass radius_of
returns c =
    let a = c.args in
    let r = a.«record» in
    let on = c.at_pass-on.ensures in
    iterates r (unpack r.n a.area.now) a.derivative.now _ _
    c.turn.ensures.vectors
    (ap (λ (m : Float). m ⊘ r.iteration.perturbation) c.direction_norm-norm.ensures)
    c.last_pass.ensures c.if-last_pass.false on
    (measured _ _ _ (ap (λ (y : Record). y.n) on) c.ask_pass.ensures)
