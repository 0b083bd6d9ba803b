-- Turned away with the refusal found (Ladder); without one (Clear) the first pass is begun.
use Rattle.std.proofs.Common.{ap, arith}
use lib.Ieee.{of_bits}
use Rattle.family.specs.Family.{family_of}
use Rattle.workspace.proofs.Areas.{whole}
use Rattle.driver.specs.declared.Record.{Record}
use Rattle.driver.specs.Calls.{attempt_tests, attempt, attempted, at_pass}
use Rattle.driver.proofs.Ladder.{refused_keeps, admitted_keeps}
use Rattle.driver.proofs.Clear.{clear}
use Rattle.driver.proofs.Steps.{keeps, attempts, measured}
use Rattle.driver.proofs.attempt.Goals as goal

pub returns-in-Err : goal.returns-in-Err
unfolding attempt
returns-in-Err c = refused_keeps _ _ _ c.in-Err.ensures c.refused.ensures

pub perturbation-perturbation-requires : goal.perturbation-perturbation-requires
unfolding attempt_tests
perturbation-perturbation-requires c =
    whole _ _ _ (clear _ _ _ _ c.in_default.ensures).long

pub choose_direction-norm-requires : goal.choose_direction-norm-requires
unfolding attempt_tests
choose_direction-norm-requires c =
    whole _ _ _ (clear _ _ _ _ c.in_default.ensures).long

pub ask_pass-requires-clause-record_in_bounds : goal.ask_pass-requires-clause-record_in_bounds
unfolding attempt_tests at_pass
ask_pass-requires-clause-record_in_bounds c =
    let l = clear _ _ _ _ c.in_default.ensures in
    rw c.at_pass-begun.ensures (omega (arith, whole _ _ _ l.long, c.choose_direction-norm.auto.area))

pub ask_pass-requires-clause-norm_value : goal.ask_pass-requires-clause-norm_value
unfolding at_pass
ask_pass-requires-clause-norm_value c = rw c.at_pass-begun.ensures c.choose_direction-norm.ensures.1

pub returns : goal.returns
unfolding attempt attempt_tests attempted at_pass of_bits
returns c =
    let a = c.args in
    let r = a.«record» in
    let l = clear _ _ _ _ c.in_default.ensures in
    let on = c.at_pass-begun.ensures in
    admitted_keeps _ _ l.none
    (keeps (family_of r.family) r.n _ (cc (l.long, c.choose_direction-norm.auto.area, c.ask_pass.auto.area))
    (attempts r _ a.arguments c.perturbation-perturbation.ensures on c.choose_direction-norm.ensures.0.vectors
    (measured _ _ _ (ap (λ (y : Record). y.n) on) c.ask_pass.ensures)))
