-- Turned away with the refusal found (Ladder); without one, phase and history change.
use Rattle.std.proofs.Common.{refl, sym}
use Rattle.driver.specs.Calls.{abandon}
use Rattle.driver.proofs.Ladder.{refused_keeps, admitted_keeps, same_answer}
use Rattle.driver.proofs.abandon.Goals as goal

pub returns-in-Err : goal.returns-in-Err
unfolding abandon
returns-in-Err c = refused_keeps _ _ _ c.in-Err.ensures c.refused.ensures

pub returns : goal.returns
unfolding abandon
returns c =
    admitted_keeps _ _ (sym c.in_default.ensures)
    (λ _. record { answer = same_answer refl; kept = c.abandoned.ensures; counters = refl; area = refl })
