-- A promise on a call of the engine, as one equation. Assumes nothing.
use mathlib.Core.Path.{◌≡◌, ap, ◌∙◌}
use mathlib.Core.List.{List}
use lib.Ieee.{Float}
use Rattle.driver.specs.declared.Answer.{Answer}
use Rattle.driver.specs.declared.Record.{Record}
use Rattle.driver.specs.declared.Counters.{Counters}
use Rattle.driver.specs.Calls.{Called}
use Rattle.driver.specs.Promises.{Meets, holding}
use Rattle.driver.proofs.Counting.{said}
use Rattle.inverter.specs.Day.{called}

pub met : {p : Called} {a : Answer} {r : Record} {c : Counters} {area : List Float} → Meets p a r c area → called a (holding r c area) ≡ p
met {p} {a} {r} {c} {area} h =
    ap (λ (x : Answer). called x (holding r c area)) (said h.answer)
    ∙ ap (λ (x : Record). called p.answer (holding x c area)) h.kept
    ∙ ap (λ (x : Counters). called p.answer (holding p.held.kept x area)) h.counters
    ∙ ap (λ (x : List Float). called p.answer (holding p.held.kept p.held.counters x)) h.area
