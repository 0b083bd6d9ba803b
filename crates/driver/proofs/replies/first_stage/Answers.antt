-- The recurrence and stage 1 are those of the definition.
use Rattle.std.proofs.Common.{ap, ◌∙◌}
use Rattle.family.specs.declared.Setting.{Setting}
use Rattle.coefficients.specs.Rows.{recurrence}
use Rattle.driver.proofs.Steps.{begun}
use Rattle.driver.proofs.replies.first_stage.Goals as goal

pub returns : goal.returns
returns c =
    let a = c.args in
    let row = c.first_recurrence-c.ensures ∙ ap (λ (m : Setting). recurrence m a.stages) c.setting.ensures in
    begun a.«record» _ a.scaled_radius a.stages row c.with_radius-known.ensures c.at_stage.ensures
    c.first_stage.ensures.vectors (c.ask_stage.ensures _)
