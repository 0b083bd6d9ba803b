-- What is put is the definition's of the report, of which the lists begin blank.
use Rattle.std.proofs.Common.{refl, ◌∙◌}
use Rattle.daily.proofs.Pages.{blank, day_written}
use Rattle.daily.proofs.day_page.Goals as goal

pub returns-clause-text : goal.returns-clause-text
returns-clause-text c = c.put_day.ensures.text ∙ day_written _ _ (blank c.default-minutes.result c.default-minutes.ensures) refl c.day-day.ensures
