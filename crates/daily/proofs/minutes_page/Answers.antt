-- What is put is the definition's of the report, of which the lists begin blank.
use Rattle.std.proofs.Common.{refl, ◌∙◌}
use Rattle.daily.proofs.Pages.{blank, minutes_written}
use Rattle.daily.proofs.minutes_page.Goals as goal

pub returns-clause-text : goal.returns-clause-text
returns-clause-text c = c.put_minutes.ensures.text ∙ minutes_written _ _ (blank c.default-minutes.result c.default-minutes.ensures) refl c.day-day.ensures
