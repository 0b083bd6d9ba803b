-- `inverter::day` meets its contract, by those of `sheet::read` and `total_of`. Assumes nothing.
use Rattle.std.proofs.lemmas.Result.{err_from_is_err_and}
use Rattle.sheet.proofs.Readings.{whole_read, broken_read}
use Rattle.sheet.proofs.Soundness.{day_sizes}
use Rattle.inverter.proofs.Run.{reports_day, reports_bad}
use Rattle.inverter.proofs.day.Goals as goal

pub total_of-requires : goal.total_of-requires
total_of-requires c = day_sizes _ _ _ (whole_read _ c.read.ensures c.in_ok-inverter.was)

pub returns-in_err-inverter : goal.returns-in_err-inverter
returns-in_err-inverter c =
    let p = err_from_is_err_and c.from_residual.result c.from_residual.ensures.1 in
    rw (p.1, p.2) (reports_bad _ _ (broken_read _ _ {line = c.in_err-inverter.field-0.0.line} c.read.ensures c.in_err-inverter.was))

pub returns : goal.returns
returns c = reports_day _ _ (whole_read _ c.read.ensures c.in_ok-inverter.was) c.total_of.ensures
