-- By the contracts of `first_line` and `read_lines`.
use Rattle.std.proofs.Common.{ℕ, List, Bor, ap, ◌∙◌, arith}
use Rattle.std.proofs.lemmas.Result.{err_from_is_err_and}
use Rattle.sheet.proofs.Readings.{told, head_some, head_none, lines_of_a_day, read_filled, bad_filled, reads_whole, reads_broken, bad_head, whole, goes_on, bad_line}
use Rattle.sheet.proofs.read.Goals as goal

pub returns-in_err-inverter : goal.returns-in_err-inverter
returns-in_err-inverter c =
    let p = err_from_is_err_and c.from_residual.result c.from_residual.ensures.1 in
    let none = c.in_err-inverter.ensures.ok_part in
    let e = told c.in_err-inverter.ensures.value none in
    rw (p.1, p.2, e) (reads_broken _ (bad_head _ (head_none _ c.new-fields.ensures.text c.first_line.ensures.line none)))

pub returns-in_err-read_lines : goal.returns-in_err-read_lines
returns-in_err-read_lines c =
    let p = err_from_is_err_and c.from_residual-in_err-read_lines.result c.from_residual-in_err-read_lines.ensures.1 in
    let head = head_some _ c.new-fields.ensures.text c.first_line.ensures.line c.in_ok-inverter.ensures.ok_part in
    let text = ap (λ (x : Bor (List ℕ)). x.now) c.first_line.ensures.text ∙ c.new-fields.ensures.text in
    let said = lines_of_a_day _ text c.requires (bad_filled _ _ _ c.in_err-read_lines.ensures.lines) in
    rw (p.1, p.2) (reads_broken _ (bad_line _ head said))

pub returns-then-fields-text : goal.returns-then-fields-text
returns-then-fields-text c =
    let head = head_some _ c.new-fields.ensures.text c.first_line.ensures.line c.in_ok-inverter.ensures.ok_part in
    let text = ap (λ (x : Bor (List ℕ)). x.now) c.first_line.ensures.text ∙ c.new-fields.ensures.text in
    let said = lines_of_a_day _ text c.requires (read_filled _ c.in_ok-read_lines.ensures.lines) in
    reads_broken _ (goes_on _ head said (λ e. omega arith))

pub returns : goal.returns
returns c =
    let head = head_some _ c.new-fields.ensures.text c.first_line.ensures.line c.in_ok-inverter.ensures.ok_part in
    let text = ap (λ (x : Bor (List ℕ)). x.now) c.first_line.ensures.text ∙ c.new-fields.ensures.text in
    let said = lines_of_a_day _ text c.requires (read_filled _ c.in_ok-read_lines.ensures.lines) in
    reads_whole (whole _ head said (omega arith))
