-- By the law of one line and the invariant.
use Rattle.std.proofs.Common.{◌≡◌, ℕ, ◌+◌, ◌-◌, ◌<◌, sym, ap, ◌∙◌, length, take, arith}
use Rattle.std.proofs.Math.ListN.{length-set}
use Rattle.std.proofs.lemmas.Result.{err_from_is_err_and}
use lib.Seq.{take_all}
use Rattle.sheet.specs.Text.{lines_from}
use Rattle.sheet.proofs.Readings.{told, field_some, field_none, line_turn, line_off, line_none, fills_read, fills_bad}
use Rattle.sheet.proofs.read_lines.Goals as goal

pub returns-in_err-bits-clause-lines : goal.returns-in_err-bits-clause-lines
returns-in_err-bits-clause-lines c =
    let a = c.args in
    let l = c.loop-i in
    let p = err_from_is_err_and c.from_residual.result c.from_residual.ensures.1 in
    let none = c.in_err-bits.ensures.ok_part in
    let e = told c.in_err-bits.ensures.value none in
    rw (p.1, p.2, e) (fills_bad _ _ (l.invariant.rest
    ∙ line_off a.fields.now.text.now l.fields.at (l.i + 2) (take l.i l.readings) (length a.readings.now - l.i) (omega arith)
    (field_none _ _ l.invariant.text c.word.ensures.field none)))

pub loop-i-preserved : goal.loop-i-preserved
loop-i-preserved c =
    let a = c.args in
    let l = c.loop-i in
    let h : l.i < length a.readings.now = omega arith in
    let field = field_some _ _ l.invariant.text c.word.ensures.field c.in_ok-bits.ensures.ok_part in
    record {
      text = c.word.ensures.text ∙ l.invariant.text;
      long = length-set l.readings l.i c.float_of.result ∙ l.invariant.long;
      rest = line_turn a.fields.now.text.now (length a.readings.now) a.fields.now.at l.fields.at l.i l.readings _ _ h l.invariant.long field
          c.float_of.ensures l.invariant.rest;
    }

pub returns-clause-lines : goal.returns-clause-lines
returns-clause-lines c =
    let a = c.args in
    let l = c.loop-i in
    let z : length a.readings.now - l.i ≡ 0 = omega arith in
    fills_read
    (l.invariant.rest
    ∙ ap (λ (k : ℕ). lines_from a.fields.now.text.now k l.fields.at (l.i + 2) (take l.i l.readings)) z
    ∙ line_none a.fields.now.text.now l.fields.at (l.i + 2) (take l.i l.readings))
    (sym (take_all l.i l.readings (omega arith)))
