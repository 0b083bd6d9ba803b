-- Past the end of the text there is no digit.
use Rattle.std.proofs.Common.{◌∙◌, arith}
use Rattle.fields.proofs.Reading.{none_past}
use Rattle.fields.proofs.digit_at.Goals as goal

pub returns-in_err-get : goal.returns-in_err-get
returns-in_err-get c =
    c.from_residual.ensures ∙ none_past c.args.base c.args.text.now c.args.at c.requires (omega (arith, c.in_err-get.ensures.lookup))
