use Rattle.std.proofs.Common.{sym, ◌∙◌, arith}
use Rattle.script.proofs.Reading.{two_digits}
use Rattle.script.proofs.numerals.byte_value.Goals as goal

pub returns : goal.returns
returns c =
    two_digits c.args.word.now c.in_ok-digit_value.field-0 c.in_ok-digit_value-2.field-0 (omega arith)
    (sym c.digit_value.ensures.value ∙ c.in_ok-digit_value.was) (sym c.digit_value-2.ensures.value ∙ c.in_ok-digit_value-2.was)
