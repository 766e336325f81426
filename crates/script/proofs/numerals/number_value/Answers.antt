use Rattle.std.proofs.Common.{◌+◌, arith}
use Rattle.script.proofs.Reading.{decimal_more, decimal_front}
use Rattle.script.proofs.numerals.number_value.Goals as goal

pub returns-then-number-most : goal.returns-then-number-most
returns-then-number-most c =
    let more = decimal_more c.args.word.now c.loop-c.c-index c.loop-c-test.true in
    let front = decimal_front c.args.word.now (c.loop-c.c-index + 1) in
    let digit = c.in_ok-digit.ensures.cases in
    λ digits small. grind (arith, more, front, digit)
