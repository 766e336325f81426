use Rattle.std.proofs.Common.{arith}
use Rattle.std.proofs.Output.{has_written_of_eq}
use Rattle.rehearsal.proofs.Digits.{two_digits}
use Rattle.rehearsal.proofs.answer.HexByteDisplay.fmt.Goals as goal

pub returns-clause-writes : goal.returns-clause-writes
returns-clause-writes g c = λ plain ok.
    has_written_of_eq g.W.Write.write_str_gives _ _ _ _
    (two_digits c.args.self.now.0 _ _ (omega arith) c.hex_digit.ensures.value c.hex_digit.ensures.ascii c.hex_digit-2.ensures.value c.hex_digit-2.ensures.ascii)
    (c.write.ensures.writes plain ok)
