use Rattle.std.proofs.Common.{rules}
use Rattle.dayfile.proofs.Parts.{is_signed, is_not_signed, is_short}
use Rattle.dayfile.proofs.reading.body_in.Goals as goal

pub returns-in_default : goal.returns-in_default
returns-in_default c = is_short c.args.bytes.now c.in_default.ensures.cases

pub returns-then-ne : goal.returns-then-ne
returns-then-ne c = is_not_signed c.args.bytes.now c.in-Some.body.now c.in-Some.end.now (search rules) (search rules) (cc)

pub returns : goal.returns
returns c = is_signed c.args.bytes.now c.in-Some.body.now c.in-Some.end.now (search rules) (search rules) (cc)
