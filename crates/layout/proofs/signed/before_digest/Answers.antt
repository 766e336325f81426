use Rattle.std.proofs.Common.{rules}
use Rattle.layout.proofs.Signings.{is_signed, is_not_signed, is_short}
use Rattle.layout.proofs.signed.before_digest.Goals as goal

pub returns-in_err-body : goal.returns-in_err-body
returns-in_err-body c = rw c.from_residual.ensures (is_short c.args.bytes.now c.in_err-body.ensures.cases)

pub returns-then-ne : goal.returns-then-ne
returns-then-ne c = is_not_signed c.args.bytes.now c.in_ok-body.body.now c.in_ok-body.end.now (search rules) (search rules) (cc)

pub returns : goal.returns
returns c = is_signed c.args.bytes.now c.in_ok-body.body.now c.in_ok-body.end.now (search rules) (search rules) (cc)
