use Rattle.std.proofs.Common.{◌∙◌}
use Rattle.digest.proofs.Order.{lex_is_order}
use Rattle.digest.proofs.value.DigestOrd.cmp.Goals as goal

pub returns-clause-order : goal.returns-clause-order
returns-clause-order c = c.cmp.ensures ∙ lex_is_order c.args.self.now.bytes c.args.other.now.bytes
